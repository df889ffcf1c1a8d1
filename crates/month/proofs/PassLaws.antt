-- The pass over a capture: row j is what channel j's frames so far made of it, and what is left
-- makes the rest. Assumes nothing.
use Prim.Native.Nat.{ℕ, ◌≤◌, ◌<◌}
use mathlib.Core.Path.{◌≡◌, refl, sym, ap, ◌∙◌}
use mathlib.Core.Logic.{⊎_elim}
use mathlib.Core.List.{List, [], ◌∷◌, ◌++◌, append_assoc, append-nil}
use native.Mathlib.Omega.{arith}
use lib.ListN.{length, get_or, set, drop, length-set, length-append}
use lib.Seq.{get_or-set_same, get_or-set_other}
use lib.Dec.{eqb}
use borrow.Author.Tests.{eq-eqb, ne_eqb}
use Rattle.std.specs.Prelude.{true, false, Result, Ok, Err, ⊤, is_err}
use Rattle.terms.specs.Cases.{same, clash}
use Rattle.terms.specs.Refusals.{refusal_pos}
use Rattle.terms.specs.Verdicts.{verdict_number}
use Rattle.terms.specs.declared.Refusal.{Refusal}
use Rattle.channels_spec.proofs.Least.{least_at, least_all}
use Rattle.walk_laws.specs.Walk.{Sight}
use Rattle.walk_laws.specs.Frames.{reads_of}
use Rattle.walk_laws.specs.Literal.{from_of, sight_at, from_end}
use Rattle.reading.specs.declared.Seen.{Seen}
use Rattle.reading.specs.Seen.{seen_of, seen_number, says_of}
use Rattle.walk_spec.specs.Onward.{Goes}
use Rattle.clean_spec.specs.Figures.{reads, reads_frame, reads_refused}
use Rattle.month_spec.specs.Figures.{reads_in}
use Rattle.month_spec.specs.Page.{places, place_in}
use Rattle.month_spec.proofs.Rules.{found_at, found_not}
use Rattle.month.specs.declared.Row.{Row}
use Rattle.month.specs.Naming.{Naming, Hinted}
use Rattle.month.specs.Rows.{row_after, Turned, Roomy, Kept}
use Rattle.month.proofs.RowLaws.{row_other, row_own, Few, few_none, few_more, roomy_row}

-- ---- fresh rows

pub record Opened (channels : List ℕ) (named j : ℕ) (rows : List Row) : Type 0 where
  pub size : length rows ≡ places
  pub within : j ≤ named
  pub each : (i : ℕ) (d : Row) → i < j → get_or rows i d ≡ row_after (get_or channels i 0) []

-- ---- the pass

-- a place that has the channel is its place: no other named one has it
pub hint_holds : (channels : List ℕ) (named : ℕ) → Naming channels named → (i channel : ℕ) → i < named → get_or channels i 0 ≡ channel → i ≡ place_in channels named channel
hint_holds channels named n i channel h e =
    sym
    (least_at (λ k. eqb (get_or channels k 0) channel) named i h (eq-eqb _ _ e)
    (λ j l. ne_eqb _ _ (λ f. let q = n.apart j i (omega arith) h (f ∙ sym e) in omega arith)))

-- where none is hinted at, none has it
pub hint_none : (channels : List ℕ) (named hint channel : ℕ) → Hinted channels named channel hint → named ≤ hint → named ≡ place_in channels named channel
hint_none channels named hint channel f h =
    sym (least_all (λ k. eqb (get_or channels k 0) channel) named (λ j l. ne_eqb _ _ (λ e. let q = f j l e in omega arith)))

-- an answer that is an error is no 0
pub err_refused : (v : Result ⊤ Refusal) → is_err v ≡ true → verdict_number v ≡ 0 → ⊥
err_refused (Ok _) e z = clash refl (sym e)
err_refused (Err w) e z = refusal_pos w z

pub ok_accepted : (v : Result ⊤ Refusal) → is_err v ≡ false → verdict_number v ≡ 0
ok_accepted (Ok _) e = refl
ok_accepted (Err w) e = absurd (clash refl e)

-- done: the accepted frames so far. They and what is left are all that the capture has.
pub record Left (s channels : List ℕ) (named : ℕ) (rows : List Row) (p : ℕ) : Type 0 where
  pub inside : p ≤ length s
  pub done : List Seen
  pub split : done ++ reads (from_of seen_of says_of p s) ≡ reads_in s
  pub short : length done ≤ p
  pub few : Few done
  pub kept : Kept channels named done rows

module _ (s channels : List ℕ) (named : ℕ) where
  pub left_start : (rows : List Row) → Kept channels named [] rows → Left s channels named rows 0
  left_start rows k = record { inside = omega arith; done = []; split = refl; short = omega arith; few = few_none; kept = k }

  -- at the end nothing is left
  pub left_end : (rows : List Row) (p : ℕ) → Left s channels named rows p → length s ≤ p → Kept channels named (reads_in s) rows
  unfolding reads_of
  left_end rows p w h =
      let e : w.done ≡ reads_in s = sym (append-nil w.done) ∙ ap (λ (xs : List (Sight Seen)). w.done ++ reads xs) (sym (from_end seen_of says_of p s h)) ∙ w.split in
      rw e at w.kept

  -- one reading more
  module _ (rows : List Row) (p r : ℕ) (w : Left s channels named rows p) (x : Seen) (xe : x ≡ seen_of (drop p s)) (g : Goes s p r) where
    here : reads (from_of seen_of says_of p s) ≡ reads (sight_at seen_of says_of p s ∷ from_of seen_of says_of r s)
    here = ap reads g.rest

    -- a refused one is passed over
    pub left_refused : (seen_number x ≡ 0 → ⊥) → Left s channels named rows r
    left_refused ne =
        record {
          inside = g.inside;
          done = w.done;
          split =
              ap (λ (l : List Seen). w.done ++ l) (sym (here ∙ reads_refused (sight_at seen_of says_of p s) (from_of seen_of says_of r s) (λ e. ne (ap seen_number xe ∙ e))))
              ∙ w.split;
          short = omega (arith, w.short, g.further);
          few = w.few;
          kept = w.kept;
        }

    module _ (z : seen_number x ≡ 0) where
      abbrev longer : List Seen
      longer = w.done ++ (x ∷ [])

      split_more : longer ++ reads (from_of seen_of says_of r s) ≡ reads_in s
      split_more =
          append_assoc w.done (x ∷ []) (reads (from_of seen_of says_of r s))
          ∙ ap (λ (y : Seen). w.done ++ (y ∷ reads (from_of seen_of says_of r s))) xe
          ∙ ap (λ (l : List Seen). w.done ++ l)
          (sym (here ∙ reads_frame (sight_at seen_of says_of p s) (from_of seen_of says_of r s) (ap seen_number (sym xe) ∙ z)))
          ∙ w.split

      more : (rows' : List Row) → Kept channels named longer rows' → Left s channels named rows' r
      more rows' k =
          record {
            inside = g.inside;
            done = longer;
            split = split_more;
            short = omega (arith, w.short, g.further, length-append w.done (x ∷ []));
            few = few_more w.done x z w.few;
            kept = k;
          }

      module _ (n : Naming channels named) where
        -- a frame of no named channel leaves every row
        pub left_none : named ≤ place_in channels named x.channel.0 → Left s channels named rows r
        left_none h =
            more rows
            (record {
              all_places = w.kept.all_places;
              row_is = λ j d l.
                  w.kept.row_is j d l
                  ∙ sym (row_other (get_or channels j 0) (n.small j l) w.done x z (λ e. found_not channels named x.channel.0 h j l (sym e)));
            })

        -- a frame of a named one turns its row
        module _ (i : ℕ) (ie : i ≡ place_in channels named x.channel.0) (h : i < named) (d : Row) where
          own : x.channel.0 ≡ get_or channels i 0
          own = sym (found_at channels named x.channel.0 (rw ie at h)) ∙ ap (λ (k : ℕ). get_or channels k 0) (sym ie)

          pub row_roomy : length s < 18446744073709551615 → Roomy (get_or rows i d)
          row_roomy l = roomy_row (get_or channels i 0) w.done (get_or rows i d) w.few (omega (arith, w.short, w.inside)) (w.kept.row_is i d h)

          pub left_own : (t : Row) → Turned (get_or rows i d) x t → Left s channels named (set rows i t) r
          left_own t turn =
              more (set rows i t)
              (record {
                all_places = length-set rows i t ∙ w.kept.all_places;
                row_is = λ j d' l.
                    ⊎_elim
                    (λ (q : j ≡ i).
                    ap (λ (k : ℕ). get_or (set rows i t) k d') q
                    ∙ get_or-set_same rows i t d' (omega (arith, w.kept.all_places, n.few))
                    ∙ row_own (get_or channels i 0) (n.small i h) w.done x z own (get_or rows i d) t (w.kept.row_is i d h) turn
                    ∙ ap (λ (k : ℕ). row_after (get_or channels k 0) longer) (sym q))
                    (λ (ne : j ≡ i → ⊥).
                    get_or-set_other rows i j t d' ne
                    ∙ w.kept.row_is j d' l
                    ∙ sym (row_other (get_or channels j 0) (n.small j l) w.done x z (λ e. ne (n.apart j i l h (sym e ∙ own)))))
                    (same j i);
              })
