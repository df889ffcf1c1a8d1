-- The start's loop: the channels taken so far are names, and stand at the front of the array; and
-- what is left answers what the whole start does. Assumes nothing.
use Prim.Native.Nat.{ℕ, zero, suc, ◌+◌, ◌≤◌, ◌<◌}
use mathlib.Core.Path.{◌≡◌, refl, sym, ap, ◌∙◌}
use mathlib.Core.Bool.{true, false}
use mathlib.Core.Logic.{⊎_elim}
use mathlib.Core.List.{List, [], ◌∷◌, ◌++◌}
use native.Mathlib.Omega.{arith}
use native.Mathlib.Numerals.{add-one}
use lib.Dec.{eqb}
use lib.ListN.{length, get_or, set, take, drop, length-set}
use lib.Seq.{ext_get_or, get_or-set_same, get_or-set_other, length-take-le, get_or-take, take-suc, drop-cons, drop-length}
use borrow.Author.Tests.{eq-eqb, ne_eqb}
use Rattle.std.specs.List.{list_any}
use Rattle.terms.specs.Cases.{less}
use Rattle.month_spec.specs.Page.{places, place_in, tabled, page_of}
use Rattle.month_spec.specs.Calls.{naming_number, start_from, start_number, start_page}
use Rattle.month_spec.specs.Given.{Names, Among}
use Rattle.month_spec.proofs.Lists.{length_tabled, get_d_tabled, is_tabled, tabled_same}
use Rattle.month_spec.proofs.Rules.{found_at, found_not}
use Rattle.month_spec.proofs.Starts.{naming_10, naming_22, naming_21, naming_0, no_names, naming_names, start_taken, start_refused}
use Rattle.month.specs.State.{month_of, no_figures, empty_with}
use Rattle.month.specs.Naming.{Naming}
use Rattle.month.proofs.Loops.{is_there, not_there}
use Rattle.month.proofs.Fill.{Filled, fill_start, fill_step}

-- ---- one channel more

below : (named : ℕ) → named ≤ places → (named ≡ 32 → ⊥) → named < places
below named h ne = ⊎_elim (λ (l : named < 32). l) (λ (g : 32 ≤ named). absurd (ne (omega arith))) (less named 32)

module _ (names : List ℕ) (named channel : ℕ) (n : Naming names named) where
  inside : named ≤ length names
  inside = omega (arith, n.few, n.long)

  front_length : length (take named names) ≡ named
  front_length = length-take-le named names inside

  front_few : length (take named names) ≤ places
  front_few = omega (arith, n.few, front_length)

  pub long_10 : 9999 < channel → 10 ≡ naming_number (take named names) channel
  long_10 h = sym (naming_10 (take named names) front_few channel h)

  pub twice_22 : channel ≤ 9999 → list_any (λ c. eqb c channel) (take named names) ≡ true → 22 ≡ naming_number (take named names) channel
  twice_22 h e =
      let l : place_in names named channel < named = is_there names named channel inside e in
      sym
      (naming_22 (take named names) front_few channel h
      (record { at = place_in names named channel; inside = omega (arith, front_length); same = get_or-take named names _ 0 l ∙ found_at names named channel l }))

  -- where none of them is the channel
  module _ (e : list_any (λ c. eqb c channel) (take named names) ≡ false) where
    new : (j : ℕ) → j < named → get_or names j 0 ≡ channel → ⊥
    new = found_not names named channel (not_there names named channel inside e)

    not_among : Among (take named names) channel → ⊥
    not_among a = let l : a.at < named = omega (arith, a.inside, front_length) in new a.at l (sym (get_or-take named names a.at 0 l) ∙ a.same)

    pub full_21 : channel ≤ 9999 → named ≡ 32 → 21 ≡ naming_number (take named names) channel
    full_21 h f = sym (naming_21 (take named names) front_few channel h not_among (front_length ∙ f))

    pub fine_0 : channel ≤ 9999 → (named ≡ 32 → ⊥) → 0 ≡ naming_number (take named names) channel
    fine_0 h ne = sym (naming_0 (take named names) front_few channel h not_among (omega (arith, front_length, below named n.few ne)))

    -- it is named behind them
    other : (i : ℕ) → i < named → get_or (set names named channel) i 0 ≡ get_or names i 0
    other i h = get_or-set_other names named i channel 0 (λ (q : i ≡ named). omega arith)

    last : named < places → (i : ℕ) → i < named + 1 → named ≤ i → get_or (set names named channel) i 0 ≡ channel
    last room i h g = let q : i ≡ named = omega arith in ap (λ (x : ℕ). get_or (set names named channel) x 0) q ∙ get_or-set_same names named channel 0 (omega (arith, n.long))

    pub named_more : channel ≤ 9999 → (named ≡ 32 → ⊥) → Naming (set names named channel) (named + 1)
    named_more h ne =
        let room = below named n.few ne in
        record {
          few = omega (arith, room);
          long = length-set names named channel ∙ n.long;
          small = λ i l.
              ⊎_elim (λ (g : i < named). let q = other i g in let b = n.small i g in omega arith) (λ (g : named ≤ i). let q = last room i l g in omega arith)
              (less i named);
          apart = λ i j l m e.
              ⊎_elim
              (λ (g : i < named).
              ⊎_elim (λ (k : j < named). n.apart i j g k (sym (other i g) ∙ e ∙ other j k)) (λ (k : named ≤ j). absurd (new i g (sym (other i g) ∙ e ∙ last room j m k)))
              (less j named))
              (λ (g : named ≤ i).
              ⊎_elim (λ (k : j < named). absurd (new j k (sym (other j k) ∙ sym e ∙ last room i l g))) (λ (k : named ≤ j). omega arith) (less j named))
              (less i named);
        }

-- ---- the loop

past_end : (l : List ℕ) (i : ℕ) → length l ≤ i → get_or l i 0 ≡ 0
past_end [] i h = refl
past_end (x ∷ l) zero h = absurd (omega arith)
past_end (x ∷ l) (suc i) h = past_end l i (omega arith)

pub record Begun (cs names : List ℕ) (named : ℕ) : Type 0 where
  pub few : named ≤ length cs
  pub names_so_far : Names (take named cs)
  pub laid : Filled (λ i. get_or cs i 0) places named names
  pub left : start_from (take named cs) (drop named cs) ≡ start_number cs

zeros_at : (names : List ℕ) → names ≡ tabled (λ i. 0) places → (i : ℕ) → get_or names i 0 ≡ 0
zeros_at names e i =
    ⊎_elim (λ (l : i < places). ap (λ (ns : List ℕ). get_or ns i 0) e ∙ get_d_tabled (λ k. 0) places i l)
    (λ (g : places ≤ i). past_end names i (omega (arith, ap length e, length_tabled (λ k. 0) places))) (less i places)

module _ (cs : List ℕ) where
  pub begun : (names : List ℕ) (named : ℕ) → names ≡ tabled (λ i. 0) places → named ≡ 0 → Begun cs names named
  unfolding start_number
  begun names named e z =
      rw z
      (
      record {
        few = omega arith;
        names_so_far = no_names;
        laid = fill_start (λ i. get_or cs i 0) places names (ap length e ∙ length_tabled (λ i. 0) places) (zeros_at names e);
        left = refl;
      })

  module _ (names : List ℕ) (named : ℕ) (b : Begun cs names named) where
    same_front : take named names ≡ take named cs
    same_front =
        let e : length (take named names) ≡ named = length-take-le named names (omega (arith, b.laid.size, b.laid.within)) in
        let f : length (take named cs) ≡ named = length-take-le named cs b.few in
        ext_get_or 0 (take named names) (take named cs) (e ∙ sym f)
        (λ i h. let l : i < named = omega (arith, e) in get_or-take named names i 0 l ∙ b.laid.done i l ∙ sym (get_or-take named cs i 0 l))

    module _ (h : named < length cs) (n x : ℕ) (e : n ≡ naming_number (take named names) x) (is : x ≡ get_or cs named 0) where
      next : drop named cs ≡ x ∷ drop (named + 1) cs
      next = rw (is, add-one named) (drop-cons cs named 0 h)

      grown : take (named + 1) cs ≡ take named cs ++ (x ∷ [])
      grown = rw (is, add-one named) (take-suc cs named 0 h)

      number : n ≡ naming_number (take named cs) x
      number = e ∙ ap (λ (l : List ℕ). naming_number l x) same_front

      -- a channel that is refused answers
      pub stops_here : (n ≡ 0 → ⊥) → n ≡ start_number cs
      stops_here ne =
          number ∙ sym (start_refused (take named cs) x (drop (named + 1) cs) (λ z. ne (number ∙ z))) ∙ ap (start_from (take named cs)) (sym next) ∙ b.left

      -- one that is taken is laid at its place
      pub goes_on : n ≡ 0 → (more : List ℕ) → more ≡ set names named x → named < places → Begun cs more (named + 1)
      goes_on z more f l =
          let taken : naming_number (take named cs) x ≡ 0 = sym number ∙ z in
          record {
            few = omega arith;
            names_so_far = rw grown (naming_names (take named cs) x b.names_so_far taken);
            laid = rw f (fill_step (λ i. get_or cs i 0) places named names x b.laid l is);
            left =
                ap (λ (l : List ℕ). start_from l (drop (named + 1) cs)) grown
                ∙ sym (start_taken (take named cs) x (drop (named + 1) cs) taken)
                ∙ ap (start_from (take named cs)) (sym next) ∙ b.left;
          }

    -- all are taken
    module _ (all : named ≡ length cs) where
      pub done_0 : 0 ≡ start_number cs
      unfolding start_from
      done_0 = ap (λ (l : List ℕ). start_from (take named cs) l) (sym nothing_left) ∙ b.left
        where
          nothing_left : drop named cs ≡ []
          nothing_left = ap (λ (k : ℕ). drop k cs) all ∙ drop-length cs

      pub names_are : names ≡ tabled (λ i. get_or cs i 0) places
      names_are =
          is_tabled (λ i. get_or cs i 0) places names b.laid.size
          (λ i l. ⊎_elim (λ (g : i < named). b.laid.done i g) (λ (g : named ≤ i). b.laid.rest i g ∙ sym (past_end cs i (omega (arith, all)))) (less i named))

  -- the page that is started with them
  pub page_is : (names : List ℕ) (named : ℕ) → 0 ≡ start_number cs → names ≡ tabled (λ i. get_or cs i 0) places → named ≡ length cs → empty_with names named ≡ month_of (start_page cs)
  unfolding empty_with start_page page_of no_figures
  page_is names named z e f = rw (eq-eqb (start_number cs) 0 (sym z)) (rw (e, f))

  -- beside a refusal
  pub empty_page : (names : List ℕ) (named n : ℕ) → names ≡ tabled (λ i. 0) places → named ≡ 0 → n ≡ start_number cs → (n ≡ 0 → ⊥) → empty_with names named ≡ month_of (start_page cs)
  unfolding empty_with start_page page_of no_figures
  empty_page names named n e z q ne = rw (ne_eqb (start_number cs) 0 (λ y. ne (q ∙ y))) (rw (z, e ∙ tabled_same (λ i. 0) (λ i. get_or [] i 0) places (λ i l. refl)))
