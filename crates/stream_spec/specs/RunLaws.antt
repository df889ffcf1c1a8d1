-- The loop of a run: behind what is done, what is left gives what the whole run gives.
use Rattle.std.specs.Prelude.{ℕ, ◌+◌, ◌≤◌, ◌<◌, ◌≡◌, refl, Bool, true, false, not, List, [], ◌∷◌, eqb, drop}
use Rattle.std.proofs.Math.Path.{sym, ap}
use Rattle.std.proofs.Common.{◌∙◌, ⊎_elim, arith, length-drop, drop_of_length-le, eqb-true}
use Rattle.std.proofs.Math.ListN.{length}
use Rattle.std.proofs.lemmas.Bool.{eqb-false, not-false, not-true}
use Rattle.terms.specs.Cases.{two, same, clash}
use Rattle.ledger.specs.State.{book_of, ledger_of}
use Rattle.record.specs.declared.Record.{Record}
use Rattle.walk_laws.specs.Walk.{Says, frame, more, bad, Sight, noted, found}
use Rattle.walk_laws.specs.Waits.{halt, behind}
use Rattle.walk_laws.specs.WaitLaws.{mode_of, notes, ran_at, ran_end, ran_more, ran_frame, ran_bad}
use Rattle.walk_laws.specs.Closing.{final}
use Rattle.walk_laws.specs.Account.{Account, account_of}
use Rattle.reading.specs.declared.Seen.{Seen}
use Rattle.ledger.specs.declared.Ledger.{Ledger}
use Rattle.reading.specs.Seen.{seen_of, seen_number, says_of}
use Rattle.reading.specs.SeenLaws.{says_frame, says_more, says_bad}
use Rattle.reading.proofs.SeenLaws.{seen_fits}
use Rattle.walk_spec.specs.Offers.{offer_of}
use Rattle.walk_spec.specs.Walk.{made_of, record_by, book_by, accepts, refuses}
use Rattle.walk_spec.specs.Counts.{each}
use Rattle.walk_spec.specs.Tables.{noted_at, written_from, noted_length}
use Rattle.stream_spec.specs.declared.Tally.{Tally}
use Rattle.stream_spec.specs.Tally.{tally_with, record_at, tally_after}
use Rattle.stream_spec.specs.Run.{says_in, waits_at, passed_over, stride_of, got_of, accounted_of, RanIs}

-- WHAT A READING SAYS, at the closing call or before it

pub in_frame : (closing : Bool) (x : Seen) → seen_number x ≡ 0 → says_in closing x ≡ frame x.size
in_frame true x z = ap final (says_frame x z)
in_frame false x z = says_frame x z

pub in_more : (closing : Bool) (x : Seen) → waits_at closing (seen_number x) ≡ true → says_in closing x ≡ more
unfolding waits_at
in_more true x e = absurd (clash e refl)
in_more false x e = says_more x (eqb-true _ _ e)

pub in_bad : (closing : Bool) (x : Seen) → (seen_number x ≡ 0 → ⊥) → waits_at closing (seen_number x) ≡ false → says_in closing x ≡ bad
unfolding waits_at
in_bad true x ne e = ⊎_elim (λ (o : seen_number x ≡ 1). ap final (says_more x o)) (λ (nm : seen_number x ≡ 1 → ⊥). ap final (says_bad x ne nm)) (same (seen_number x) 1)
in_bad false x ne e = says_bad x ne (eqb-false _ _ e)

-- A PLACE THAT IS PASSED OVER

note_bad : (p : ℕ) (r : Seen) → notes true bad p r ≡ []
unfolding noted found
note_bad p r = refl

pub passed : (seeking : Bool) (a : ℕ) → passed_over seeking a ≡ true → (seeking ≡ true) × (a ≡ 0 → ⊥)
unfolding passed_over
passed true a e = (refl, eqb-false a 0 (not-true _ e))
passed false a e = absurd (clash e refl)

module _ (seeking closing : Bool) (base p : ℕ) (w : List ℕ) (x : Seen) (h : p < length w) (e : x ≡ seen_of (drop p w)) (n : waits_at closing (seen_number x) ≡ false) where
  over : passed_over seeking (seen_number x) ≡ true → ran_at seen_of (says_in closing) seeking base p w ≡ ran_at seen_of (says_in closing) seeking base (p + 1) w
  over t =
      let q = passed seeking (seen_number x) t in
      rw q.0 (ran_bad seen_of (says_in closing) true base p w h (ap (says_in closing) (sym e) ∙ in_bad closing x q.1 n) ∙ rw (note_bad (base + p) (seen_of (drop p w))))

-- A PLACE THAT IS NOTED

note_frame : (seeking : Bool) (n p : ℕ) (r : Seen) → notes seeking (frame n) p r ≡ record { place = p; read = r } ∷ []
unfolding noted found
note_frame true n p r = refl
note_frame false n p r = refl

note_read : (w : Says) (p : ℕ) (r : Seen) → notes false w p r ≡ record { place = p; read = r } ∷ []
unfolding noted
note_read w p r = refl

pub not_passed : (seeking : Bool) (a : ℕ) → passed_over seeking a ≡ false → (a ≡ 0 → ⊥) → seeking ≡ false
unfolding passed_over
not_passed true a e h = absurd (h (eqb-true a 0 (not-false _ e)))
not_passed false a e h = refl

pub seen_at : (seeking closing : Bool) (base p : ℕ) (w : List ℕ) (x : Seen) → p < length w → x ≡ seen_of (drop p w) → waits_at closing (seen_number x) ≡ false → passed_over seeking (seen_number x) ≡ false
    → (ran_at seen_of (says_in closing) seeking base p w ≡ behind (record { place = base + p; read = x } ∷ []) (ran_at seen_of (says_in closing) (not (eqb (seen_number x) 0)) base (p + stride_of x) w))
    × ((1 ≤ stride_of x) × (p + stride_of x ≤ length w))
unfolding stride_of
seen_at seeking closing base p w x h e n t =
    ⊎_elim
    (λ (z : eqb (seen_number x) 0 ≡ true).
    let a : seen_number x ≡ 0 = eqb-true _ _ z in
    let s : says_in closing (seen_of (drop p w)) ≡ frame x.size = ap (says_in closing) (sym e) ∙ in_frame closing x a in
    let f = seen_fits (drop p w) x.size (ap says_of (sym e) ∙ says_frame x a) in
    let l : p + x.size ≤ length w = omega (arith, length-drop p w, f.1) in
    rw z (ran_frame seen_of (says_in closing) seeking base p w h x.size (omega (arith, f.0)) l s ∙ rw (note_frame seeking x.size (base + p) (seen_of (drop p w)), e), (omega (arith, f.0), l)))
    (λ (z : eqb (seen_number x) 0 ≡ false).
    let s : says_in closing (seen_of (drop p w)) ≡ bad = ap (says_in closing) (sym e) ∙ in_bad closing x (eqb-false _ _ z) n in
    let q = not_passed seeking (seen_number x) t (eqb-false _ _ z) in
    rw (z, q) (ran_bad seen_of (says_in closing) false base p w h s ∙ rw (note_read bad (base + p) (seen_of (drop p w)), e), (omega arith, omega arith)))
    (two (eqb (seen_number x) 0))

-- one reading's record and tally, as the code makes them
module _ (t : Tally) (place : ℕ) (x : Seen) (n : ℕ) (o : Ledger) (ae : n ≡ (offer_of (book_of t.ledger) x).number) (oe : o ≡ ledger_of (offer_of (book_of t.ledger) x).book) where
  made_is : (m : Record) → m ≡ made_of place x n o.floor o.top → m ≡ record_at t (record { place = place; read = x })
  unfolding record_at record_by ledger_of
  made_is m me = me ∙ rw (ae, oe)

  tally_is : (t' : Tally) → t' ≡ tally_with t (seen_number x) o → t' ≡ tally_after t (record { place = place; read = x })
  unfolding tally_after book_by
  tally_is t' te = te ∙ rw oe

one_more : (t t' : Tally) (reading : ℕ) → t'.frames ≡ t.frames + accepts reading → t'.refused ≡ t.refused + refuses reading → t'.frames + t'.refused ≡ t.frames + t.refused + 1
one_more t t' reading f r = omega (arith, f, r, each reading)

pub tallied : (t t' : Tally) (x : Sight Seen) → t' ≡ tally_after t x → t'.frames + t'.refused ≡ t.frames + t.refused + 1
unfolding tally_after tally_with
tallied t t' x e =
    one_more t t' (seen_number x.read) (ap (λ (u : Tally). u.frames) e) (ap (λ (u : Tally). u.refused) e)

-- THE LOOP

abbrev at : Tally → Bool → Bool → ℕ → ℕ → List ℕ → Account Tally Record
at t seeking closing base p w = account_of record_at tally_after t (ran_at seen_of (says_in closing) seeking base p w).seen

-- records, tally, mode, place and bytes of the whole run, from what is left of it
pub record Left (w out₀ : List ℕ) (base : ℕ) (seek closing : Bool) (t₀ : Tally) (k : ℕ) (out : List ℕ) (p : ℕ) (seeking : Bool) (count : ℕ) (t : Tally) : Type 0 where
  pub inside : p ≤ length w
  pub few : count ≤ k + p
  pub counts : t.frames + t.refused ≤ base + p
  pub room : length out ≡ length out₀
  pub mode : (ran_at seen_of (says_in closing) seeking base p w).mode ≡ (got_of base seek closing w).mode
  pub place : (ran_at seen_of (says_in closing) seeking base p w).place ≡ (got_of base seek closing w).place
  pub kept : (ran_at seen_of (says_in closing) seeking base p w).kept ≡ (got_of base seek closing w).kept
  pub written : written_from count (at t seeking closing base p w).records out ≡ written_from k (accounted_of base seek closing t₀ w).records out₀
  pub counted : count + length (at t seeking closing base p w).records ≡ k + length (accounted_of base seek closing t₀ w).records
  pub ends : (at t seeking closing base p w).ledger ≡ (accounted_of base seek closing t₀ w).ledger

pub left_start : (w out : List ℕ) (base : ℕ) (seek closing : Bool) (t : Tally) (k : ℕ) → t.frames + t.refused ≤ base → Left w out base seek closing t k out 0 seek k t
unfolding accounted_of
left_start w out base seek closing t k c =
    let e : base + 0 ≡ base = omega arith in
    record {
      inside = omega arith;
      few = omega arith;
      counts = omega arith;
      room = refl;
      mode = rw e;
      place = rw e;
      kept = rw e;
      written = rw e;
      counted = rw e;
      ends = rw e;
    }

module _ (w out₀ : List ℕ) (base : ℕ) (seek closing : Bool) (t₀ : Tally) (k : ℕ) (out : List ℕ) (p : ℕ) (seeking : Bool) (count : ℕ) (t : Tally) (z : Left w out₀ base seek closing t₀ k out p seeking count t) where
  pub left_over_lem : (x : Seen) → p < length w → x ≡ seen_of (drop p w) → waits_at closing (seen_number x) ≡ false → passed_over seeking (seen_number x) ≡ true → Left w out₀ base seek closing t₀ k out (p + 1) seeking count t
  left_over_lem x h e n v =
      let q = over seeking closing base p w x h e n v in
      record {
        inside = omega arith;
        few = omega (arith, z.few);
        counts = omega (arith, z.counts);
        room = z.room;
        mode = rw q at z.mode;
        place = rw q at z.place;
        kept = rw q at z.kept;
        written = rw q at z.written;
        counted = rw q at z.counted;
        ends = rw q at z.ends;
      }

  pub left_note : (x : Seen) (n : ℕ) (o : Ledger) (m : Record) (t' : Tally) (out' : List ℕ) → p < length w → x ≡ seen_of (drop p w) → waits_at closing (seen_number x) ≡ false → passed_over seeking (seen_number x) ≡ false
      → (n ≡ (offer_of (book_of t.ledger) x).number) × (o ≡ ledger_of (offer_of (book_of t.ledger) x).book)
      → m ≡ made_of (base + p) x n o.floor o.top → t' ≡ tally_with t (seen_number x) o → out' ≡ noted_at count m out
      → Left w out₀ base seek closing t₀ k out' (p + stride_of x) (not (eqb (seen_number x) 0)) (count + 1) t'
  unfolding account_of written_from
  left_note x n o m t' out' h e nw v oe me te g =
      let s = seen_at seeking closing base p w x h e nw v in
      let q = s.0 in
      let f = made_is t (base + p) x n o oe.0 oe.1 m me in
      let u = tally_is t (base + p) x n o oe.0 oe.1 t' te in
      record {
        inside = s.1.1;
        few = omega (arith, z.few, s.1.0);
        counts = omega (arith, z.counts, s.1.0, tallied t t' (record { place = base + p; read = x }) u);
        room = ap length g ∙ noted_length count m out ∙ z.room;
        mode = rw q at z.mode;
        place = rw q at z.place;
        kept = rw q at z.kept;
        written = rw (g, f, u) (rw q at z.written);
        counted = rw u (omega (arith, rw q at z.counted));
        ends = rw u (rw q at z.ends);
      }

  stop : (l : List ℕ) → ran_at seen_of (says_in closing) seeking base p w ≡ halt (mode_of seeking) (base + p) l → l ≡ drop p w
      → (RanIs w base seek closing t₀ k p seeking count t) × (out ≡ written_from k (accounted_of base seek closing t₀ w).records out₀)
  unfolding account_of written_from
  stop l q e = (
    record {
      inside = z.inside;
      mode = sym (rw q at z.mode);
      place = sym (rw q at z.place);
      kept = sym (rw q at z.kept) ∙ e;
      counted = omega (arith, rw q at z.counted);
      ends = rw q at z.ends;
    },
    rw q at z.written,
  )

  pub left_wait : (x : Seen) → p < length w → x ≡ seen_of (drop p w) → waits_at closing (seen_number x) ≡ true → (RanIs w base seek closing t₀ k p seeking count t) × (out ≡ written_from k (accounted_of base seek closing t₀ w).records out₀)
  left_wait x h e a = stop (drop p w) (ran_more seen_of (says_in closing) seeking base p w h (ap (says_in closing) (sym e) ∙ in_more closing x a)) refl

  pub left_end : length w ≤ p → (RanIs w base seek closing t₀ k p seeking count t) × (out ≡ written_from k (accounted_of base seek closing t₀ w).records out₀)
  left_end h = stop [] (ran_end seen_of (says_in closing) seeking base p w h) (sym (drop_of_length-le w h))
