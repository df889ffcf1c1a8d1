-- The check 26 in words, and that the test says exactly this: the fields end in SOH; each piece is
-- a tag of the type, `=`, and a value of its form; no tag stands twice; every required
-- one is there.
use Rattle.std.specs.Prelude.{ℕ, zero, suc, ◌<◌, ◌≤◌, ◌≡◌, refl, Bool, true, false, not, ◌||◌, List, [], ◌∷◌, ◌⊎◌, length, get_or, set}
use Rattle.std.proofs.Common.{sym, ap, ◌∙◌, inl, inr, ⊎_elim, arith, length-set, get_or-set_same, get_or-set_other}
use Rattle.std.proofs.lemmas.List.{get_or-replicate}
use Rattle.std.proofs.Math.ListN.{get_or-eq_default}
use Rattle.std.proofs.lemmas.Bool.{not-true}
use Rattle.terms.specs.Cases.{less, same, clash}
use Rattle.digits.specs.Laws.{both}
use Rattle.step_tags.specs.Table.{row_of, has, needs}
use Rattle.step_tags.specs.Laws.{has_row}
use Rattle.step_spec.specs.Pieces.{pieces, closed}
use Rattle.step_spec.specs.Fields.{is_field, tag_of, fits, complete, passes, sound_from, sound_of, none}
use Rattle.step_spec.specs.FieldLaws.{below_each}
use Rattle.step_spec.specs.Sound.{FieldOf, Stands, piece_at, row_at, Passing, seen_of, all_seen, FieldsSound}

field_of : (type : ℕ) (p : List ℕ) → fits type p ≡ true → FieldOf type p
unfolding fits
field_of type p h =
    let a = both _ _ h in
    let b = both (is_field p) _ a.0 in
    record { field = b.0; known = b.1; formed = a.1 }

of_field : (type : ℕ) (p : List ℕ) → FieldOf type p → fits type p ≡ true
unfolding fits
of_field type p f = rw (f.field, f.known, f.formed)

need_row : (type r : ℕ) → needs type r ≡ true → r < 27
unfolding needs
need_row type r h = has_row type r (both (has type r) _ h).0

fit_row : (type : ℕ) (p : List ℕ) → fits type p ≡ true → row_of (tag_of p) < 27
fit_row type p h = has_row type (row_of (tag_of p)) (field_of type p h).known

module _ (type : ℕ) (seen : List Bool) (p : List ℕ) (ps : List (List ℕ)) (long : length seen ≡ 27) (fitting : fits type p ≡ true) where
  abbrev r0 : ℕ
  r0 = row_of (tag_of p)

  abbrev seen' : List Bool
  seen' = set seen r0 true

  here : get_or seen' r0 false ≡ true
  here = get_or-set_same seen r0 true false (omega (arith, long, fit_row type p fitting))

  other : (r : ℕ) → (r ≡ r0 → ⊥) → get_or seen' r false ≡ get_or seen r false
  other r ne = get_or-set_other seen r0 r true false ne

  put : (r : ℕ) → Stands ps r → Stands (p ∷ ps) r
  put r s = record { at = suc s.at; inside = omega (arith, s.inside); is = s.is }

  -- one piece in front
  grown : get_or seen r0 false ≡ false → Passing type seen' ps → Passing type seen (p ∷ ps)
  grown n q = record { each = each1; fresh = fresh1; once = once1; needed = needed1 }
    where
      differs : (i : ℕ) → i < length ps → row_at ps i ≡ r0 → ⊥
      differs i h e = clash here (rw e at (q.fresh i h))

      each1 : (i : ℕ) → i < length (p ∷ ps) → fits type (piece_at (p ∷ ps) i) ≡ true
      each1 zero h = fitting
      each1 (suc i) h = q.each i (omega arith)

      fresh1 : (i : ℕ) → i < length (p ∷ ps) → get_or seen (row_at (p ∷ ps) i) false ≡ false
      fresh1 zero h = n
      fresh1 (suc i) h = sym (other (row_at ps i) (differs i (omega arith))) ∙ q.fresh i (omega arith)

      once1 : (i j : ℕ) → i < j → j < length (p ∷ ps) → row_at (p ∷ ps) i ≡ row_at (p ∷ ps) j → ⊥
      once1 i zero l h e = omega arith
      once1 zero (suc j) l h e = differs j (omega arith) (sym e)
      once1 (suc i) (suc j) l h e = q.once i j (omega arith) (omega arith) e

      needed1 : (r : ℕ) → r < 27 → needs type r ≡ true → (get_or seen r false ≡ true) ⊎ Stands (p ∷ ps) r
      needed1 r h e =
          ⊎_elim (λ (s : get_or seen' r false ≡ true).
          ⊎_elim (λ (k : r ≡ r0). inr (record { at = 0; inside = omega arith; is = sym k })) (λ (k : r ≡ r0 → ⊥). inl (sym (other r k) ∙ s)) (same r r0))
          (λ (s : Stands ps r). inr (put r s))
          (q.needed r h e)

  -- and taken off
  shrunk : Passing type seen (p ∷ ps) → Passing type seen' ps
  shrunk q = record { each = λ i h. q.each (suc i) (omega arith); fresh = fresh1; once = λ i j l h e. q.once (suc i) (suc j) (omega arith) (omega arith) e; needed = needed1 }
    where
      fresh1 : (i : ℕ) → i < length ps → get_or seen' (row_at ps i) false ≡ false
      fresh1 i h = other (row_at ps i) (λ (e : row_at ps i ≡ r0). q.once 0 (suc i) (omega arith) (omega arith) (sym e)) ∙ q.fresh (suc i) (omega arith)

      stood : (r at : ℕ) → at < length (p ∷ ps) → row_at (p ∷ ps) at ≡ r → (get_or seen' r false ≡ true) ⊎ Stands ps r
      stood r zero h e = inl (ap (λ (n : ℕ). get_or seen' n false) (sym e) ∙ here)
      stood r (suc i) h e = inr (record { at = i; inside = omega arith; is = e })

      needed1 : (r : ℕ) → r < 27 → needs type r ≡ true → (get_or seen' r false ≡ true) ⊎ Stands ps r
      needed1 r h e =
          ⊎_elim (λ (s : get_or seen r false ≡ true).
          ⊎_elim (λ (k : r ≡ r0). inl (rw k here)) (λ (k : r ≡ r0 → ⊥). inl (other r k ∙ s)) (same r r0))
          (λ (s : Stands (p ∷ ps) r). stood r s.at s.inside s.is)
          (q.needed r h e)

set_long : (seen : List Bool) (r : ℕ) → length seen ≡ 27 → length (set seen r true) ≡ 27
set_long seen r l = length-set seen r true ∙ l

passing : (type : ℕ) (seen : List Bool) (ps : List (List ℕ)) → length seen ≡ 27 → passes type seen ps ≡ true → Passing type seen ps
unfolding passes complete
passing type seen [] l h =
    record {
      each = λ i k. absurd (omega arith);
      fresh = λ i k. absurd (omega arith);
      once = λ i j k m e. absurd (omega arith);
      needed = λ r k e. inl (seen_of (needs type r) (get_or seen r false) (below_each (λ (i : ℕ). not (needs type i) || get_or seen i false) 27 r h k) e);
    }
passing type seen (p ∷ ps) l h =
    let a = both _ _ h in
    let b = both (fits type p) _ a.0 in
    grown type seen p ps l b.0 (not-true _ b.1) (passing type (set seen (row_of (tag_of p)) true) ps (set_long seen (row_of (tag_of p)) l) a.1)

passed : (type : ℕ) (seen : List Bool) (ps : List (List ℕ)) → length seen ≡ 27 → Passing type seen ps → passes type seen ps ≡ true
unfolding passes
passed type seen [] l q = all_seen type seen (λ r h e. ⊎_elim (λ (s : get_or seen r false ≡ true). s) (λ (s : Stands [] r). absurd (omega (arith, s.inside))) (q.needed r h e))
passed type seen (p ∷ ps) l q =
    let f = q.each 0 (omega arith) in
    rw (f, q.fresh 0 (omega arith), passed type (set seen (row_of (tag_of p)) true) ps (set_long seen (row_of (tag_of p)) l) (shrunk type seen p ps l f q))

-- THE CHECK IN WORDS

no_row : (i : ℕ) → get_or none i false ≡ false
no_row i = ⊎_elim (λ (h : i < 27). get_or-replicate 27 i false false h) (λ (h : 27 ≤ i). get_or-eq_default none false h) (less i 27)

pub fields_sound : (type : ℕ) (fs : List ℕ) → sound_of type fs ≡ true → FieldsSound type fs
unfolding sound_of sound_from
fields_sound type fs h =
    let a = both (closed fs) _ h in
    let q = passing type none (pieces fs) refl a.1 in
    record {
      ends = a.0;
      each = λ i k. field_of type (piece_at (pieces fs) i) (q.each i k);
      once = q.once;
      needed = λ r e. ⊎_elim (λ (s : get_or none r false ≡ true). absurd (clash s (no_row r))) (λ (s : Stands (pieces fs) r). s) (q.needed r (need_row type r e) e);
    }

pub sound_fields : (type : ℕ) (fs : List ℕ) → FieldsSound type fs → sound_of type fs ≡ true
unfolding sound_of sound_from
sound_fields type fs w =
    rw w.ends (passed type none (pieces fs) refl (record {
      each = λ i k. of_field type (piece_at (pieces fs) i) (w.each i k);
      fresh = λ i k. no_row (row_at (pieces fs) i);
      once = w.once;
      needed = λ r k e. inr (w.needed r e);
    }))
