-- A literal is undecided exactly if the bytes are a proper front of it; and a row has one tag.
use Rattle.std.specs.Prelude.{ℕ, ◌<◌, ◌≡◌, refl, true, false, List, [], ◌∷◌, ◌++◌, eqb, length, get_or, drop}
use Rattle.std.proofs.Common.{sym, ap, ◌∙◌, ⊎_elim, arith, eq-eqb, eqb-true}
use Rattle.terms.specs.Cases.{two}
use Rattle.step_tags.specs.Table.{Row, rows, no_row, row_in, row_of, row_at}
use Rattle.step_spec.specs.Frame.{front}
use Rattle.step_spec.specs.Pieces.{pieces}
use Rattle.step_spec.specs.Fields.{tag_of}
use Rattle.step_spec.specs.Sound.{FieldsSound, piece_at}

pub record Front (ls s : List ℕ) : Type 0 where
  pub more : 0 < length (drop (length s) ls)
  pub goes_on : ls ≡ s ++ drop (length s) ls

pub front_undecided : (why : ℕ) (ls s : List ℕ) → (why ≡ 1 → ⊥) → front why ls s ≡ 1 → Front ls s
unfolding front
front_undecided why [] s ne h = absurd (omega arith)
front_undecided why (l ∷ ls) [] ne h = record { more = omega arith; goes_on = refl }
front_undecided why (l ∷ ls) (x ∷ xs) ne h =
    ⊎_elim (λ (e : eqb x l ≡ true). let f = front_undecided why ls xs ne (rw e at h) in record { more = f.more; goes_on = rw (eqb-true x l e) (ap (λ (t : List ℕ). l ∷ t) f.goes_on) })
    (λ (e : eqb x l ≡ false). absurd (ne (rw e at h)))
    (two (eqb x l))

pub undecided_front : (why : ℕ) (s t : List ℕ) → 0 < length t → front why (s ++ t) s ≡ 1
unfolding front
undecided_front why [] [] h = absurd (omega arith)
undecided_front why [] (y ∷ ys) h = refl
undecided_front why (x ∷ xs) t h = rw (eq-eqb x x refl) (undecided_front why xs t h)

-- the row of a tag has that tag
row_tag : (rs : List Row) (t : ℕ) → row_in rs t < length rs → (get_or rs (row_in rs t) no_row).tag ≡ t
unfolding row_in
row_tag [] t h = absurd (omega arith)
row_tag (r ∷ rs) t h = ⊎_elim (λ (e : eqb t r.tag ≡ true). rw e (sym (eqb-true t r.tag e))) (λ (e : eqb t r.tag ≡ false). rw e (row_tag rs t (omega (arith, rw e at h)))) (two (eqb t r.tag))

pub row_has : (t : ℕ) → row_of t < 27 → (row_at (row_of t)).tag ≡ t
unfolding row_of rows row_at
row_has t h = row_tag rows t h

pub row_one : (t u : ℕ) → row_of t < 27 → row_of t ≡ row_of u → t ≡ u
unfolding row_of rows
row_one t u h e = sym (row_tag rows t h) ∙ ap (λ (i : ℕ). (get_or rows i no_row).tag) e ∙ row_tag rows u (omega arith)

-- no tag stands twice among fields that are sound
pub tags_once : (type : ℕ) (fs : List ℕ) → FieldsSound type fs → (i j : ℕ) → i < j → j < length (pieces fs) → tag_of (piece_at (pieces fs) i) ≡ tag_of (piece_at (pieces fs) j) → ⊥
tags_once type fs w i j l h e = w.once i j l h (ap row_of e)
