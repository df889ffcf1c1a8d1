-- The checks 26 and 7 on the fields behind 35.
use Rattle.std.specs.Prelude.{ℕ, zero, suc, ◌+◌, Bool, true, false, not, ◌&&◌, ◌||◌, List, [], ◌∷◌, eqb, ltb, length, get_or, take, drop, set, replicate}
use Rattle.terms.specs.Paper.{Paper, answer, refusal, pick}
use Rattle.digits.specs.Digits.{decimal_at}
use Rattle.step_tags.specs.Table.{row_of, has, needs}
use Rattle.step_tags.specs.Forms.{some, form_ok, is_unreal}
use Rattle.step_spec.specs.Pieces.{SOH, equals, until_of, pieces, closed}

-- a piece is a field if digits with no needless zero stand before its first `=`: they say the tag,
-- and all behind it is the value
unfoldable pub is_field : List ℕ → Bool
is_field p = ltb (until_of equals p) (length p) && some (decimal_at 0 (until_of equals p) p).values

unfoldable pub tag_of : List ℕ → ℕ
tag_of p = get_or (decimal_at 0 (until_of equals p) p).values 0 0

unfoldable pub value_of : List ℕ → List ℕ
value_of p = drop (until_of equals p + 1) p

-- a field that a type has, with a value of its form
unfoldable pub fits : ℕ → List ℕ → Bool
fits type p = (is_field p && has type (row_of (tag_of p))) && form_ok (row_of (tag_of p)) (value_of p)

unfoldable pub all_below : ℕ → (ℕ → Bool) → Bool
all_below zero f = true
all_below (suc n) f = all_below n f && f n

-- every row that a type needs is seen
unfoldable pub complete : ℕ → List Bool → Bool
complete type seen = all_below 27 (λ (i : ℕ). not (needs type i) || get_or seen i false)

-- the pieces fit, none of a row that is seen already, and all that the type needs are
-- there in the end
unfoldable pub passes : ℕ → List Bool → List (List ℕ) → Bool
passes type seen [] = complete type seen
passes type seen (p ∷ ps) = (fits type p && not (get_or seen (row_of (tag_of p)) false)) && passes type (set seen (row_of (tag_of p)) true) ps

unfoldable pub sound_from : ℕ → List Bool → List ℕ → Bool
sound_from type seen s = closed s && passes type seen (pieces s)

abbrev pub none : List Bool
none = replicate 27 false

-- the check 26
unfoldable pub sound_of : ℕ → List ℕ → Bool
sound_of type s = sound_from type none s

-- the first piece that begins `52=` has the form of a time, and is none
abbrev pub begins52 : List ℕ → Bool
begins52 p = (eqb (get_or p 0 0) 53 && eqb (get_or p 1 0) 50) && eqb (get_or p 2 0) equals

unfoldable pub unreal_in : List (List ℕ) → Bool
unreal_in [] = false
unreal_in (p ∷ ps) = pick (begins52 p) (is_unreal (drop 3 p)) (unreal_in ps)

-- what is said of the fields of a message behind its checksum: 7, else 26, else nothing
unfoldable pub judge_of : ℕ → List ℕ → ℕ
judge_of type s = pick (unreal_in (pieces s)) 7 (pick (sound_of type s) 0 26)

-- the field at the front of t, which is what stands behind a place: its tag, the place and the
-- length of its value, the next place
unfoldable pub field_front : ℕ → List ℕ → Paper
field_front at t =
    pick (ltb (until_of SOH t) (length t) && is_field (take (until_of SOH t) t))
    (answer 0 (tag_of (take (until_of SOH t) t) ∷ (at + until_of equals (take (until_of SOH t) t) + 1) ∷ length (value_of (take (until_of SOH t) t)) ∷ (at + until_of SOH t + 1) ∷ []))
    (refusal 26)

abbrev pub field_at : ℕ → List ℕ → Paper
field_at at s = field_front at (drop at s)
