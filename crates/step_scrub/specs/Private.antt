-- Document 02, CR 5: "paints 49, 56, 553, 554 and 58 with spaces of the same length". Which tags
-- these are, outright, so that a shorter `is_private` is refused; that no byte of the fields is in
-- no field; what becomes of one field; and when fields differ in private values alone.
use Rattle.std.specs.Prelude.{ℕ, suc, ◌+◌, ◌≡◌, refl, true, false, ◌⊎◌, List, [], ◌∷◌, eqb, length, take, replicate}
use Rattle.std.proofs.Common.{sym, ap, ◌∙◌, ⊎_elim, eqb-true}
use Rattle.terms.specs.Cases.{two}
use Rattle.step_spec.specs.Pieces.{SOH, equals, until_of, on_first, pieces, closed_by, closed}
use Rattle.step_spec.specs.Fields.{tag_of, value_of}
use Rattle.step_scrub.specs.Scrubbed.{paint_all, joined}

-- SenderCompID, TargetCompID, Username, Password, Text
abbrev pub PrivateTag : ℕ → Type 0
PrivateTag t = ((((t ≡ 49) ⊎ (t ≡ 56)) ⊎ (t ≡ 553)) ⊎ (t ≡ 554)) ⊎ (t ≡ 58)

-- FIELDS THAT END IN SOH ARE THEIR PIECES, each with its SOH: none of their bytes is in no piece
some_first : (x : ℕ) (qs : List (List ℕ)) → (p : List ℕ) × ((ps : List (List ℕ)) × (on_first x qs ≡ p ∷ ps))
unfolding on_first
some_first x [] = (x ∷ [], ([], refl))
some_first x (q ∷ qs) = (x ∷ q, (qs, refl))

some_piece : (y : ℕ) (ys : List ℕ) → (p : List ℕ) × ((ps : List (List ℕ)) × (pieces (y ∷ ys) ≡ p ∷ ps))
unfolding pieces
some_piece y ys =
    ⊎_elim (λ (t : eqb y SOH ≡ true). rw t ([], (pieces ys, refl)))
    (λ (f : eqb y SOH ≡ false). rw f (some_first y (pieces ys)))
    (two (eqb y SOH))

on_first_lem : (x : ℕ) (qs : List (List ℕ)) (p : List ℕ) (ps : List (List ℕ)) → qs ≡ p ∷ ps → joined (on_first x qs) ≡ x ∷ joined qs
unfolding on_first joined
on_first_lem x qs p ps e = rw e

pub pieces_back : (t : List ℕ) → closed t ≡ true → joined (pieces t) ≡ t
unfolding pieces on_first closed closed_by joined
pieces_back [] c = refl
pieces_back (x ∷ []) c = rw c (ap (λ (b : ℕ). b ∷ []) (sym (eqb-true x SOH c)))
pieces_back (x ∷ y ∷ ys) c =
    let e : joined (pieces (y ∷ ys)) ≡ y ∷ ys = pieces_back (y ∷ ys) c in
    let s = some_piece y ys in
    ⊎_elim (λ (t : eqb x SOH ≡ true). rw (t, eqb-true x SOH t) (ap (λ (l : List ℕ). SOH ∷ l) e))
    (λ (f : eqb x SOH ≡ false). rw f (on_first_lem x (pieces (y ∷ ys)) s.0 s.1.0 s.1.1 ∙ ap (λ (l : List ℕ). x ∷ l) e))
    (two (eqb x SOH))

-- ONE FIELD, p as it was sent and q as it is then: the same tag; spaces for a private value, as
-- many as it had bytes; any other field byte for byte
pub record FieldThen (p q : List ℕ) : Type 0 where
  pub tag : tag_of q ≡ tag_of p
  pub gone : PrivateTag (tag_of p) → value_of q ≡ replicate (length (value_of p)) 32
  pub stays : (PrivateTag (tag_of p) → ⊥) → q ≡ p

pub as_many : (ps : List (List ℕ)) → length (paint_all ps) ≡ length ps
unfolding paint_all
as_many [] = refl
as_many (p ∷ ps) = ap suc (as_many ps)

-- FIELDS THAT DIFFER IN PRIVATE VALUES ALONE: each is the same in both; or both have the same
-- private tag, written the same way, and values of one length
pub data AlikeField (p q : List ℕ) : Type 0 where
  same_field : p ≡ q → AlikeField p q
  both_private : PrivateTag (tag_of p) → tag_of p ≡ tag_of q → take (until_of equals p + 1) p ≡ take (until_of equals q + 1) q → length (value_of p) ≡ length (value_of q) → AlikeField p q

pub data AlikeFields : List (List ℕ) → List (List ℕ) → Type 0 where
  no_more : AlikeFields [] []
  one_more : {p q : List ℕ} {ps qs : List (List ℕ)} → AlikeField p q → AlikeFields ps qs → AlikeFields (p ∷ ps) (q ∷ qs)
