-- Document 02, CR 5: "paints 49, 56, 553, 554 and 58 with spaces of the same length". Which tags
-- these are, outright, so that a shorter `is_private` is refused; that no byte of the fields is in
-- no field; what becomes of one field; and when fields differ in private values alone.
use Rattle.std.specs.Prelude.{ℕ, zero, suc, ◌<◌, ◌≡◌, refl, true, false, List, [], ◌∷◌, length, get_or}
use Rattle.std.proofs.Common.{⊎_elim, arith}
use Rattle.terms.specs.Cases.{two}
use Rattle.terms.specs.Says.{Says, says_eq, says_or}
use Rattle.digits.specs.Laws.{both}
use Rattle.step_spec.specs.Fields.{is_field, tag_of}
use Rattle.step_scrub.specs.Scrubbed.{is_private, paint_piece, paint_all, all_fields}
use Rattle.step_scrub.proofs.PaintLaws.{painted_value, painted_tag, public_is}
use Rattle.step_scrub.specs.Private.{PrivateTag, FieldThen, both_private, same_field, AlikeField, one_more, no_more, AlikeFields}

pub private_tags : (t : ℕ) → Says (is_private t) (PrivateTag t)
private_tags t = says_or (says_or (says_or (says_or (says_eq t 49) (says_eq t 56)) (says_eq t 553)) (says_eq t 554)) (says_eq t 58)

field_then : (p : List ℕ) → is_field p ≡ true → FieldThen p (paint_piece p)
field_then p f =
    record {
      tag = painted_tag p f;
      gone = λ h. painted_value p f ((private_tags (tag_of p)).1 h);
      stays = λ n. ⊎_elim (λ (y : is_private (tag_of p) ≡ true). absurd (n ((private_tags (tag_of p)).0 y))) (λ (y : is_private (tag_of p) ≡ false). public_is p f y) (two (is_private (tag_of p)));
    }

-- the piece at a place of a row
pub fields_then : (ps : List (List ℕ)) → all_fields ps ≡ true → (i : ℕ) → i < length ps → FieldThen (get_or ps i []) (get_or (paint_all ps) i [])
unfolding all_fields paint_all
fields_then [] a i h = absurd (omega arith)
fields_then (p ∷ ps) a zero h = field_then p (both (is_field p) (all_fields ps) a).0
fields_then (p ∷ ps) a (suc i) h = fields_then ps (both (is_field p) (all_fields ps) a).1 i (omega arith)

alike_piece : (p q : List ℕ) → AlikeField p q → paint_piece p ≡ paint_piece q
unfolding paint_piece
alike_piece p q (same_field e) = rw e
alike_piece p q (both_private h t e n) = rw (t, rw t at ((private_tags (tag_of p)).1 h), e, n)

-- they are painted alike
pub alike_painted : (ps qs : List (List ℕ)) → AlikeFields ps qs → paint_all ps ≡ paint_all qs
unfolding paint_all
alike_painted ps qs no_more = refl
alike_painted ps qs (one_more {p = p} {q = q} {ps = xs} {qs = ys} a rest) = rw (alike_piece p q a, alike_painted xs ys rest)
