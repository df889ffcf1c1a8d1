-- Painting, a field at a time.
use Rattle.std.specs.Prelude.{ℕ, zero, suc, ◌+◌, ◌-◌, ◌<◌, ◌≤◌, ◌≡◌, refl, ◌&&◌, ltb, drop, replicate}
use Rattle.std.proofs.Math.Path.{sym, ap}
use Rattle.std.proofs.Common.{◌∙◌, arith, take-append-drop, take_all, drop_at, drop-cons, length-take-le}
use Rattle.std.proofs.Math.Bool.{true, false}
use mathlib.Core.List.{List, [], ◌∷◌, ◌++◌, append_assoc, append-nil}
use Rattle.std.proofs.Math.Logic.{⊎_elim}
use Rattle.std.proofs.Math.ListN.{length, take, length-append, length-drop, length-replicate}
use Rattle.std.proofs.Math.Seq.{take_at}
use borrow.Author.Tests.{ltb-true, lt-ltb}
use Rattle.terms.specs.Paper.{pick}
use Rattle.terms.specs.Cases.{two, less, clash}
use Rattle.octets.specs.Octets.{laid}
use Rattle.octets.specs.Overlays.{laid_mid}
use Rattle.digits.specs.Laws.{both}
use Rattle.step_spec.specs.Pieces.{SOH, equals, until_of, pieces, closed}
use Rattle.step_spec.specs.PieceLaws.{until_le, until_found, pieces_cut, closed_cut, not_closed}
use Rattle.step_spec.specs.Fields.{is_field, tag_of, value_of}
use Rattle.step_spec.specs.FieldLaws.{piece, FieldIs}
use Rattle.step_scrub.specs.Scrubbed.{is_private, paint_piece, paint_all, joined, painted, all_fields}

-- LISTS

module _ (t : List ℕ) (h : until_of SOH t < length t) where
  piece_length : length (piece t) ≡ until_of SOH t
  piece_length = length-take-le (until_of SOH t) t (until_le SOH t)

  -- a piece, its SOH, and the rest
  pub piece_split : t ≡ piece t ++ (SOH ∷ drop (suc (until_of SOH t)) t)
  piece_split = sym (take-append-drop (until_of SOH t) t) ∙ ap (λ (l : List ℕ). piece t ++ l) (drop-cons t (until_of SOH t) 0 h ∙ rw (until_found SOH t h))

  pub painted_cut : painted t ≡ paint_piece (piece t) ++ (SOH ∷ painted (drop (suc (until_of SOH t)) t))
  unfolding painted paint_all joined
  painted_cut = rw (pieces_cut t h)

  pub fields_cut : all_fields (pieces t) ≡ true → (is_field (piece t) ≡ true) × (all_fields (pieces (drop (suc (until_of SOH t)) t)) ≡ true)
  unfolding all_fields
  fields_cut e = both (is_field (piece t)) _ (rw (pieces_cut t h) at e)

-- ONE PIECE

module _ (p : List ℕ) (f : is_field p ≡ true) where
  pub mark_in : until_of equals p < length p
  unfolding is_field
  mark_in = ltb-true _ _ (both (ltb (until_of equals p) (length p)) _ f).0

  value_long : length (value_of p) ≡ length p - (until_of equals p + 1)
  unfolding value_of
  value_long = length-drop (until_of equals p + 1) p

  tag_long : length (take (until_of equals p + 1) p) ≡ until_of equals p + 1
  tag_long = length-take-le _ _ (omega (arith, mark_in))

  pub split_value : p ≡ take (until_of equals p + 1) p ++ value_of p
  unfolding value_of
  split_value = sym (take-append-drop (until_of equals p + 1) p)

  pub painted_long : length (paint_piece p) ≡ length p
  unfolding paint_piece
  painted_long =
      ⊎_elim (λ (t : is_private (tag_of p) ≡ true). rw t (simp (length-append, length-replicate) (omega (arith, tag_long, value_long, mark_in)))) (λ (t : is_private (tag_of p) ≡ false). rw t) (two (is_private (tag_of p)))

-- ONE TURN

module _ (i : ℕ) (s : List ℕ) (tag v n next : ℕ) (here : i ≤ length s) (f : FieldIs i (drop i s) tag v n next) where
  abbrev t : List ℕ
  t = drop i s

  abbrev p : List ℕ
  p = piece t

  abbrev rest : List ℕ
  rest = drop (suc (until_of SOH t)) t

  abbrev tag_part : List ℕ
  tag_part = take (until_of equals p + 1) p

  abbrev turned : List ℕ
  turned = pick (is_private tag) (laid v (replicate n 32) s) s

  split : s ≡ take i s ++ (p ++ (SOH ∷ rest))
  split = sym (take-append-drop i s) ∙ ap (λ (l : List ℕ). take i s ++ l) (piece_split t f.found)

  front_long : length (take i s) ≡ i
  front_long = length-take-le i s here

  pub turn_is : turned ≡ take i s ++ (paint_piece p ++ (SOH ∷ rest))
  unfolding paint_piece
  turn_is =
      ⊎_elim (λ (y : is_private (tag_of p) ≡ true).
      let x : is_private tag ≡ true = rw f.tags y in
      let a : s ≡ (take i s ++ tag_part) ++ (value_of p ++ (SOH ∷ rest)) = split ∙ ap (λ (l : List ℕ). take i s ++ (l ++ (SOH ∷ rest))) (split_value p f.is) ∙ simp append_assoc in
      let l : length (take i s ++ tag_part) ≡ v = simp length-append (omega (arith, front_long, tag_long p f.is, f.starts)) in
      let b : length (replicate n 32) ≡ length (value_of p) = length-replicate n 32 ∙ f.long in
      rw (x, y) (ap (laid v (replicate n 32)) a ∙ laid_mid v (take i s ++ tag_part) (value_of p) (SOH ∷ rest) (replicate n 32) l b ∙ rw f.long (simp append_assoc)))
      (λ (y : is_private (tag_of p) ≡ false). let x : is_private tag ≡ false = rw f.tags y in rw (x, y) split)
      (two (is_private (tag_of p)))

  front : List ℕ
  front = take i s ++ (paint_piece p ++ (SOH ∷ []))

  front_ends : length front ≡ next
  unfolding front
  front_ends = simp length-append (omega (arith, front_long, painted_long p f.is, piece_length t f.found, f.ends))

  turn_split : turned ≡ front ++ rest
  unfolding front
  turn_split = turn_is ∙ simp append_assoc

  pub turn_drop : drop next turned ≡ rest
  turn_drop = ap (drop next) turn_split ∙ drop_at front rest next front_ends

  pub turn_take : take next turned ++ painted rest ≡ take i s ++ painted t
  unfolding front
  turn_take = ap (λ (l : List ℕ). l ++ painted rest) (ap (take next) turn_split ∙ take_at front rest next front_ends) ∙ rw (painted_cut t f.found) (simp append_assoc)

  pub turn_length : length turned ≡ length s
  turn_length = ap length turn_is ∙ simp length-append (omega (arith, painted_long p f.is, ap length split, length-append (take i s) (p ++ (SOH ∷ rest)), length-append p (SOH ∷ rest)))

-- WHERE THE BYTES ARE ALL FIELDS

module _ (t : List ℕ) (some : 0 < length t) (c : closed t ≡ true) where
  pub closed_found : until_of SOH t < length t
  closed_found = ⊎_elim (λ (l : until_of SOH t < length t). l) (λ (l : length t ≤ until_of SOH t). absurd (clash c (not_closed t some l))) (less (until_of SOH t) (length t))

  pub field_here : all_fields (pieces t) ≡ true → (ltb (until_of SOH t) (length t) && is_field (piece t)) ≡ true
  field_here a = rw (lt-ltb _ _ closed_found, (fields_cut t closed_found a).0)

pub painted_end : (t : List ℕ) → length t ≤ 0 → painted t ≡ []
unfolding painted paint_all joined pieces
painted_end [] h = refl
painted_end (x ∷ xs) h = absurd (omega arith)

-- painting keeps the length
painted_step : (t : List ℕ) (h : until_of SOH t < length t) → is_field (piece t) ≡ true → length (painted (drop (suc (until_of SOH t)) t)) ≡ length (drop (suc (until_of SOH t)) t) → length (painted t) ≡ length t
painted_step t h f ih =
    ap length (painted_cut t h)
    ∙ simp length-append (omega (arith, painted_long (piece t) f, ih, ap length (piece_split t h), length-append (piece t) (SOH ∷ drop (suc (until_of SOH t)) t)))

painted_lengths : (n : ℕ) (t : List ℕ) → length t ≤ n → closed t ≡ true → all_fields (pieces t) ≡ true → length (painted t) ≡ length t
painted_lengths zero t h c a = rw (painted_end t h) (omega arith)
painted_lengths (suc n) t h c a =
    ⊎_elim (λ (l : 0 < length t).
    let u = closed_found t l c in
    let f = fields_cut t u a in
    painted_step t u f.0 (painted_lengths n (drop (suc (until_of SOH t)) t) (simp length-drop (omega arith)) (sym (closed_cut t u) ∙ c) f.1))
    (λ (l : length t ≤ 0). rw (painted_end t l) (omega arith))
    (less 0 (length t))

pub painted_length : (t : List ℕ) → closed t ≡ true → all_fields (pieces t) ≡ true → length (painted t) ≡ length t
painted_length t c a = painted_lengths (length t) t (omega arith) c a

pub painted_done : (i : ℕ) (s : List ℕ) → length s ≤ i → take i s ++ painted (drop i s) ≡ s
painted_done i s h = rw (take_all i s h, painted_end (drop i s) (simp length-drop (omega arith))) (append-nil s)
