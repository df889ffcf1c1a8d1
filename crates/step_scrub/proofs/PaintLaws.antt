-- What painting leaves: the pieces, their tags, and all that reading judges.
use Prim.Native.Nat.{ℕ, zero, suc, ◌+◌, ◌<◌, ◌≤◌}
use Rattle.std.specs.Prelude.{◌≡◌, refl, Bool, true, false, not, ◌||◌, ◌⊎◌, eqb, ltb, take, drop, set}
use Rattle.std.proofs.Common.{sym, ap, ◌∙◌, inl, inr, arith, length-drop, add-one, take_at, drop_at, take-suc, length-take-le}
use mathlib.Core.List.{List, [], ◌∷◌, ◌++◌, append_assoc}
use Rattle.std.proofs.Math.Logic.{⊎_elim}
use Rattle.std.proofs.Math.ListN.{length, replicate, length-append, length-replicate}
use borrow.Author.Tests.{lt-ltb, eqb-true}
use Rattle.terms.specs.Paper.{pick}
use Rattle.terms.specs.Cases.{two, less, clash}
use Rattle.digits.specs.Digits.{decimal_at}
use Rattle.digits.specs.Laws.{both}
use Rattle.step_tags.specs.Table.{row_of, row_in, row_at, rows, C}
use Rattle.step_tags.specs.Forms.{suits, form_ok, is_unreal}
use Rattle.step_spec.specs.Pieces.{SOH, equals, until_of, pieces, closed}
use Rattle.step_spec.specs.PieceLaws.{until_le, until_found, pieces_cut, closed_cut}
use Rattle.step_spec.specs.Fields.{is_field, tag_of, value_of, fits, passes, sound_of, sound_from, begins52, unreal_in}
use Rattle.step_spec.specs.FieldLaws.{piece, decimal_same, tag_52}
use Rattle.step_scrub.specs.Scrubbed.{is_private, paint_piece, paint_all, joined, painted, all_fields}
use Rattle.step_scrub.proofs.Turns.{mark_in, split_value, painted_cut, fields_cut, closed_found}
use Rattle.step_scrub.specs.PaintLaws.{lacks, lacks_front, lacks_until, lacks_append, Kept, pieces_joined, closed_joined}

lacks_left : (b : ℕ) (s t : List ℕ) → lacks b (s ++ t) ≡ true → lacks b s ≡ true
unfolding lacks
lacks_left b [] t h = refl
lacks_left b (x ∷ xs) t h = let p = both (not (eqb x b)) (lacks b (xs ++ t)) h in rw (p.0, lacks_left b xs t p.1)

lacks_spaces : (n : ℕ) → lacks SOH (replicate n 32) ≡ true
unfolding lacks
lacks_spaces zero = refl
lacks_spaces (suc n) = lacks_spaces n

-- A PAINTED PIECE

-- the first bytes up to the delimiter decide where it stands
until_prefix : (b : ℕ) (p y : List ℕ) → until_of b p < length p → until_of b (take (until_of b p + 1) p ++ y) ≡ until_of b p
until_prefix b p y h =
    let e : take (until_of b p + 1) p ≡ take (until_of b p) p ++ (b ∷ []) = rw add-one (take-suc p (until_of b p) 0 h ∙ rw (until_found b p h)) in
    rw (e, append_assoc) (lacks_until b (take (until_of b p) p) y (lacks_front b p) ∙ length-take-le (until_of b p) p (until_le b p))

module _ (p : List ℕ) (f : is_field p ≡ true) where
  abbrev q : ℕ
  q = until_of equals p

  abbrev head : List ℕ
  head = take (q + 1) p

  head_long : length head ≡ q + 1
  head_long = length-take-le (q + 1) p (omega (arith, mark_in p f))

  -- a piece with another value
  module _ (v : List ℕ) where
    abbrev p' : List ℕ
    p' = head ++ v

    until_same : until_of equals p' ≡ q
    until_same = until_prefix equals p v (mark_in p f)

    head_same : take (q + 1) p' ≡ head
    head_same = take_at head v (q + 1) head_long

    number_same : decimal_at 0 q p' ≡ decimal_at 0 q p
    number_same = sym (decimal_same 0 (q + 1) p' (simp length-append (omega (arith, head_long))) q (omega arith)) ∙ ap (decimal_at 0 q) head_same ∙ decimal_same 0 (q + 1) p (omega (arith, mark_in p f)) q (omega arith)

    pub tag_same : tag_of p' ≡ tag_of p
    unfolding tag_of
    tag_same = rw (until_same, number_same)

    pub value_same : value_of p' ≡ v
    unfolding value_of
    value_same = rw until_same (drop_at head v (q + 1) head_long)

    pub field_same : is_field p' ≡ true
    unfolding is_field
    field_same = rw (until_same, number_same, lt-ltb q (length p') (simp length-append (omega (arith, head_long)))) (both (ltb q (length p)) _ f).1

  pub private_is : is_private (tag_of p) ≡ true → paint_piece p ≡ head ++ replicate (length (value_of p)) 32
  unfolding paint_piece
  private_is y = rw y

  pub public_is : is_private (tag_of p) ≡ false → paint_piece p ≡ p
  unfolding paint_piece
  public_is y = rw y

  pub painted_tag : tag_of (paint_piece p) ≡ tag_of p
  painted_tag = ⊎_elim (λ (y : is_private (tag_of p) ≡ true). rw (private_is y) (tag_same (replicate (length (value_of p)) 32))) (λ (y : is_private (tag_of p) ≡ false). rw (public_is y)) (two (is_private (tag_of p)))

  pub painted_field : is_field (paint_piece p) ≡ true
  painted_field = ⊎_elim (λ (y : is_private (tag_of p) ≡ true). rw (private_is y) (field_same (replicate (length (value_of p)) 32))) (λ (y : is_private (tag_of p) ≡ false). rw (public_is y) f) (two (is_private (tag_of p)))

  -- the value of a private tag is spaces, of its length
  pub painted_value : is_private (tag_of p) ≡ true → value_of (paint_piece p) ≡ replicate (length (value_of p)) 32
  painted_value y = rw (private_is y) (value_same (replicate (length (value_of p)) 32))

  -- again changes nothing
  pub painted_again : paint_piece (paint_piece p) ≡ paint_piece p
  unfolding paint_piece
  painted_again =
      ⊎_elim (λ (y : is_private (tag_of p) ≡ true).
      let v : List ℕ = replicate (length (value_of p)) 32 in
      let n : length v ≡ length (value_of p) = length-replicate (length (value_of p)) 32 in
      rw (private_is y) (rw (tag_same v, y, until_same v, head_same v, value_same v, n)))
      (λ (y : is_private (tag_of p) ≡ false). rw (public_is y) (public_is y))
      (two (is_private (tag_of p)))

  pub painted_lacks : lacks SOH p ≡ true → lacks SOH (paint_piece p) ≡ true
  painted_lacks l =
      ⊎_elim (λ (y : is_private (tag_of p) ≡ true). rw (private_is y) (lacks_append SOH head (replicate (length (value_of p)) 32) (lacks_left SOH head (value_of p) (rw (← split_value p f) l)) (lacks_spaces (length (value_of p)))))
      (λ (y : is_private (tag_of p) ≡ false). rw (public_is y) l)
      (two (is_private (tag_of p)))

-- ITS FORM

or_cases : (a b : Bool) → (a || b) ≡ true → (a ≡ true) ⊎ (b ≡ true)
or_cases true b h = inl refl
or_cases false b h = inr h

-- a private value is text
private_text : (t : ℕ) → is_private t ≡ true → (row_at (row_of t)).form ≡ C
unfolding row_of row_in row_at rows
private_text t h =
    ⊎_elim (λ (a : (((eqb t 49 || eqb t 56) || eqb t 553) || eqb t 554) ≡ true).
    ⊎_elim (λ (b : ((eqb t 49 || eqb t 56) || eqb t 553) ≡ true).
    ⊎_elim (λ (c : (eqb t 49 || eqb t 56) ≡ true).
    ⊎_elim (λ (d : eqb t 49 ≡ true). rw (eqb-true t 49 d)) (λ (d : eqb t 56 ≡ true). rw (eqb-true t 56 d)) (or_cases (eqb t 49) (eqb t 56) c))
    (λ (c : eqb t 553 ≡ true). rw (eqb-true t 553 c))
    (or_cases (eqb t 49 || eqb t 56) (eqb t 553) b))
    (λ (b : eqb t 554 ≡ true). rw (eqb-true t 554 b))
    (or_cases ((eqb t 49 || eqb t 56) || eqb t 553) (eqb t 554) a))
    (λ (a : eqb t 58 ≡ true). rw (eqb-true t 58 a))
    (or_cases (((eqb t 49 || eqb t 56) || eqb t 553) || eqb t 554) (eqb t 58) h)

-- of which the length alone is judged
text_form : (t : ℕ) (u v : List ℕ) → is_private t ≡ true → length u ≡ length v → form_ok (row_of t) u ≡ form_ok (row_of t) v
unfolding suits
text_form t u v h e = rw (private_text t h, e)

pub painted_fits : (type : ℕ) (p : List ℕ) → is_field p ≡ true → fits type (paint_piece p) ≡ fits type p
unfolding fits
painted_fits type p f =
    ⊎_elim (λ (y : is_private (tag_of p) ≡ true).
    let e : form_ok (row_of (tag_of p)) (value_of (paint_piece p)) ≡ form_ok (row_of (tag_of p)) (value_of p) = text_form (tag_of p) _ _ y (ap length (painted_value p f y) ∙ length-replicate (length (value_of p)) 32) in
    rw (painted_tag p f, painted_field p f, f, e))
    (λ (y : is_private (tag_of p) ≡ false). rw (public_is p f y))
    (two (is_private (tag_of p)))

-- ALL PIECES

pub painted_passes : (type : ℕ) (seen : List Bool) (ps : List (List ℕ)) → all_fields ps ≡ true → passes type seen (paint_all ps) ≡ passes type seen ps
unfolding passes paint_all all_fields
painted_passes type seen [] h = refl
painted_passes type seen (p ∷ ps) h =
    let a = both (is_field p) (all_fields ps) h in
    rw (painted_fits type p a.0, painted_tag p a.0, painted_passes type (set seen (row_of (tag_of p)) true) ps a.1)

pub again_all : (ps : List (List ℕ)) → all_fields ps ≡ true → paint_all (paint_all ps) ≡ paint_all ps
unfolding paint_all all_fields
again_all [] h = refl
again_all (p ∷ ps) h = let a = both (is_field p) (all_fields ps) h in rw (painted_again p a.0, again_all ps a.1)

-- so a piece that begins so is no private one, and is not painted
private_not_52 : (p : List ℕ) → is_private (tag_of p) ≡ true → begins52 p ≡ false
private_not_52 p y = ⊎_elim (λ (t : begins52 p ≡ true). absurd (clash (rw (tag_52 p t) at y) refl)) (λ (f : begins52 p ≡ false). f) (two (begins52 p))

painted_52 : (p : List ℕ) → is_field p ≡ true → (b : Bool) → pick (begins52 (paint_piece p)) (is_unreal (drop 3 (paint_piece p))) b ≡ pick (begins52 p) (is_unreal (drop 3 p)) b
painted_52 p f b =
    ⊎_elim (λ (y : is_private (tag_of p) ≡ true). rw (private_not_52 p y, private_not_52 (paint_piece p) (rw (painted_tag p f) y)))
    (λ (y : is_private (tag_of p) ≡ false). rw (public_is p f y))
    (two (is_private (tag_of p)))

pub painted_unreal : (ps : List (List ℕ)) → all_fields ps ≡ true → unreal_in (paint_all ps) ≡ unreal_in ps
unfolding unreal_in paint_all all_fields
painted_unreal [] h = refl
painted_unreal (p ∷ ps) h = let a = both (is_field p) (all_fields ps) h in rw (painted_unreal ps a.1) (painted_52 p a.0 (unreal_in ps))

kept_end : (t : List ℕ) → length t ≤ 0 → Kept t
unfolding pieces paint_all closed painted joined
kept_end [] h = record { pieces_are = refl; closed_is = refl }
kept_end (x ∷ xs) h = absurd (omega arith)

kept_step : (t : List ℕ) (h : until_of SOH t < length t) → is_field (piece t) ≡ true → Kept (drop (suc (until_of SOH t)) t) → Kept t
unfolding paint_all
kept_step t h f k =
    let l = painted_lacks (piece t) f (lacks_front SOH t) in
    let r = painted (drop (suc (until_of SOH t)) t) in
    record {
      pieces_are = ap pieces (painted_cut t h) ∙ pieces_joined (paint_piece (piece t)) r l ∙ ap (λ (ps : List (List ℕ)). paint_piece (piece t) ∷ ps) k.pieces_are ∙ sym (ap paint_all (pieces_cut t h));
      closed_is = ap closed (painted_cut t h) ∙ closed_joined (paint_piece (piece t)) r l ∙ k.closed_is;
    }

kept_all : (n : ℕ) (t : List ℕ) → length t ≤ n → closed t ≡ true → all_fields (pieces t) ≡ true → Kept t
kept_all zero t h c a = kept_end t h
kept_all (suc n) t h c a =
    ⊎_elim (λ (l : 0 < length t).
    let u = closed_found t l c in
    let f = fields_cut t u a in
    kept_step t u f.0 (kept_all n (drop (suc (until_of SOH t)) t) (simp length-drop (omega arith)) (sym (closed_cut t u) ∙ c) f.1))
    (λ (l : length t ≤ 0). kept_end t l)
    (less 0 (length t))

pub kept : (t : List ℕ) → closed t ≡ true → all_fields (pieces t) ≡ true → Kept t
kept t c a = kept_all (length t) t (omega arith) c a

-- WHAT READING JUDGES

module _ (t : List ℕ) (c : closed t ≡ true) (a : all_fields (pieces t) ≡ true) where
  pub painted_sound : (type : ℕ) → sound_of type (painted t) ≡ sound_of type t
  unfolding sound_of sound_from
  painted_sound type = rw ((kept t c a).closed_is, (kept t c a).pieces_are, c) (painted_passes type _ (pieces t) a)

  pub painted_real : unreal_in (pieces (painted t)) ≡ unreal_in (pieces t)
  painted_real = ap unreal_in (kept t c a).pieces_are ∙ painted_unreal (pieces t) a

  pub painted_twice : painted (painted t) ≡ painted t
  unfolding painted
  painted_twice = rw (kept t c a).pieces_are (ap joined (again_all (pieces t) a))
