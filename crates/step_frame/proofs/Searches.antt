-- The searches of std, in the words of the paper. Assumes nothing.
use Rattle.std.specs.Prelude.{ℕ, zero, suc, min, ◌&&◌, ◌||◌, ◌^◌, ◌+◌, ◌<◌, ◌≤◌, ◌≡◌, refl, Bool, true, false, not, List, [], ◌∷◌, Option, Some, None, ◌-◌, ltb, eqb, length, get_or, take, drop, position}
use Rattle.std.specs.List.{starts_with, take_while, prefix_len, position_or_len}
use Rattle.std.proofs.Common.{sym, ap, ◌∙◌, ⊎_elim, arith, eqb-true, length-drop, length-take-le, take_all, drop-drop, le_of_lt}
use borrow.Author.Tests.{eq-eqb, ne_eqb, lt-ltb, le-ltb}
use Rattle.terms.specs.Paper.{Paper, answer, refusal, pick}
use Rattle.terms.specs.Cases.{two, less, clash, and_false}
use Rattle.digits.specs.Digits.{is_digit, plain, decimal_at, number, nothing}
use Rattle.digits.specs.Digits.{width_of}
use Rattle.digits.specs.Widths.{width_of_lem, width_most}
use Rattle.step_tags.specs.Forms.{some}
use Rattle.step_spec.specs.Pieces.{SOH, equals, until_of}
use Rattle.step_spec.specs.Fields.{is_field, tag_of, value_of, field_front}
use Rattle.step_spec.specs.FieldLaws.{piece, decimal_same, field_none, field_there}
use Rattle.std.proofs.lemmas.Option.{none-some, same_Some}
use Rattle.step_spec.specs.Frame.{front, digit_run, window}

until_place : (b : ℕ) (s : List ℕ) → position_or_len (λ (x : ℕ). eqb x b) s ≡ until_of b s
unfolding until_of
until_place b [] = refl
until_place b (x ∷ xs) =
    ⊎_elim (λ (t : eqb x b ≡ true). rw t) (λ (f : eqb x b ≡ false). rw f (omega (arith, until_place b xs))) (two (eqb x b))

-- the place of the first byte b
pub record Found (b : ℕ) (s : List ℕ) (n : ℕ) : Type 0 where
  pub at : until_of b s ≡ n
  pub within : n < length s

pub found : {r : Option ℕ} (b : ℕ) (s : List ℕ) (n : ℕ) → r ≡ Some n → r ≡ position (λ (x : ℕ). eqb x b) s → Found b s n
found b s n i e =
    ⊎_elim (λ (l : until_of b s < length s). let h : n ≡ until_of b s = same_Some n (until_of b s) (sym i ∙ e ∙ rw (until_place b s, lt-ltb _ _ l)) in record { at = sym h; within = omega (arith, l, h) })
    (λ (g : length s ≤ until_of b s). absurd (none-some n (sym (sym i ∙ e ∙ rw (until_place b s, le-ltb _ _ g)))))
    (less (until_of b s) (length s))

pub not_found : {r : Option ℕ} (b : ℕ) (s : List ℕ) → r ≡ None → r ≡ position (λ (x : ℕ). eqb x b) s → length s ≤ until_of b s
not_found b s i e =
    ⊎_elim (λ (l : until_of b s < length s). absurd (none-some (until_of b s) (sym i ∙ e ∙ rw (until_place b s, lt-ltb _ _ l))))
    (λ (g : length s ≤ until_of b s). g)
    (less (until_of b s) (length s))

-- a piece that ends in SOH, with the first `=` in it
module _ (t : List ℕ) (end mark : ℕ) (e : Found SOH t end) (m : Found equals (take end t) mark) where
  piece_is : piece t ≡ take end t
  piece_is = ap (λ (n : ℕ). take n t) e.at

  marked : until_of equals (piece t) ≡ mark
  marked = ap (until_of equals) piece_is ∙ m.at

  long : length (piece t) ≡ end
  long = ap length piece_is ∙ length-take-le end t (le_of_lt e.within)

  before : mark < end
  before = omega (arith, m.within, ap length piece_is, long)

  moved : decimal_at 0 (until_of equals (piece t)) (piece t) ≡ decimal_at 0 mark t
  moved = rw (marked, piece_is) (decimal_same 0 end t (le_of_lt e.within) mark (le_of_lt before))

  pub tag_lacks : (at : ℕ) → nothing ≡ decimal_at 0 mark t → refusal 26 ≡ field_front at t
  unfolding is_field some
  tag_lacks at h = sym (field_none at t (rw (moved ∙ sym h) (and_false (ltb (until_of equals (piece t)) (length (piece t))))))

  pub field_found : (at tag : ℕ) → number tag ≡ decimal_at 0 mark t → answer 0 (tag ∷ (at + mark + 1) ∷ (end - mark - 1) ∷ (at + end + 1) ∷ []) ≡ field_front at t
  unfolding is_field some tag_of value_of
  field_found at tag h =
      let g : is_field (piece t) ≡ true = rw (lt-ltb (until_of equals (piece t)) (length (piece t)) (omega (arith, long, marked, before)), moved ∙ sym h) in
      let a : tag_of (piece t) ≡ tag = ap (λ (p : Paper). get_or p.values 0 0) (moved ∙ sym h) in
      let l : length (value_of (piece t)) ≡ end - mark - 1 = length-drop (until_of equals (piece t) + 1) (piece t) ∙ omega (arith, long, marked) in
      sym (field_there at t (omega (arith, e.at, e.within)) g ∙ rw (a, l, marked, e.at))

-- no `=` before the SOH
pub mark_lacks : (t : List ℕ) (end at : ℕ) → Found SOH t end → length (take end t) ≤ until_of equals (take end t) → refusal 26 ≡ field_front at t
unfolding is_field
mark_lacks t end at e l = let p : piece t ≡ take end t = ap (λ (n : ℕ). take n t) e.at in sym (field_none at t (rw (p, le-ltb (until_of equals (take end t)) (length (take end t)) l)))

-- how many digits stand in front
pub run_is : (s : List ℕ) → length (take_while is_digit s) ≡ digit_run s
unfolding digit_run
run_is [] = refl
run_is (x ∷ xs) =
    ⊎_elim (λ (t : is_digit x ≡ true). let e : 1 + prefix_len is_digit xs ≡ suc (prefix_len is_digit xs) = omega arith in rw (t, e) (ap suc (run_is xs))) (λ (f : is_digit x ≡ false). rw f) (two (is_digit x))

-- a literal in front
flip : (a b : ℕ) → eqb a b ≡ false → eqb b a ≡ false
flip a b f = ne_eqb b a (λ e. clash (eq-eqb a b (sym e)) f)

pub front_is : (why : ℕ) (ls s : List ℕ) → pick (starts_with eqb s ls) 0 (pick (starts_with eqb ls s) 1 why) ≡ front why ls s
unfolding front
front_is why [] s = refl
front_is why (l ∷ ls) [] = refl
front_is why (l ∷ ls) (x ∷ xs) =
    ⊎_elim (λ (t : eqb x l ≡ true). rw (t, eq-eqb l x (sym (eqb-true x l t))) (front_is why ls xs)) (λ (f : eqb x l ≡ false). rw (f, flip x l f)) (two (eqb x l))

pub expected : (why at : ℕ) (ls s : List ℕ) (a b : Bool) → at ≤ length s → a ≡ starts_with eqb (take (length s - at) (drop at s)) ls → b ≡ starts_with eqb ls (take (length s - at) (drop at s)) → pick a 0 (pick b 1 why) ≡ front why ls (drop at s)
expected why at ls s a b h e f = rw (e, f, take_all (length s - at) (drop at s) (simp length-drop (omega arith))) (front_is why ls (drop at s))

-- the ten bytes that decide the length
pub window_is : (s : List ℕ) (at m : ℕ) → at + 13 ≤ length s → m ≡ min (length (take (length s - (at + 13)) (drop (at + 13) s))) 10 → take m (take (length s - (at + 13)) (drop (at + 13) s)) ≡ window (drop at s)
window_is s at m h e =
    let r : take (length s - (at + 13)) (drop (at + 13) s) ≡ drop 13 (drop at s) = take_all (length s - (at + 13)) (drop (at + 13) s) (simp length-drop (omega arith)) ∙ sym (drop-drop 13 at s) in
    rw r (first_ten (drop 13 (drop at s)) m (rw r at e))
  where
    first_ten : (t : List ℕ) (m : ℕ) → m ≡ min (length t) 10 → take m t ≡ take 10 t
    first_ten t m e =
        ⊎_elim (λ (l : length t < 10). take_all m t (omega (arith, e, l)) ∙ sym (take_all 10 t (omega (arith, l))))
        (λ (l : 10 ≤ length t). let g : m ≡ 10 = omega (arith, e, l) in rw g)
        (less (length t) 10)

-- a needless zero in front
pub plain_is : (k : ℕ) (w : List ℕ) → digit_run w ≡ k → not (ltb 1 k && starts_with eqb w (48 ∷ [])) ≡ plain k (get_or w 0 0)
unfolding digit_run
plain_is k [] e = rw (← e)
plain_is k (x ∷ xs) e =
    ⊎_elim (λ (t : eqb x 48 ≡ true). let i = eqb-true x 48 t in let n : suc (digit_run xs) ≡ k = rw i at e in rw (i, ← n) (only (digit_run xs)))
    (λ (f : eqb x 48 ≡ false). rw (f, flip x 48 f, and_false (ltb 1 k)) (or_true (eqb k 1)))
    (two (eqb x 48))
  where
    only : (n : ℕ) → not (ltb 1 (suc n) && true) ≡ (eqb (suc n) 1 || false)
    only zero = refl
    only (suc n) = rw (lt-ltb 1 (suc (suc n)) (omega arith), ne_eqb (suc (suc n)) 1 (λ e. omega (arith, e)))

    or_true : (b : Bool) → true ≡ (b || true)
    or_true true = refl
    or_true false = refl

-- no number of 64 bits has more than twenty digits
pub few_digits : (n w : ℕ) → n < 10 ^ 20 → w ≡ width_of n → w ≤ 20
few_digits n w h e = rw e (width_most 20 (width_of_lem n h) (omega arith) h)
