-- Rows of numbers, those of a row that are so, and counts made one by one. Assumes nothing.
use mathlib.Core.Path.{◌≡◌, refl, sym, ap, ap₂, ◌∙◌}
use mathlib.Core.Bool.{Bool, true, false, ◌&&◌, not}
use mathlib.Core.List.{List, [], ◌∷◌, ◌++◌}
use Prim.Native.Nat.{ℕ, zero, suc, ◌+◌, ◌-◌, ◌≤◌, ◌<◌, suc-le-suc}
use native.Mathlib.Nat.{zero-lt-suc, add-zero, zero-add, suc-add, le_refl}
use native.Mathlib.Decide.{dec_lt, dec_le}
use native.Mathlib.Omega.{arith}
use borrow.Author.Tests.{eq-eqb, ne_eqb, le-leb, lt-leb, lt-ltb, le-ltb, eqb-true}
use lib.Dec.{eqb, leb, ltb}
use lib.ListN.{length}
use Rattle.terms.specs.Cases.{clash}
use Rattle.terms.specs.Paper.{pick}
use Rattle.tick_map.specs.Bits.{tally}
use Rattle.tick_map.proofs.Digits.{tally_ext, tally_split}
use Rattle.tick_map.proofs.Ones.{all_one}
use Rattle.ledger_spec.specs.State.{or_else}
use Rattle.ledger_spec.specs.Words.{numbers, chosen, is_in, one, count}
use Rattle.ledger_spec.proofs.Tests.{and_false}

-- ---- truth values

pub or_true : (b : Bool) → or_else b true ≡ true
or_true true = refl
or_true false = refl

pub or_false : (b : Bool) → or_else b false ≡ b
or_false true = refl
or_false false = refl

pub or_right : (a b : Bool) → or_else a b ≡ false → b ≡ false
or_right true b e = absurd (clash refl e)
or_right false b e = e

pub or_left : (a b : Bool) → or_else a b ≡ false → a ≡ false
or_left true b e = absurd (clash refl e)
or_left false b e = refl

pub or_not : (b : Bool) → or_else (not b) b ≡ true
or_not true = refl
or_not false = refl

-- ---- rows

pub append_nil : (xs : List ℕ) → xs ++ [] ≡ xs
append_nil [] = refl
append_nil (x ∷ xs) = ap (x ∷◌) (append_nil xs)

-- two runs of numbers, one behind the other
pub numbers_join : (a j k : ℕ) → numbers a j ++ numbers (a + j) k ≡ numbers a (j + k)
unfolding numbers
numbers_join a zero k = ap₂ numbers (add-zero a) (sym (zero-add k))
numbers_join a (suc j) k =
    let e : a + suc j ≡ a + 1 + j = omega arith in
    ap (a ∷◌) (ap (λ (x : ℕ). numbers (a + 1) j ++ numbers x k) e ∙ numbers_join (a + 1) j k) ∙ ap (numbers a) (sym (suc-add j k))

pub chosen_ext : (p q : ℕ → Bool) (a k : ℕ) → ((x : ℕ) → a ≤ x → x < a + k → p x ≡ q x) → chosen p (numbers a k) ≡ chosen q (numbers a k)
unfolding chosen numbers
chosen_ext p q a zero h = refl
chosen_ext p q a (suc k) h =
    ap₂ (λ (b : Bool) (l : List ℕ). pick b (a ∷ l) l) (h a (le_refl a) (omega arith)) (chosen_ext p q (a + 1) k (λ x u v. h x (omega arith) (omega arith)))

pub chosen_all : (p : ℕ → Bool) (a k : ℕ) → ((x : ℕ) → a ≤ x → x < a + k → p x ≡ true) → chosen p (numbers a k) ≡ numbers a k
unfolding chosen numbers
chosen_all p a zero h = refl
chosen_all p a (suc k) h =
    ap₂ (λ (b : Bool) (l : List ℕ). pick b (a ∷ l) l) (h a (le_refl a) (omega arith)) (chosen_all p (a + 1) k (λ x u v. h x (omega arith) (omega arith)))

pub chosen_none : (p : ℕ → Bool) (a k : ℕ) → ((x : ℕ) → a ≤ x → x < a + k → p x ≡ false) → chosen p (numbers a k) ≡ []
unfolding chosen numbers
chosen_none p a zero h = refl
chosen_none p a (suc k) h =
    ap₂ (λ (b : Bool) (l : List ℕ). pick b (a ∷ l) l) (h a (le_refl a) (omega arith)) (chosen_none p (a + 1) k (λ x u v. h x (omega arith) (omega arith)))

pub chosen_append : (p : ℕ → Bool) (xs ys : List ℕ) → chosen p (xs ++ ys) ≡ chosen p xs ++ chosen p ys
unfolding chosen
chosen_append p [] ys = refl
chosen_append p (x ∷ xs) ys = ap (λ (l : List ℕ). pick (p x) (x ∷ l) l) (chosen_append p xs ys) ∙ out (p x)
  where
    out : (b : Bool) → pick b (x ∷ (chosen p xs ++ chosen p ys)) (chosen p xs ++ chosen p ys) ≡ pick b (x ∷ chosen p xs) (chosen p xs) ++ chosen p ys
    out true = refl
    out false = refl

-- the numbers of a run
pub in_numbers : (n a k : ℕ) → is_in n (numbers a k) ≡ leb a n && ltb n (a + k)
unfolding numbers
in_numbers n a zero = elim (dec_le a n) [
  | yes h ↦ (let g : a + 0 ≤ n = omega arith in sym (simp (le-leb _ _ h, le-ltb _ _ g)))
  | no h ↦ (let g : n < a = omega arith in sym (simp (lt-leb _ _ g)))
]
in_numbers n a (suc k) = elim (dec_lt n a) [
  | yes h ↦ (
      let ne : n ≡ a → ⊥ = λ e. omega arith in
      let g : n < a + 1 = omega arith in
      ap₂ or_else (ne_eqb n a ne) (in_numbers n (a + 1) k) ∙ simp (lt-leb _ _ g, lt-leb _ _ h))
  | no h ↦ elim (dec_lt a n) [
    | yes g ↦ (
        let ne : n ≡ a → ⊥ = λ e. omega arith in
        let lo : a ≤ n = omega arith in
        let up : a + 1 ≤ n = omega arith in
        let e : a + 1 + k ≡ a + suc k = omega arith in
        ap₂ or_else (ne_eqb n a ne) (in_numbers n (a + 1) k) ∙ simp (le-leb _ _ up, le-leb _ _ lo) (ap (ltb n) e))
    | no g ↦ (
        let eq : n ≡ a = omega arith in
        let lo : a ≤ n = omega arith in
        let up : n < a + suc k = omega arith in
        ap (λ (t : Bool). or_else t (is_in n (numbers (a + 1) k))) (eq-eqb n a eq) ∙ sym (simp (le-leb _ _ lo, lt-ltb _ _ up)))
  ]
]

-- what is chosen is in the row, and so
in_first : (p : ℕ → Bool) (n x : ℕ) (ys xs : List ℕ) (e s : Bool) → eqb n x ≡ e → p x ≡ s → is_in n ys ≡ p n && is_in n xs
    → is_in n (pick s (x ∷ ys) ys) ≡ p n && or_else e (is_in n xs)
in_first p n x ys xs true true q r h = ap (λ (t : Bool). or_else t (is_in n ys)) q ∙ sym (ap (λ (s : Bool). s && true) (ap p (eqb-true n x q) ∙ r))
in_first p n x ys xs true false q r h = let z = ap p (eqb-true n x q) ∙ r in h ∙ ap (λ (s : Bool). s && is_in n xs) z ∙ sym (ap (λ (s : Bool). s && true) z)
in_first p n x ys xs false true q r h = ap (λ (t : Bool). or_else t (is_in n ys)) q ∙ h
in_first p n x ys xs false false q r h = h

pub in_chosen : (p : ℕ → Bool) (n : ℕ) (xs : List ℕ) → is_in n (chosen p xs) ≡ p n && is_in n xs
unfolding chosen
in_chosen p n [] = sym (and_false (p n))
in_chosen p n (x ∷ xs) = in_first p n x (chosen p xs) xs (eqb n x) (p x) refl refl (in_chosen p n xs)

-- how many are chosen
pub length_chosen : (p : ℕ → Bool) (a k : ℕ) → length (chosen p (numbers a k)) ≡ tally (λ i. one (p (a + i))) k
unfolding chosen numbers tally
length_chosen p a zero = refl
length_chosen p a (suc k) =
    head (p a) (chosen p (numbers (a + 1) k))
    ∙ ap₂ (λ (x y : ℕ). one (p x) + y) (sym (add-zero a))
    (length_chosen p (a + 1) k ∙ tally_ext k (λ i. one (p (a + 1 + i))) (λ i. one (p (a + suc i))) (λ i q. let e : a + 1 + i ≡ a + suc i = omega arith in ap (λ (x : ℕ). one (p x)) e))
  where
    head : (t : Bool) (l : List ℕ) → length (pick t (a ∷ l) l) ≡ one t + length l
    head true l = omega arith
    head false l = omega arith

-- ---- counts

pub all_zero : (k : ℕ) (f : ℕ → ℕ) → ((i : ℕ) → i < k → f i ≡ 0) → tally f k ≡ 0
unfolding tally
all_zero zero f h = refl
all_zero (suc k) f h = omega (arith, h 0 (zero-lt-suc k), all_zero k (λ i. f (suc i)) (λ i l. h (suc i) (suc-le-suc l)))

-- one more at one place
one_more : (k i : ℕ) (f g : ℕ → ℕ) → i < k → f i ≡ suc (g i) → ((j : ℕ) → (j ≡ i → ⊥) → f j ≡ g j) → tally f k ≡ 1 + tally g k
unfolding tally
one_more zero i f g h e o = absurd (never h)
  where
    never : i < 0 → ⊥
    never q = omega arith
one_more (suc k) zero f g h e o = omega (arith, e, tally_ext k (λ j. f (suc j)) (λ j. g (suc j)) (λ j q. o (suc j) (λ z. omega arith)))
one_more (suc k) (suc i) f g h e o =
    omega (arith, o 0 (λ z. omega arith), one_more k i (λ j. f (suc j)) (λ j. g (suc j)) (omega arith) e (λ j n. o (suc j) (λ z. n (omega arith))))

-- a number that was not so becomes so
pub count_one : (old : ℕ → Bool) (n k : ℕ) → 1 ≤ n → n ≤ k → old n ≡ false → count (λ x. or_else (eqb x n) (old x)) k ≡ 1 + count old k
unfolding count
count_one old n k lo up new =
    let at : n - 1 + 1 ≡ n = omega arith in
    one_more k (n - 1) (λ i. one (or_else (eqb (i + 1) n) (old (i + 1)))) (λ i. one (old (i + 1))) (omega arith)
    (ap (λ (x : ℕ). one (or_else (eqb x n) (old x))) at ∙ ap (λ (t : Bool). one (or_else t (old n))) (eq-eqb n n refl)
    ∙ sym (ap (λ (x : ℕ). suc (one (old x))) at ∙ ap (λ (t : Bool). suc (one t)) new))
    (λ j g. ap (λ (t : Bool). one (or_else t (old (j + 1)))) (ne_eqb (j + 1) n (λ e. g (omega arith))))

-- a count from 1 to f, and from f + 1 to t
pub count_split : (so : ℕ → Bool) (f t : ℕ) → f ≤ t → count so t ≡ tally (λ i. one (so (i + 1))) f + tally (λ i. one (so (f + i + 1))) (t - f)
unfolding count
count_split so f t h =
    let e : t ≡ f + (t - f) = omega arith in
    ap (tally (λ i. one (so (i + 1)))) e ∙ tally_split f (t - f) (λ i. one (so (i + 1)))

-- none are so above f
pub count_low : (so : ℕ → Bool) (f t : ℕ) → f ≤ t → ((n : ℕ) → f < n → so n ≡ false) → count so t ≡ count so f
unfolding count
count_low so f t h none =
    let z : tally (λ i. one (so (f + i + 1))) (t - f) ≡ 0 = all_zero (t - f) (λ i. one (so (f + i + 1))) (λ i q. ap one (none (f + i + 1) (omega arith))) in
    omega (arith, count_split so f t h)

pub count_ext : (so like : ℕ → Bool) (k : ℕ) → ((n : ℕ) → 1 ≤ n → n ≤ k → so n ≡ like n) → count so k ≡ count like k
unfolding count
count_ext so like k h = tally_ext k (λ i. one (so (i + 1))) (λ i. one (like (i + 1))) (λ i q. ap one (h (i + 1) (omega arith) (omega arith)))

-- two sets apart make a third
tally_two : (m : ℕ) (f g e : ℕ → ℕ) → ((i : ℕ) → i < m → f i + g i ≡ e i) → tally f m + tally g m ≡ tally e m
unfolding tally
tally_two zero f g e w = refl
tally_two (suc m) f g e w = omega (arith, w 0 (zero-lt-suc m), tally_two m (λ i. f (suc i)) (λ i. g (suc i)) (λ i. e (suc i)) (λ i l. w (suc i) (suc-le-suc l)))

pub count_two : (p q s : ℕ → Bool) (k : ℕ) → ((n : ℕ) → 1 ≤ n → n ≤ k → one (p n) + one (q n) ≡ one (s n)) → count p k + count q k ≡ count s k
unfolding count
count_two p q s k h = tally_two k (λ i. one (p (i + 1))) (λ i. one (q (i + 1))) (λ i. one (s (i + 1))) (λ i l. h (i + 1) (omega arith) (omega arith))

pub count_all : (p : ℕ → Bool) (k : ℕ) → ((n : ℕ) → 1 ≤ n → n ≤ k → p n ≡ true) → count p k ≡ k
unfolding count
count_all p k h = all_one k (λ i. one (p (i + 1))) (λ i l. ap one (h (i + 1) (omega arith) (omega arith)))

-- how many are chosen of the numbers from 1 on
pub count_chosen : (p : ℕ → Bool) (k : ℕ) → length (chosen p (numbers 1 k)) ≡ count p k
unfolding count
count_chosen p k =
    length_chosen p 1 k ∙ tally_ext k (λ i. one (p (1 + i))) (λ i. one (p (i + 1))) (λ i q. let e : 1 + i ≡ i + 1 = omega arith in ap (λ (x : ℕ). one (p x)) e)
