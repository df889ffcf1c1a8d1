-- The rows seen so far as one number, and that it says what the list of them says.
use Rattle.std.specs.Prelude.{ℕ, zero, suc, ◌+◌, ◌*◌, ◌/◌, ◌%◌, ◌^◌, ◌<◌, min, ◌≡◌, refl, Bool, true, false, not, ◌||◌, List, [], ◌∷◌, ◌⊎◌, eqb, length, get_or, set}
use Rattle.std.proofs.Common.{sym, ap, ◌∙◌, ⊎_elim, pow-suc, arith, eq-eqb, ne_eqb, eqb-true}
use Rattle.std.specs.Int.Bits.{bit_and, and_step, and_zero_r}
use Rattle.std.proofs.lemmas.Nat.{and_shr}
use Rattle.std.proofs.lemmas.Bool.{eqb-false}
use Rattle.terms.specs.Cases.{two, clash}
use Rattle.step_tags.specs.Masks.{is_set, first_bit, next_bit, mask_below}
use Rattle.step_tags.specs.Table.{needs, needed_by}
use Rattle.step_tags.specs.Laws.{needed_has}
use Rattle.step_spec.specs.Fields.{complete, none}
use Rattle.step_spec.specs.FieldLaws.{below_each}
use Rattle.step_spec.specs.Sound.{all_seen, seen_of}

-- the n lowest bits of m
unfoldable pub seen_in : ℕ → ℕ → List Bool
seen_in zero m = []
seen_in (suc n) m = eqb (m % 2) 1 ∷ seen_in n (m / 2)

pub seen_none : seen_in 27 0 ≡ none
unfolding seen_in
seen_none = refl

pub seen_get : (n m k : ℕ) → k < n → get_or (seen_in n m) k false ≡ is_set m k
unfolding seen_in
seen_get zero m k h = absurd (omega arith)
seen_get (suc n) m zero h = sym (first_bit m)
seen_get (suc n) m (suc k) h = seen_get n (m / 2) k (omega arith) ∙ sym (next_bit m k)

pub seen_long : (n m : ℕ) → length (seen_in n m) ≡ n
unfolding seen_in
seen_long zero m = refl
seen_long (suc n) m = ap suc (seen_long n (m / 2))

even : (m : ℕ) → eqb (m % 2) 1 ≡ false → m % 2 ≡ 0
even m h = omega (arith, eqb-false (m % 2) 1 h)

odd_on : (m p : ℕ) → ((m + p * 2) % 2 ≡ m % 2) × ((m + p * 2) / 2 ≡ m / 2 + p)
odd_on m p = (omega arith, omega arith)

-- one row more
pub seen_set : (n m k : ℕ) → k < n → is_set m k ≡ false → seen_in n (m + 2 ^ k) ≡ set (seen_in n m) k true
unfolding seen_in
seen_set zero m k h e = absurd (omega arith)
seen_set (suc n) m zero h e =
    let z = even m (sym (first_bit m) ∙ e) in
    let a : (m + 1) % 2 ≡ 1 = omega arith in
    let b : (m + 1) / 2 ≡ m / 2 = omega arith in
    rw (a, b)
seen_set (suc n) m (suc k) h e =
    rw (pow-suc 2 k, (odd_on m (2 ^ k)).0, (odd_on m (2 ^ k)).1) (ap (λ (l : List Bool). eqb (m % 2) 1 ∷ l) (seen_set n (m / 2) k (omega arith) (sym (next_bit m k) ∙ e)))

-- which stays within n bits
pub set_room : (n m k : ℕ) → k < n → m < 2 ^ n → is_set m k ≡ false → m + 2 ^ k < 2 ^ n
set_room zero m k h l e = absurd (omega arith)
set_room (suc n) m zero h l e = let z = even m (sym (first_bit m) ∙ e) in let p : m < 2 ^ n * 2 = rw (pow-suc 2 n) at l in rw (pow-suc 2 n) (omega arith)
set_room (suc n) m (suc k) h l e =
    let p : m < 2 ^ n * 2 = rw (pow-suc 2 n) at l in
    let q = set_room n (m / 2) k (omega arith) (omega arith) (sym (next_bit m k) ∙ e) in
    rw (pow-suc 2 n, pow-suc 2 k) (omega arith)

-- ALL OF ONE SET IN ANOTHER

in_both : (n m k : ℕ) → k < 2 ^ n → ((i : ℕ) → i < n → is_set k i ≡ true → is_set m i ≡ true) → bit_and m k ≡ k
in_both zero m k h f = let z : k ≡ 0 = omega arith in rw (z, and_zero_r m)
in_both (suc n) m k h f =
    let p : k < 2 ^ n * 2 = rw (pow-suc 2 n) at h in
    let a = in_both n (m / 2) (k / 2) (omega arith) (λ i l e. sym (next_bit m i) ∙ f (suc i) (omega arith) (next_bit k i ∙ e)) in
    and_step m k ∙ rw a (both_low (two (eqb (k % 2) 1)))
  where
    both_low : (eqb (k % 2) 1 ≡ true) ⊎ (eqb (k % 2) 1 ≡ false) → (k / 2) * 2 + min (m % 2) (k % 2) ≡ k
    both_low t =
        ⊎_elim (λ (o : eqb (k % 2) 1 ≡ true). let x = eqb-true (k % 2) 1 o in let y = eqb-true (m % 2) 1 (sym (first_bit m) ∙ f 0 (omega arith) (first_bit k ∙ o)) in omega arith)
        (λ (o : eqb (k % 2) 1 ≡ false). let x = even k o in omega arith)
        t

low_min : (a b x : ℕ) → x ≡ a * 2 + min (b % 2) (x % 2) → x % 2 ≡ 1 → b % 2 ≡ 1
low_min a b x e h = omega arith

both_in : (m k i : ℕ) → bit_and m k ≡ k → is_set k i ≡ true → is_set m i ≡ true
both_in m k i e h =
    let s : k / 2 ^ i ≡ bit_and (m / 2 ^ i) (k / 2 ^ i) = ap (λ (x : ℕ). x / 2 ^ i) (sym e) ∙ and_shr m k i in
    eq-eqb _ 1 (low_min _ (m / 2 ^ i) (k / 2 ^ i) (s ∙ and_step (m / 2 ^ i) (k / 2 ^ i)) (eqb-true _ 1 h))

-- all that a type needs is seen, as one test of two numbers
pub complete_is : (type m : ℕ) → eqb (bit_and m (needed_by type)) (needed_by type) ≡ complete type (seen_in 27 m)
unfolding complete
complete_is type m =
    ⊎_elim (λ (t : complete type (seen_in 27 m) ≡ true). eq-eqb _ _ (in_both 27 m (needed_by type) (mask_below (needs type) 0 27) (λ i l e. needed t i l (sym (needed_has type i l) ∙ e))) ∙ sym t)
    (λ (f : complete type (seen_in 27 m) ≡ false). ne_eqb _ _ (λ e. clash (whole e) f) ∙ sym f)
    (two (complete type (seen_in 27 m)))
  where
    needed : complete type (seen_in 27 m) ≡ true → (i : ℕ) → i < 27 → needs type i ≡ true → is_set m i ≡ true
    needed t i l e = sym (seen_get 27 m i l) ∙ seen_of (needs type i) (get_or (seen_in 27 m) i false) (below_each (λ (i : ℕ). not (needs type i) || get_or (seen_in 27 m) i false) 27 i t l) e

    whole : bit_and m (needed_by type) ≡ needed_by type → complete type (seen_in 27 m) ≡ true
    whole e = all_seen type (seen_in 27 m) (λ r l n. seen_get 27 m r l ∙ both_in m (needed_by type) r e (needed_has type r l ∙ n))
