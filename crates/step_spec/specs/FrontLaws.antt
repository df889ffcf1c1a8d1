-- A literal at the front, byte by byte and as a whole, and the type's byte.
use Prim.Native.Nat.{ℕ, suc, ◌+◌, ◌-◌, ◌<◌, ◌≤◌}
use Rattle.std.specs.Prelude.{◌≡◌, refl, true, false, List, [], ◌∷◌, ◌++◌, eqb, length, get_or, drop}
use Rattle.std.proofs.Common.{ap, ◌∙◌, ⊎_elim, eq-eqb, ne_eqb, eqb-true}
use Rattle.std.proofs.Math.Numerals.{add-one}
use native.Mathlib.Omega.{arith}
use Rattle.std.proofs.Math.ListN.{drop_of_length-le}
use Rattle.std.proofs.Math.Seq.{drop-cons}
use Rattle.terms.specs.Paper.{refusal, pick}
use Rattle.terms.specs.Cases.{two}
use Rattle.digits.specs.Digits.{is_digit}
use Rattle.step_spec.specs.PieceLaws.{part, part_cons}
use Rattle.step_tags.specs.Table.{among, types}
use Rattle.step_spec.specs.Pieces.{SOH}
use Rattle.step_spec.specs.Frame.{front, digit_run, kind_check, verdict_of, accepted, step_read_of}

-- A LITERAL, BYTE BY BYTE

module _ (why : ℕ) (ls s : List ℕ) (i at : ℕ) where
  pub front_end : length ls ≤ i → front why (drop i ls) (drop (at + i) s) ≡ 0
  unfolding front
  front_end h = rw (drop_of_length-le ls {i = i} h)

  module _ (h : i < length ls) where
    pub front_short : length s ≤ at + i → front why (drop i ls) (drop (at + i) s) ≡ 1
    unfolding front
    front_short k = rw (drop-cons ls i 0 h, drop_of_length-le s {i = at + i} k)

    module _ (k : at + i < length s) where
      cut : front why (drop i ls) (drop (at + i) s) ≡ pick (eqb (get_or s (at + i) 0) (get_or ls i 0)) (front why (drop (i + 1) ls) (drop (at + (i + 1)) s)) why
      unfolding front
      cut =
          let e : at + (i + 1) ≡ suc (at + i) = omega arith in
          rw (e, add-one i, drop-cons ls i 0 h, drop-cons s (at + i) 0 k)

      pub front_fails : (get_or s (at + i) 0 ≡ get_or ls i 0 → ⊥) → front why (drop i ls) (drop (at + i) s) ≡ why
      front_fails ne = cut ∙ rw (ne_eqb _ _ ne)

      pub front_on : get_or s (at + i) 0 ≡ get_or ls i 0 → front why (drop i ls) (drop (at + i) s) ≡ front why (drop (i + 1) ls) (drop (at + (i + 1)) s)
      front_on e = cut ∙ rw (eq-eqb _ _ e)

-- A LITERAL IN FRONT

front_step : (why l x : ℕ) (ls xs : List ℕ) → front why (l ∷ ls) (x ∷ xs) ≡ 0 → (why ≡ 0 → ⊥) → (x ≡ l) × (front why ls xs ≡ 0)
unfolding front
front_step why l x ls xs h ne =
    ⊎_elim (λ (t : eqb x l ≡ true). (eqb-true x l t, rw t at h)) (λ (f : eqb x l ≡ false). absurd (ne (rw f at h))) (two (eqb x l))

-- it passes exactly if the bytes begin with the literal
pub front_is : (why : ℕ) (ls s : List ℕ) → (why ≡ 0 → ⊥) → front why ls s ≡ 0 → s ≡ ls ++ drop (length ls) s
unfolding front
front_is why [] s ne h = refl
front_is why (l ∷ ls) [] ne h = absurd (omega arith)
front_is why (l ∷ ls) (x ∷ xs) ne h =
    let p = front_step why l x ls xs h ne in
    rw p.0 (ap (λ (t : List ℕ). l ∷ t) (front_is why ls xs ne p.1))

pub front_of_lem : (why : ℕ) (ls t : List ℕ) → front why ls (ls ++ t) ≡ 0
unfolding front
front_of_lem why [] t = refl
front_of_lem why (l ∷ ls) t = rw (eq-eqb l l refl) (front_of_lem why ls t)

pub front_length : (why : ℕ) (ls s : List ℕ) → (why ≡ 0 → ⊥) → front why ls s ≡ 0 → length ls ≤ length s
unfolding front
front_length why [] s ne h = omega arith
front_length why (l ∷ ls) [] ne h = absurd (omega arith)
front_length why (l ∷ ls) (x ∷ xs) ne h = omega (arith, front_length why ls xs ne (front_step why l x ls xs h ne).1)

-- DIGITS, BYTE BY BYTE

module _ (x : ℕ) (xs : List ℕ) where
  run_stop : is_digit x ≡ false → digit_run (x ∷ xs) ≡ 0
  unfolding digit_run
  run_stop e = rw e

  run_on : is_digit x ≡ true → digit_run (x ∷ xs) ≡ suc (digit_run xs)
  unfolding digit_run
  run_on e = rw e

module _ (s : List ℕ) (i to : ℕ) (h : i < to) (k : to ≤ length s) where
  pub digits_stop : is_digit (get_or s i 0) ≡ false → digit_run (part s i to) ≡ 0
  digits_stop e = rw (part_cons 0 s i to h k) (run_stop (get_or s i 0) (part s (i + 1) to) e)

  pub digits_next : is_digit (get_or s i 0) ≡ true → digit_run (part s i to) ≡ suc (digit_run (part s (i + 1) to))
  digits_next e = rw (part_cons 0 s i to h k) (run_on (get_or s i 0) (part s (i + 1) to) e)

pub digits_past : (s : List ℕ) (i to : ℕ) → to ≤ i → digit_run (part s i to) ≡ 0
unfolding digit_run
digits_past s i to h = let e : to - i ≡ 0 = omega arith in rw e

-- READING, BY ITS VERDICT

pub reads_off : (s : List ℕ) (n : ℕ) → verdict_of s ≡ n → (n ≡ 0 → ⊥) → step_read_of s ≡ refusal n
unfolding step_read_of
reads_off s n e ne = rw (e, ne_eqb n 0 ne)

pub reads_on : (s : List ℕ) → verdict_of s ≡ 0 → step_read_of s ≡ accepted s
unfolding step_read_of
reads_on s e = rw e

-- THE TYPE'S BYTE

module _ (s : List ℕ) (p : ℕ) where
  pub kind_short : length s ≤ p → kind_check (drop p s) ≡ 1
  unfolding kind_check
  kind_short h = rw (drop_of_length-le s {i = p} h)

  module _ (h : p < length s) where
    kind_cut : kind_check (drop p s) ≡ pick (among (get_or s p 0) types) (front 25 (SOH ∷ []) (drop (p + 1) s)) 25
    unfolding kind_check
    kind_cut = rw (add-one p, drop-cons s p 0 h)

    pub kind_other : among (get_or s p 0) types ≡ false → kind_check (drop p s) ≡ 25
    kind_other e = kind_cut ∙ rw e

    pub kind_there : among (get_or s p 0) types ≡ true → kind_check (drop p s) ≡ front 25 (SOH ∷ []) (drop (p + 1) s)
    kind_there e = kind_cut ∙ rw e

pub kind_length : (t : List ℕ) → kind_check t ≡ 0 → 2 ≤ length t
unfolding kind_check
kind_length [] h = absurd (omega arith)
kind_length (x ∷ xs) h =
    ⊎_elim (λ (e : among x types ≡ true). omega (arith, front_length 25 (SOH ∷ []) xs (λ (z : 25 ≡ 0). omega arith) (rw e at h))) (λ (e : among x types ≡ false). absurd (omega (arith, rw e at h))) (two (among x types))

pub run_le : (w : List ℕ) → digit_run w ≤ length w
unfolding digit_run
run_le [] = omega arith
run_le (x ∷ xs) = ⊎_elim (λ (t : is_digit x ≡ true). rw t (omega (arith, run_le xs))) (λ (f : is_digit x ≡ false). rw f (omega arith)) (two (is_digit x))
