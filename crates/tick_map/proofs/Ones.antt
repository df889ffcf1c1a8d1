-- One place more is one more, passed by the run or held behind it: what is counted does not get
-- lost on a shift. Assumes nothing.
use mathlib.Core.Path.{◌≡◌, refl, sym, ap, ap₂, ◌∙◌, subst}
use Prim.Native.Nat.{ℕ, zero, suc, ◌+◌, ◌-◌, ◌/◌, ◌^◌, ◌≤◌, ◌<◌, suc-le-suc}
use native.Mathlib.Nat.{zero-lt-suc, le_of_suc-le-suc, not-suc-le-zero}
use native.Mathlib.Omega.{arith}
use lib.Bits.{bit_or, or_lt}
use lib.Count.{ones}
use lib.Pow.{pow-lt, shr_lt}
use Rattle.tick_map.specs.Bits.{bit, run, tally}
use Rattle.tick_map.proofs.Laws.{run_le}
use Rattle.tick_map.proofs.Digits.{bit_shr, bit_set_same, bit_set_other, run_passed, tally_ext, tally_split, ones_tally}

pub all_one : (k : ℕ) (f : ℕ → ℕ) → ((i : ℕ) → i < k → f i ≡ 1) → tally f k ≡ k
unfolding tally
all_one zero f h = refl
all_one (suc k) f h = omega (arith, h 0 (zero-lt-suc k), all_one k (λ i. f (suc i)) (λ i l. h (suc i) (suc-le-suc l)))

-- two counts that differ at i alone
one_more : (k i : ℕ) (f g : ℕ → ℕ) → i < k → f i ≡ 1 → g i ≡ 0 → ((j : ℕ) → (j ≡ i → ⊥) → f j ≡ g j) → tally f k ≡ suc (tally g k)
unfolding tally
one_more zero i f g h p q e = absurd (not-suc-le-zero h)
one_more (suc k) zero f g h p q e =
    omega (arith, tally_ext k (λ j. f (suc j)) (λ j. g (suc j)) (λ j l. e (suc j) (λ z. omega arith)))
one_more (suc k) (suc i) f g h p q e =
    omega (arith, e 0 (λ z. omega arith), one_more k i (λ j. f (suc j)) (λ j. g (suc j)) (le_of_suc-le-suc h) p q (λ j n. e (suc j) (λ z. n (omega arith))))

module _ (v i : ℕ) (hv : v < 2 ^ 256) (hi : i < 256) (clear : bit v i ≡ 0) where
  abbrev more : ℕ
  more = bit_or v (2 ^ i)

  more_lt : more < 2 ^ 256
  more_lt = or_lt 256 v (2 ^ i) hv (pow-lt hi)

  ones_more : ones more ≡ suc (ones v)
  ones_more =
      ones_tally 256 more more_lt
      ∙ one_more 256 i (bit more) (bit v) hi (bit_set_same v i) clear (λ j n. bit_set_other v i j n)
      ∙ ap suc (sym (ones_tally 256 v hv))

  -- the run that the floor passes, and what stays held
  pub passed_and_held : run 256 more + ones (more / 2 ^ run 256 more) ≡ suc (ones v)
  passed_and_held =
      let k = run 256 more in
      let le : run 256 more ≤ 256 = run_le 256 more in
      let e : 256 - run 256 more + run 256 more ≡ 256 = omega arith in
      let e' : 256 ≡ run 256 more + (256 - run 256 more) = omega arith in
      let lt : more / 2 ^ run 256 more < 2 ^ (256 - run 256 more) = shr_lt (256 - run 256 more) (run 256 more) (subst (λ (x : ℕ). more < 2 ^ x) (sym e) more_lt) in
      let low : tally (bit more) (run 256 more) ≡ run 256 more = all_one (run 256 more) (bit more) (λ j l. run_passed 256 more j l) in
      let high : ones (more / 2 ^ run 256 more) ≡ tally (λ j. bit more (run 256 more + j)) (256 - run 256 more) =
      ones_tally (256 - run 256 more) (more / 2 ^ run 256 more) lt ∙ tally_ext (256 - run 256 more) (bit (more / 2 ^ run 256 more)) (λ j. bit more (run 256 more + j)) (λ j l. bit_shr more (run 256 more) j) in
      ap₂ (λ (x y : ℕ). x + y) (sym low) high
      ∙ sym (tally_split (run 256 more) (256 - run 256 more) (bit more)) ∙ ap (tally (bit more)) (sym e')
      ∙ sym (ones_tally 256 more more_lt) ∙ ones_more
