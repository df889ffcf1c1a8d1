-- Places are free again: ticks 1, 2, 3 and so on are each passed at once, so the floor reaches
-- every number of at most 18 digits with the map empty at each step. Invariant: after n ticks floor
-- and top are n and nothing is held. Assumes nothing.
use mathlib.Core.Path.{◌≡◌, refl, sym, ap, ap₂, ◌∙◌}
use Prim.Native.Nat.{ℕ, zero, suc, ◌+◌, ◌-◌, ◌/◌, ◌^◌, ◌≤◌, max}
use native.Mathlib.Omega.{arith}
use borrow.Author.Tests.{le-ltb}
use lib.Bits.{bit_or}
use lib.Pow.{pow_pos}
use Rattle.tick_map.specs.Bits.{run}
use Rattle.tick_map.proofs.Digits.{bit_zero}
use Rattle.ledger_spec.specs.State.{nothing, Book, largest, has, StateRules}
use Rattle.ledger_spec.specs.Calls.{Tick, own_number, number_to, marked, passes, taken, done, next_of, fresh}
use Rattle.ledger_spec.specs.Trace.{Calls, none, ◌▸◌, after}
use Rattle.ledger_spec.specs.Answers.{Reaches}
use Rattle.ledger_spec.proofs.Rules.{none_beyond}
use Rattle.ledger_spec.proofs.Numbers.{checked_test}
use Rattle.ledger_spec.proofs.Demand3.{first_clear}
use Rattle.ledger_spec.proofs.Steps.{never_range}
use Rattle.ledger_spec.proofs.Given.{own_test, tick_test}

-- the ticks 1 to n
in_order : ℕ → ℕ → Calls
in_order channel zero = none
in_order channel (suc n) = in_order channel n ▸ Tick channel (suc n)

abbrev full : ℕ → ℕ → Book
full channel n = record { channel = channel; floor = n; top = n; bits = 0; pending = nothing }

full_rules : (channel n : ℕ) → channel ≤ 9999 → n ≤ largest → StateRules (full channel n)
full_rules channel n small h =
    record {
      channel_small = small;
      low = omega arith;
      top_small = h;
      places = pow_pos 256;
      next_not_held = bit_zero 0;
      none_above = none_beyond (full channel n) (omega arith) (pow_pos (n - n));
      range_right = λ x y e. absurd (never_range x y e);
    }

marked_one : (channel n : ℕ) → marked (full channel n) (suc n) ≡ 1
marked_one channel n = let e : suc n - n - 1 ≡ 0 = omega arith in ap (λ (i : ℕ). bit_or 0 (2 ^ i)) e

passes_one : (channel n : ℕ) → passes (full channel n) (suc n) ≡ 1
unfolding passes run
passes_one channel n = ap (run 256) (marked_one channel n)

taken_full : (channel n : ℕ) → taken (full channel n) (suc n) ≡ full channel (suc n)
unfolding taken
taken_full channel n =
    let f : n + 1 ≡ suc n = omega arith in
    let t : max n (suc n) ≡ suc n = omega arith in
    ap₂ (λ (k m : ℕ). record { channel = channel; floor = n + k; top = max n (suc n); bits = m / 2 ^ k; pending = nothing }) (passes_one channel n) (marked_one channel n)
    ∙ ap₂ (λ (x y : ℕ). record { channel = channel; floor = x; top = y; bits = 0; pending = nothing }) f t

next_full : (channel n : ℕ) → channel ≤ 9999 → suc n ≤ largest → next_of (full channel n) (Tick channel (suc n)) ≡ full channel (suc n)
unfolding next_of own_number done
next_full channel n small h =
    let r = full_rules channel n small (omega arith) in
    let near : suc n ≤ n + 256 = omega arith in
    let at : n + 1 ≡ suc n = omega arith in
    let k : number_to (full channel n) (Tick channel (suc n)) ≡ 0 =
    checked_test (full channel n) (Tick channel (suc n)) r (own_test (full channel n) (Tick channel (suc n)) refl)
    ∙ simp (tick_test (suc n) (omega arith) h, sym (ap (has (full channel n)) at) ∙ first_clear (full channel n) r, le-ltb _ _ near) in
    simp k (taken_full channel n)

after_order : (channel n : ℕ) → channel ≤ 9999 → n ≤ largest → after channel (in_order channel n) ≡ full channel n
unfolding in_order fresh
after_order channel zero small h = refl
after_order channel (suc n) small h =
    ap (λ (b : Book). next_of b (Tick channel (suc n))) (after_order channel n small (omega arith)) ∙ next_full channel n small h

pub places_free : (channel n : ℕ) → channel ≤ 9999 → n ≤ largest → Reaches channel n
places_free channel n small h = record { calls = in_order channel n; floor_is = ap (λ (b : Book). b.floor) (after_order channel n small h) }
