-- What the number answered to a call tells of the checks before it. Assumes nothing.
use mathlib.Core.Path.{◌≡◌}
use mathlib.Core.Bool.{true, false, not}
use Prim.Native.Nat.{ℕ, ◌+◌, ◌≤◌}
use native.Mathlib.Omega.{arith}
use borrow.Author.Tests.{not-false, leb-true, ltb-false}
use lib.Dec.{leb, ltb}
use Rattle.terms.specs.Paper.{pick}
use Rattle.ledger_spec.specs.State.{Book, largest, has, sound_of, StateRules}
use Rattle.ledger_spec.specs.Calls.{Call, Tick, tick_number, elsewhere, own_number, checked_of, number_to}
use Rattle.ledger_spec.proofs.Tests.{both, skip}
use Rattle.ledger_spec.proofs.Rules.{rules_facts, rules_test}

-- neither 13 nor 18: the state is sound, the channel is its own, and the number is the call's own
pub record Checked (b : Book) (call : Call) (m : ℕ) : Type 0 where
  pub rules : StateRules b
  pub here : elsewhere b call ≡ false
  pub own : own_number b call ≡ m

pub checked_facts : (b : Book) (call : Call) {m : ℕ} → number_to b call ≡ m → (13 ≡ m → ⊥) → (18 ≡ m → ⊥) → Checked b call m
unfolding number_to checked_of
checked_facts b call e p q =
    let s = skip (not (sound_of b)) 13 (pick (elsewhere b call) 18 (own_number b call)) e p in
    let t = skip (elsewhere b call) 18 (own_number b call) s.1 q in
    record { rules = rules_facts b (not-false _ s.0); here = t.0; own = t.1 }

-- and back
pub checked_test : (b : Book) (call : Call) → StateRules b → elsewhere b call ≡ false → number_to b call ≡ own_number b call
unfolding number_to checked_of
checked_test b call r h = simp (rules_test b r, h)

-- a tick's number
pub numbered : (n : ℕ) → tick_number n ≡ true → (1 ≤ n) × (n ≤ largest)
numbered n e = let p = both (leb 1 n) _ e in (leb-true _ _ p.0, leb-true _ _ p.1)

pub record TickDone (b : Book) (n : ℕ) : Type 0 where
  pub rules : StateRules b
  pub above : 1 ≤ n
  pub digits : n ≤ largest
  pub anew : has b n ≡ false
  pub near : n ≤ b.floor + 256

pub tick_done : (b : Book) (channel n : ℕ) → number_to b (Tick channel n) ≡ 0 → TickDone b n
unfolding own_number
tick_done b channel n e =
    let c = checked_facts b (Tick channel n) e (λ q. omega arith) (λ q. omega arith) in
    let s = skip (not (tick_number n)) 10 (pick (has b n) 11 (pick (ltb (b.floor + 256) n) 12 0)) c.own (λ q. omega arith) in
    let t = skip (has b n) 11 (pick (ltb (b.floor + 256) n) 12 0) s.1 (λ q. omega arith) in
    let u = skip (ltb (b.floor + 256) n) 12 0 t.1 (λ q. omega arith) in
    let h = numbered n (not-false _ s.0) in
    record { rules = c.rules; above = h.0; digits = h.1; anew = t.0; near = ltb-false _ _ u.0 }
