-- When each number is given, both ways, for every stream. A row of checks answers m where those
-- before pass and the one of m fails. Assumes nothing.
use Prim.Native.Nat.{ℕ, ◌+◌, ◌/◌, ◌≤◌, ◌<◌}
use mathlib.Core.Path.{◌≡◌, refl, sym, ◌∙◌}
use mathlib.Core.Logic.{◌↔◌}
use mathlib.Core.Bool.{Bool, true, false, not}
use native.Mathlib.Omega.{arith}
use lib.Dec.{leb}
use lib.ListN.{length}
use borrow.Author.Tests.{le-leb, lt-leb, leb-true, leb-false, not-true, not-false}
use Rattle.terms.specs.Paper.{pick}
use Rattle.terms.specs.Cases.{clash}
use Rattle.ledger_spec.proofs.Tests.{false_of, skip, hit}
use Rattle.stream_spec.specs.declared.Stream.{Stream}
use Rattle.stream_spec.specs.State.{last_place, sound_of, StreamRules}
use Rattle.stream_spec.specs.Calls.{Call, cut_of, closes, share, number_for, number_to}
use Rattle.stream_spec.specs.CallLaws.{number_13, number_19, number_29, number_8, number_0}
use Rattle.stream_spec.specs.Given.{Given19, Given29, Given8, Given0}
use Rattle.stream_spec.proofs.Rules.{rules_facts, rules_test}

never : (t : Bool) (k rest m : ℕ) → (k ≡ m → ⊥) → (rest ≡ m → ⊥) → pick t k rest ≡ m → ⊥
never true k rest m p q e = p e
never false k rest m p q e = q e

module _ (x : Stream) (call : Call) (room : ℕ) where
  abbrev far : Bool
  far = not (leb (x.place + (x.len + length (cut_of call))) last_place)

  abbrev full : Bool
  full = not (leb (length (share x call)) (room / 64))

  -- the row of checks
  row : number_to x call room ≡ pick (not (sound_of x)) 13 (pick x.closed 19 (pick far 29 (pick full 8 0)))
  unfolding number_for
  row = refl

  after_29 : (m : ℕ) → (8 ≡ m → ⊥) → (0 ≡ m → ⊥) → pick full 8 0 ≡ m → ⊥
  after_29 m p q = never full 8 0 m p q

  after_19 : (m : ℕ) → (29 ≡ m → ⊥) → (8 ≡ m → ⊥) → (0 ≡ m → ⊥) → pick far 29 (pick full 8 0) ≡ m → ⊥
  after_19 m o p q = never far 29 (pick full 8 0) m o (after_29 m p q)

  pub given_13 : (number_to x call room ≡ 13) ↔ (StreamRules x → ⊥)
  given_13 = (
    λ e r.
        let t = hit (not (sound_of x)) 13 (pick x.closed 19 (pick far 29 (pick full 8 0))) (sym row ∙ e) (never x.closed 19 (pick far 29 (pick full 8 0)) 13 (λ q. omega arith) (after_19 13 (λ q. omega arith) (λ q. omega arith) (λ q. omega arith))) in
        clash (rules_test x r) (not-true _ t),
    λ n. number_13 x (closes call) (cut_of call) room (false_of (sound_of x) (λ s. n (rules_facts x s))),
  )

  -- an answer other than 13: the rules hold
  sound_facts : (m : ℕ) → (13 ≡ m → ⊥) → number_to x call room ≡ m → StreamRules x × (pick x.closed 19 (pick far 29 (pick full 8 0)) ≡ m)
  sound_facts m n e = let s = skip (not (sound_of x)) 13 (pick x.closed 19 (pick far 29 (pick full 8 0))) (sym row ∙ e) n in (rules_facts x (not-false _ s.0), s.1)

  pub given_19 : (number_to x call room ≡ 19) ↔ Given19 x
  given_19 = (
    λ e.
        let s = sound_facts 19 (λ q. omega arith) e in
        record { rules = s.0; ended = hit x.closed 19 (pick far 29 (pick full 8 0)) s.1 (after_19 19 (λ q. omega arith) (λ q. omega arith) (λ q. omega arith)) },
    λ g. number_19 x (closes call) (cut_of call) room (rules_test x g.rules) g.ended,
  )

  -- nor 19: it is not closed
  open_facts : (m : ℕ) → (13 ≡ m → ⊥) → (19 ≡ m → ⊥) → number_to x call room ≡ m → (StreamRules x × (x.closed ≡ false)) × (pick far 29 (pick full 8 0) ≡ m)
  open_facts m n o e =
      let s = sound_facts m n e in
      let t = skip x.closed 19 (pick far 29 (pick full 8 0)) s.1 o in
      ((s.0, t.0), t.1)

  pub given_29 : (number_to x call room ≡ 29) ↔ Given29 x call
  given_29 = (
    λ e.
        let s = open_facts 29 (λ q. omega arith) (λ q. omega arith) e in
        let t = hit far 29 (pick full 8 0) s.1 (after_29 29 (λ q. omega arith) (λ q. omega arith)) in
        record { rules = s.0.0; unended = s.0.1; far = leb-false _ _ (not-true _ t) },
    λ g. number_29 x (closes call) (cut_of call) room (rules_test x g.rules) g.unended (lt-leb _ _ g.far),
  )

  near_facts : (m : ℕ) → (13 ≡ m → ⊥) → (19 ≡ m → ⊥) → (29 ≡ m → ⊥) → number_to x call room ≡ m → ((StreamRules x × (x.closed ≡ false)) × (x.place + (x.len + length (cut_of call)) ≤ last_place)) × (pick full 8 0 ≡ m)
  near_facts m n o p e =
      let s = open_facts m n o e in
      let t = skip far 29 (pick full 8 0) s.1 p in
      ((s.0, leb-true _ _ (not-false _ t.0)), t.1)

  pub given_8 : (number_to x call room ≡ 8) ↔ Given8 x call room
  given_8 = (
    λ e.
        let s = near_facts 8 (λ q. omega arith) (λ q. omega arith) (λ q. omega arith) e in
        let t : room / 64 < length (share x call) = leb-false _ _ (not-true _ (hit full 8 0 s.1 (λ q. omega arith))) in
        record { rules = s.0.0.0; unended = s.0.0.1; near = s.0.1; full = omega arith },
    λ g. number_8 x (closes call) (cut_of call) room (rules_test x g.rules) g.unended (le-leb _ _ g.near) (lt-leb (length (share x call)) (room / 64) (omega (arith, g.full))),
  )

  pub given_0 : (number_to x call room ≡ 0) ↔ Given0 x call room
  given_0 = (
    λ e.
        let s = near_facts 0 (λ q. omega arith) (λ q. omega arith) (λ q. omega arith) e in
        let t : length (share x call) ≤ room / 64 = leb-true _ _ (not-false _ (skip full 8 0 s.1 (λ q. omega arith)).0) in
        record { rules = s.0.0.0; unended = s.0.0.1; near = s.0.1; takes = omega arith },
    λ g. number_0 x (closes call) (cut_of call) room (rules_test x g.rules) g.unended (le-leb _ _ g.near) (le-leb (length (share x call)) (room / 64) (omega (arith, g.takes))),
  )
