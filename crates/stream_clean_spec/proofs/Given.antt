-- When each number is given, both ways, for every stream that scrubs: first of the refusals that go
-- before the room, then of a call. Assumes nothing.
use Prim.Native.Nat.{ℕ, ◌+◌, ◌≤◌}
use mathlib.Core.Path.{◌≡◌, refl, sym, ◌∙◌}
use mathlib.Core.Logic.{◌↔◌, ⊎_elim}
use mathlib.Core.Bool.{Bool, true, false, not}
use native.Mathlib.Omega.{arith}
use lib.Dec.{eqb, leb}
use lib.ListN.{length}
use borrow.Author.Tests.{le-leb, lt-leb, leb-true, leb-false, eqb-true, not-true, not-false}
use Rattle.terms.specs.Paper.{pick}
use Rattle.terms.specs.Cases.{clash, two}
use Rattle.ledger_spec.proofs.Tests.{false_of, skip, hit}
use Rattle.stream_spec.specs.declared.Stream.{Stream}
use Rattle.stream_spec.specs.State.{last_place, sound_of, StreamRules}
use Rattle.stream_spec.specs.Calls.{Call, cut_of, closes, may_take}
use Rattle.stream_spec.specs.CallLaws.{may_13, may_19, may_29, may_0, may_facts}
use Rattle.stream_spec.specs.Given.{Given19, Given29}
use Rattle.stream_spec.proofs.Rules.{rules_facts, rules_test}
use Rattle.stream_clean_spec.specs.Calls.{washed_for, number_for, number_to}
use Rattle.stream_clean_spec.specs.Given.{Given8, Given0}

never : (t : Bool) (k rest m : ℕ) → (k ≡ m → ⊥) → (rest ≡ m → ⊥) → pick t k rest ≡ m → ⊥
never true k rest m p q e = p e
never false k rest m p q e = q e

module _ (x : Stream) (call : Call) where
  abbrev n : ℕ
  n = length (cut_of call)

  abbrev far : Bool
  far = not (leb (x.place + (x.len + n)) last_place)

  -- the row of checks before the room
  row : may_take x n ≡ pick (not (sound_of x)) 13 (pick x.closed 19 (pick far 29 0))
  unfolding may_take
  row = refl

  may_given_13 : (may_take x n ≡ 13) ↔ (StreamRules x → ⊥)
  may_given_13 = (
    λ e r.
        let t = hit (not (sound_of x)) 13 (pick x.closed 19 (pick far 29 0)) (sym row ∙ e) (never x.closed 19 (pick far 29 0) 13 (λ q. omega arith) (never far 29 0 13 (λ q. omega arith) (λ q. omega arith))) in
        clash (rules_test x r) (not-true _ t),
    λ h. may_13 x n (false_of (sound_of x) (λ s. h (rules_facts x s))),
  )

  sound_facts : (m : ℕ) → (13 ≡ m → ⊥) → may_take x n ≡ m → StreamRules x × (pick x.closed 19 (pick far 29 0) ≡ m)
  sound_facts m o e = let s = skip (not (sound_of x)) 13 (pick x.closed 19 (pick far 29 0)) (sym row ∙ e) o in (rules_facts x (not-false _ s.0), s.1)

  may_given_19 : (may_take x n ≡ 19) ↔ Given19 x
  may_given_19 = (
    λ e.
        let s = sound_facts 19 (λ q. omega arith) e in
        record { rules = s.0; ended = hit x.closed 19 (pick far 29 0) s.1 (never far 29 0 19 (λ q. omega arith) (λ q. omega arith)) },
    λ g. may_19 x n (rules_test x g.rules) g.ended,
  )

  may_given_29 : (may_take x n ≡ 29) ↔ Given29 x call
  may_given_29 = (
    λ e.
        let s = sound_facts 29 (λ q. omega arith) e in
        let t = skip x.closed 19 (pick far 29 0) s.1 (λ q. omega arith) in
        record { rules = s.0; unended = t.0; far = leb-false _ _ (not-true _ (hit far 29 0 t.1 (λ q. omega arith))) },
    λ g. may_29 x n (rules_test x g.rules) g.unended (lt-leb _ _ g.far),
  )

  -- A CALL with so much room
  module _ (room : ℕ) where
    abbrev fits : Bool
    fits = leb (length (washed_for x (closes call) (cut_of call))) room

    number_is : number_to x call room ≡ pick (eqb (may_take x n) 0) (pick fits 0 8) (may_take x n)
    unfolding number_for
    number_is = refl

    -- a number that is neither 0 nor 8 goes before the room
    before : (m : ℕ) → (m ≡ 0 → ⊥) → (m ≡ 8 → ⊥) → (number_to x call room ≡ m) ↔ (may_take x n ≡ m)
    before m o p = (
      λ e.
          ⊎_elim
          (λ (t : eqb (may_take x n) 0 ≡ true). absurd (never fits 0 8 m (λ q. o (sym q)) (λ q. p (sym q)) (rw t at (sym number_is ∙ e))))
          (λ (f : eqb (may_take x n) 0 ≡ false). rw f at (sym number_is ∙ e))
          (two (eqb (may_take x n) 0)),
      λ e. number_is ∙ ⊎_elim (λ (t : eqb (may_take x n) 0 ≡ true). absurd (o (sym e ∙ eqb-true (may_take x n) 0 t))) (λ (f : eqb (may_take x n) 0 ≡ false). rw f e) (two (eqb (may_take x n) 0)),
    )

    pub given_13 : (number_to x call room ≡ 13) ↔ (StreamRules x → ⊥)
    given_13 = let b = before 13 (λ q. omega arith) (λ q. omega arith) in (λ e. may_given_13.0 (b.0 e), λ g. b.1 (may_given_13.1 g))

    pub given_19 : (number_to x call room ≡ 19) ↔ Given19 x
    given_19 = let b = before 19 (λ q. omega arith) (λ q. omega arith) in (λ e. may_given_19.0 (b.0 e), λ g. b.1 (may_given_19.1 g))

    pub given_29 : (number_to x call room ≡ 29) ↔ Given29 x call
    given_29 = let b = before 29 (λ q. omega arith) (λ q. omega arith) in (λ e. may_given_29.0 (b.0 e), λ g. b.1 (may_given_29.1 g))

    -- what 8 and 0 have in common: nothing goes before the room
    taken : (m : ℕ) → (13 ≡ m → ⊥) → (19 ≡ m → ⊥) → (29 ≡ m → ⊥) → number_to x call room ≡ m → (may_take x n ≡ 0) × (pick fits 0 8 ≡ m)
    taken m o p q e =
        ⊎_elim
        (λ (t : eqb (may_take x n) 0 ≡ true). (eqb-true (may_take x n) 0 t, rw t at (sym number_is ∙ e)))
        (λ (f : eqb (may_take x n) 0 ≡ false).
        let m_is : may_take x n ≡ m = rw f at (sym number_is ∙ e) in
        absurd (never (not (sound_of x)) 13 (pick x.closed 19 (pick far 29 0)) m o (never x.closed 19 (pick far 29 0) m p (never far 29 0 m q (λ z. clash refl (rw (m_is ∙ sym z) at f)))) (sym row ∙ m_is)))
        (two (eqb (may_take x n) 0))

    may_take_lem : StreamRules x → x.closed ≡ false → x.place + (x.len + n) ≤ last_place → may_take x n ≡ 0
    may_take_lem r u l = may_0 x n (rules_test x r) u (le-leb _ _ l)

    pub given_8 : (number_to x call room ≡ 8) ↔ Given8 x call room
    given_8 = (
      λ e.
          let t = taken 8 (λ q. omega arith) (λ q. omega arith) (λ q. omega arith) e in
          let f = may_facts x n t.0 in
          record { rules = rules_facts x f.0; unended = f.1.0; near = f.1.1; full = leb-false _ _ (skip fits 0 8 t.1 (λ q. omega arith)).0 },
      λ g. number_is ∙ rw (may_take_lem g.rules g.unended g.near, lt-leb _ _ g.full),
    )

    pub given_0 : (number_to x call room ≡ 0) ↔ Given0 x call room
    given_0 = (
      λ e.
          let t = taken 0 (λ q. omega arith) (λ q. omega arith) (λ q. omega arith) e in
          let f = may_facts x n t.0 in
          record { rules = rules_facts x f.0; unended = f.1.0; near = f.1.1; takes = leb-true _ _ (hit fits 0 8 t.1 (λ q. omega arith)) },
      λ g. number_is ∙ rw (may_take_lem g.rules g.unended g.near, le-leb _ _ g.takes),
    )
