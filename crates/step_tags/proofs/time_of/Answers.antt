-- `time_of`: the four marks and the five numbers make up the time. Assumes nothing.
use Rattle.step_tags.specs.Laws.{number_told, none_told, time_lacks, time_there}
use Rattle.step_tags.specs.Forms.{number_at, digits_in, time_of}
use Rattle.terms.specs.Cases.{clash}
use mathlib.Core.Path.{◌≡◌, ap, ◌∙◌}
use mathlib.Core.Bool.{true}
use Prim.Native.Nat.{ℕ, ◌^◌, ◌<◌, ◌*◌, ◌+◌}
use mathlib.Core.List.{List}
use native.Mathlib.Omega.{arith}
use Rattle.std.specs.Prelude.{Some}
use Rattle.step_tags.proofs.time_of.Goals as goal
use Rattle.step_tags.proofs.time_of.Goals.{In_ok-rest}

-- what each of the five says
record Said (v : List ℕ) (a b c d e : ℕ) : Type 0 where
  day : (a ≡ number_at 0 8 v) × (digits_in 0 8 v ≡ true) × (a < 10 ^ 8)
  hour : (b ≡ number_at 9 2 v) × (digits_in 9 2 v ≡ true) × (b < 10 ^ 2)
  minute : (c ≡ number_at 12 2 v) × (digits_in 12 2 v ≡ true) × (c < 10 ^ 2)
  second : (d ≡ number_at 15 2 v) × (digits_in 15 2 v ≡ true) × (d < 10 ^ 2)
  rest : (e ≡ number_at 18 3 v) × (digits_in 18 3 v ≡ true) × (e < 10 ^ 3)

said : (c : goal.In_ok-rest) → Said c.args.v.now c.in_ok-day.day c.in_ok-hour.hour c.in_ok-minute.minute c.in_ok-second.second c.in_ok-rest.rest
said c = record {
  day = number_told _ _ _ _ c.in_ok-day.was c.digits_at.ensures;
  hour = number_told _ _ _ _ c.in_ok-hour.was c.digits_at-2.ensures;
  minute = number_told _ _ _ _ c.in_ok-minute.was c.digits_at-3.ensures;
  second = number_told _ _ _ _ c.in_ok-second.was c.digits_at-4.ensures;
  rest = number_told _ _ _ _ c.in_ok-rest.was c.digits_at-5.ensures;
}

pub returns-then-v-ne21 : goal.returns-then-v-ne21
returns-then-v-ne21 c = time_lacks _ (λ p. c.if-v-ne21.true p.long)

pub returns-then-not-v : goal.returns-then-not-v
returns-then-not-v c = time_lacks _ (λ p. clash p.marked c.if-not-v.true)

pub returns-in_err-day : goal.returns-in_err-day
returns-in_err-day c = c.from_residual.ensures ∙ time_lacks _ (λ p. none_told _ _ _ c.in_err-day.was c.digits_at.ensures p.day)

pub returns-in_err-hour : goal.returns-in_err-hour
returns-in_err-hour c = c.from_residual-in_err-hour.ensures ∙ time_lacks _ (λ p. none_told _ _ _ c.in_err-hour.was c.digits_at-2.ensures p.hour)

pub returns-in_err-minute : goal.returns-in_err-minute
returns-in_err-minute c = c.from_residual-in_err-minute.ensures ∙ time_lacks _ (λ p. none_told _ _ _ c.in_err-minute.was c.digits_at-3.ensures p.minute)

pub returns-in_err-second : goal.returns-in_err-second
returns-in_err-second c = c.from_residual-in_err-second.ensures ∙ time_lacks _ (λ p. none_told _ _ _ c.in_err-second.was c.digits_at-4.ensures p.second)

pub returns-in_err-rest : goal.returns-in_err-rest
returns-in_err-rest c = c.from_residual-in_err-rest.ensures ∙ time_lacks _ (λ p. none_told _ _ _ c.in_err-rest.was c.digits_at-5.ensures p.rest)

below : (a b c d e : ℕ) → a < 10 ^ 8 → b < 10 ^ 2 → c < 10 ^ 2 → d < 10 ^ 2 → e < 10 ^ 3 → (((a * 100 + b) * 100 + c) * 100 + d) * 1000 + e < 10 ^ 17
below a b c d e p q r s t = omega arith

small : (c : goal.In_ok-rest) → (((c.in_ok-day.day * 100 + c.in_ok-hour.hour) * 100 + c.in_ok-minute.minute) * 100 + c.in_ok-second.second) * 1000 + c.in_ok-rest.rest < 10 ^ 17
small c = let s = said c in below _ _ _ _ _ s.day.2 s.hour.2 s.minute.2 s.second.2 s.rest.2

pub overflow_mul-result : goal.overflow_mul-result
overflow_mul-result c = record { fits = omega (arith, small c) }

pub overflow_mul-result-2 : goal.overflow_mul-result-2
overflow_mul-result-2 c = record { fits = omega (arith, small c) }

pub overflow_mul-result-3 : goal.overflow_mul-result-3
overflow_mul-result-3 c = record { fits = omega (arith, small c) }

pub overflow_mul-result-4 : goal.overflow_mul-result-4
overflow_mul-result-4 c = record { fits = omega (arith, small c) }

pub overflow_add-result : goal.overflow_add-result
overflow_add-result c = record { fits = omega (arith, small c) }

pub overflow_add-result-2 : goal.overflow_add-result-2
overflow_add-result-2 c = record { fits = omega (arith, small c) }

pub overflow_add-result-3 : goal.overflow_add-result-3
overflow_add-result-3 c = record { fits = omega (arith, small c) }

pub overflow_add-result-4 : goal.overflow_add-result-4
overflow_add-result-4 c = record { fits = omega (arith, small c) }

pub returns : goal.returns
unfolding time_of
returns c =
    let s = said c in
    let e : (((c.in_ok-day.day * 100 + c.in_ok-hour.hour) * 100 + c.in_ok-minute.minute) * 100 + c.in_ok-second.second) * 1000 + c.in_ok-rest.rest ≡ time_of c.args.v.now = rw (s.day.0, s.hour.0, s.minute.0, s.second.0, s.rest.0) in
    ap Some e ∙ time_there _ (record { long = c.if-v-ne21.false; marked = c.if-not-v.false; day = s.day.1; hour = s.hour.1; minute = s.minute.1; second = s.second.1; rest = s.rest.1 })
