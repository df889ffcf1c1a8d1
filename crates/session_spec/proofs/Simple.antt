-- CR 12's sentences that follow at once: the numbers, the rules, refusals, and times that go back.
-- Assumes nothing.
use mathlib.Core.Path.{◌≡◌, ap, ◌∙◌}
use mathlib.Core.Bool.{true}
use Prim.Native.Nat.{ℕ, ◌+◌, ◌≤◌, max}
use native.Mathlib.Omega.{arith}
use Rattle.session_spec.specs.Table.{Event, sends}
use Rattle.session_spec.specs.Calls.{Line, Answer, sound_of, number_to, answer_to, next_of}
use Rattle.session_spec.specs.Trace.{Call, Calls, after, answer_after, trace}
use Rattle.session_spec.specs.Words.{count_sent, count_taken, numbers_sent, numbers_taken, one_to}
use Rattle.session_spec.specs.Statements.{Nothing}
use Rattle.session_spec.proofs.Outcome.{answer_zero, answer_not_zero}
use Rattle.session_spec.proofs.Steps.{step}
use Rattle.session_spec.proofs.Agree.{agrees}

-- what was sent has the numbers 1, 2, 3 and so on, each once
pub numbers_out : (calls : Calls) → numbers_sent (trace calls) ≡ one_to (count_sent (trace calls))
numbers_out calls = (agrees calls).list_out

-- so have the frames taken
pub numbers_in : (calls : Calls) → numbers_taken (trace calls) ≡ one_to (count_taken (trace calls))
numbers_in calls = (agrees calls).list_in

-- the next message has the next number
pub next_number : (calls : Calls) (call : Call) → sends (answer_after calls call).kind ≡ true → (answer_after calls call).seq ≡ count_sent (trace calls) + 1
next_number calls call p = let g = agrees calls in (step (after calls) call g.sound).sent_seq p ∙ g.out

-- the state rules hold, so 13 is never answered
pub rules_kept : (calls : Calls) → sound_of (after calls) ≡ true
rules_kept calls = (agrees calls).sound

zero_told : (l : Line) (now : ℕ) (e : Event) → number_to l now e ≡ 0 → (answer_to l now e).number ≡ 0
zero_told l now e z = ap (λ (a : Answer). a.number) (answer_zero l now e z).0

-- for every session, sound or not: a refusal, by whatever number, moves and sends nothing
pub refused_moves_nothing : (l : Line) (now : ℕ) (e : Event) → ((answer_to l now e).number ≡ 0 → ⊥) → Nothing l now e
refused_moves_nothing l now e p =
    let q = answer_not_zero l now e (λ z. p (zero_told l now e z)) in
    record { same = q.1; unsent = ap (λ (a : Answer). a.kind) q.0; undead = ap (λ (a : Answer). a.dead) q.0 }

-- a call depends on the time through the clock alone
by_clock : (l : Line) (x y : ℕ) (e : Event) → max l.last x ≡ max l.last y → (answer_to l x e ≡ answer_to l y e) × (next_of l x e ≡ next_of l y e)
unfolding answer_to next_of number_to
by_clock l x y e p = (rw p, rw p)

-- a time that goes back is as if it stood
pub time_back : (l : Line) (now : ℕ) (e : Event) → now ≤ l.last → (answer_to l now e ≡ answer_to l l.last e) × (next_of l now e ≡ next_of l l.last e)
time_back l now e h = let p : max l.last now ≡ max l.last l.last = omega arith in by_clock l now l.last e p
