use native.Mathlib.Omega.{arith}
use Prim.Native.Nat.{ℕ, ◌+◌, ◌≤◌, ◌<◌}
use mathlib.Core.Path.{◌≡◌, refl, sym, ap, ◌∙◌}
use mathlib.Core.Bool.{Bool, false, not}
use lib.Dec.{eqb}
use Rattle.std.specs.Prelude.{Result, Ok, Err, is_err}
use Rattle.terms.specs.Refusals.{refusal_not_0}
use Rattle.terms.specs.Verdicts.{verdict_number}
use Rattle.terms.specs.declared.Refusal.{Refusal}
use Rattle.clean_spec.specs.Kept.{size_of, kept_number, kept_size}
use Rattle.stream_clean_spec.specs.declared.Sums.{Sums}
use mathlib.Core.List.{List, ◌++◌}
use lib.ListN.{length, drop, length-append}
use Rattle.reading.specs.declared.Seen.{Seen}
use Rattle.reading.specs.Seen.{seen_of, seen_number}
use Rattle.stream_spec.specs.Run.{waits_at, passed_over, stride_of}
use Rattle.stream_clean_spec.specs.Wash.{unjudged_by, plus}
use Rattle.stream_clean_spec.specs.Runs.{one_by, left_start, left_over_lem, left_far, left_note, left_wait, left_end}
use Rattle.stream_clean.specs.declared.Taken.{Taken}
use Rattle.stream_clean.specs.Taken.{taken_of}
use Rattle.stream_clean.proofs.Readings.{wait_laid, pass_laid, stride_is, add_fits}
use Rattle.stream_clean.proofs.wash.Goals as goal
use Rattle.stream_clean.proofs.wash.Goals.{After-passes, After-unwrap_or-p, After-take_in-taken, After-waits, At-loop-p, Else-passes, Else-waits, In-loop-p, Start}

-- the bytes, and what is seen at the place
abbrev start : goal.At-loop-p → goal.Start
start c = (goal.at.At-loop-p c).Start

abbrev bytes : goal.At-loop-p → List ℕ
bytes c = (start c).args.a.now ++ (start c).args.b.now

abbrev seen : goal.At-loop-p → Seen
seen c = seen_of (drop c.loop-p.p (bytes c))

long : (c : goal.At-loop-p) → length (bytes c) ≡ length (start c).args.a.now + length (start c).args.b.now
long c = length-append (start c).args.a.now (start c).args.b.now

inside : (c : goal.In-loop-p) → c.loop-p.p < length (bytes (goal.at.In-loop-p c).At-loop-p)
inside c = omega (arith, c.loop-p-test.true, long (goal.at.In-loop-p c).At-loop-p)

-- what was read
is-taken : (c : goal.After-take_in-taken) → c.take_in-taken.result ≡ taken_of (seen (goal.at.After-take_in-taken c).At-loop-p)
is-taken c = c.take_in-taken.ensures.0

-- its number, and how many bytes it has
number : (c : goal.After-take_in-taken) → verdict_number c.take_in-taken.result.answer ≡ seen_number (seen (goal.at.After-take_in-taken c).At-loop-p)
number c = ap (λ (t : Taken). verdict_number t.answer) (is-taken c) ∙ kept_number (seen (goal.at.After-take_in-taken c).At-loop-p)

counted : (s : List ℕ) (b : Bool) (before : Sums) (t : Taken) → t ≡ taken_of (seen_of s) → plus before (one_by b (verdict_number t.answer) (size_of t.answer) t.unjudged) ≡ plus before (one_by b (seen_number (seen_of s)) (seen_of s).size (unjudged_by (seen_of s).msg_type))
counted s b before t e =
    ap (λ (y : Taken). plus before (one_by b (verdict_number y.answer) (size_of y.answer) y.unjudged)) e
    ∙ rw (kept_number (seen_of s), kept_size s)

-- whether it was refused, by its number
refused_by : (a : Result ℕ Refusal) → is_err a ≡ not (eqb (verdict_number a) 0)
refused_by (Ok n) = refl
refused_by (Err w) = rw (refusal_not_0 w)

-- whether the place waits, and whether it is passed over
waiting : (c : goal.After-waits) → waits_at (start (goal.at.After-waits c).At-loop-p).args.closing (seen_number (seen (goal.at.After-waits c).At-loop-p)) ≡ c.waits.result
waiting c = ap (waits_at _) (sym (number (goal.at.After-waits c).After-take_in-taken)) ∙ sym c.waits.ensures

passing : (c : goal.After-passes) → passed_over c.loop-p.seeking (seen_number (seen (goal.at.After-passes c).At-loop-p)) ≡ c.passes.result
passing c = ap (passed_over _) (sym (number (goal.at.After-passes c).After-take_in-taken)) ∙ sym c.passes.ensures

not-waiting : (c : goal.Else-waits) → waits_at (start (goal.at.Else-waits c).At-loop-p).args.closing (seen_number (seen (goal.at.Else-waits c).At-loop-p)) ≡ false
not-waiting c = waiting (goal.at.Else-waits c).After-waits ∙ c.if-waits.false

-- how far a reading goes
far : (c : goal.Else-passes) → (1 ≤ stride_of (seen (goal.at.Else-passes c).At-loop-p)) × (c.loop-p.p + stride_of (seen (goal.at.Else-passes c).At-loop-p) ≤ length (bytes (goal.at.Else-passes c).At-loop-p))
far c = left_far _ _ _ _ _ _ _ _ _ (c.loop-p.invariant 0) (inside (goal.at.Else-passes c).In-loop-p) (not-waiting (goal.at.Else-passes c).Else-waits) (passing (goal.at.Else-passes c).After-passes ∙ c.if-passes.false)

stride-of : (c : goal.After-unwrap_or-p) → c.unwrap_or-p.result ≡ stride_of (seen (goal.at.After-unwrap_or-p c).At-loop-p)
stride-of c = c.unwrap_or-p.ensures ∙ stride_is _ _ (is-taken (goal.at.After-unwrap_or-p c).After-take_in-taken)

pub loop-p-init : goal.loop-p-init
loop-p-init c = λ base. left_start _ _ _ _ _

pub loop-p-preserved-then-passes : goal.loop-p-preserved-then-passes
loop-p-preserved-then-passes c = λ base.
    rw (pass_laid _ _ _ _ _ (passing (goal.at.loop-p-preserved-then-passes c).After-passes ∙ c.if-passes.true) c.take_in-taken.ensures.1)
    (left_over_lem _ _ _ _ _ _ _ _ _ (c.loop-p.invariant base) (inside (goal.at.loop-p-preserved-then-passes c).In-loop-p) (not-waiting (goal.at.loop-p-preserved-then-passes c).Else-waits) (passing (goal.at.loop-p-preserved-then-passes c).After-passes ∙ c.if-passes.true))

pub added-sums-requires : goal.added-sums-requires
added-sums-requires c =
    let s = c in
    add_fits (bytes (goal.at.added-sums-requires c).At-loop-p) s.loop-p.p _ _ (is-taken (goal.at.added-sums-requires c).After-take_in-taken) (inside (goal.at.added-sums-requires c).In-loop-p) (omega (arith, long (goal.at.added-sums-requires c).At-loop-p, (start (goal.at.added-sums-requires c).At-loop-p).requires)) (s.loop-p.invariant 0).few (s.loop-p.invariant 0).right

pub overflow_add-p-in-loop-p : goal.overflow_add-p-in-loop-p
overflow_add-p-in-loop-p c = omega (arith, stride-of (goal.at.overflow_add-p-in-loop-p c).After-unwrap_or-p, (far (goal.at.overflow_add-p-in-loop-p c).Else-passes).1, long (goal.at.overflow_add-p-in-loop-p c).At-loop-p, (start (goal.at.overflow_add-p-in-loop-p c).At-loop-p).requires)

pub loop-p-smaller : goal.loop-p-smaller
loop-p-smaller c = omega (arith, stride-of (goal.at.loop-p-smaller c).After-unwrap_or-p, (far (goal.at.loop-p-smaller c).Else-passes).0, c.loop-p-test.true)

pub loop-p-preserved : goal.loop-p-preserved
loop-p-preserved c = λ base.
    let s = c in
    rw (stride-of (goal.at.loop-p-preserved c).After-unwrap_or-p, c.is_err-seeking.ensures.value, refused_by s.take_in-taken.result.answer, number (goal.at.loop-p-preserved c).After-take_in-taken)
    (left_note _ _ _ _ _ _ _ _ _ (s.loop-p.invariant base) (inside (goal.at.loop-p-preserved c).In-loop-p) (not-waiting (goal.at.loop-p-preserved c).Else-waits) _ _ (passing (goal.at.loop-p-preserved c).After-passes ∙ c.if-passes.false)
    (c.added-sums.ensures ∙ counted _ _ _ _ (is-taken (goal.at.loop-p-preserved c).After-take_in-taken)) c.take_in-taken.ensures.1)

pub returns-after-loop-p : goal.returns-after-loop-p
returns-after-loop-p c = λ base. left_end _ _ _ _ _ _ _ _ _ (c.loop-p.invariant base) (omega (arith, c.loop-p-test.false, long (goal.at.returns-after-loop-p c).At-loop-p))

pub returns-then-waits : goal.returns-then-waits
returns-then-waits c = λ base.
    rw (wait_laid _ _ _ _ _ (waiting (goal.at.returns-then-waits c).After-waits ∙ c.if-waits.true) c.take_in-taken.ensures.1)
    (left_wait _ _ _ _ _ _ _ _ _ (c.loop-p.invariant base) (inside (goal.at.returns-then-waits c).In-loop-p) (waiting (goal.at.returns-then-waits c).After-waits ∙ c.if-waits.true))
