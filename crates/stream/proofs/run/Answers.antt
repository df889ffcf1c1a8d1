use native.Mathlib.Omega.{arith}
use Prim.Native.Nat.{ℕ, ◌+◌, ◌≤◌, ◌<◌}
use mathlib.Core.Path.{◌≡◌, refl, sym, ◌∙◌}
use mathlib.Core.Bool.{false, not}
use lib.Dec.{eqb}
use Rattle.std.specs.Prelude.{⊤, Result, Ok, Err, is_err}
use Rattle.terms.specs.Refusals.{refusal_not_0}
use Rattle.terms.specs.Verdicts.{verdict_number}
use Rattle.terms.specs.declared.Refusal.{Refusal}
use mathlib.Core.List.{List, ◌++◌}
use lib.ListN.{length, length-append}
use Rattle.reading.specs.Seen.{seen_number}
use Rattle.stream_spec.specs.Run.{stride_of, waits_at, passed_over}
use Rattle.stream_spec.specs.RunLaws.{left_start, left_over_lem, left_note, left_wait, left_end, seen_at}
use Rattle.stream.proofs.run.Goals as goal
use Rattle.stream.proofs.run.Goals.{After-passes, After-waits, At-loop-p, Else-passes, Else-waits, In-loop-p, Start}

-- whether it was refused, by its number
refused_by : (a : Result ⊤ Refusal) → is_err a ≡ not (eqb (verdict_number a) 0)
refused_by (Ok u) = refl
refused_by (Err w) = rw (refusal_not_0 w)

abbrev start : goal.At-loop-p → goal.Start
start c = (goal.at.At-loop-p c).Start

abbrev bytes : goal.At-loop-p → List ℕ
bytes c = (start c).args.a.now ++ (start c).args.b.now

long : (c : goal.At-loop-p) → length (bytes c) ≡ length (start c).args.a.now + length (start c).args.b.now
long c = length-append (start c).args.a.now (start c).args.b.now

inside : (c : goal.In-loop-p) → c.loop-p.p < length (bytes (goal.at.In-loop-p c).At-loop-p)
inside c = omega (arith, long (goal.at.In-loop-p c).At-loop-p, c.loop-p-test.true)

-- what was asked of the reading's number is so of the reading
waiting : (c : goal.After-waits) → waits_at (start (goal.at.After-waits c).At-loop-p).args.closing (seen_number c.see_at-seen.result) ≡ c.waits.result
waiting c = sym c.waits.ensures

passing : (c : goal.After-passes) → passed_over c.loop-p.seeking (seen_number c.see_at-seen.result) ≡ c.passes.result
passing c = sym c.passes.ensures

-- the place does not wait
not-waiting : (c : goal.Else-waits) → waits_at (start (goal.at.Else-waits c).At-loop-p).args.closing (seen_number c.see_at-seen.result) ≡ false
not-waiting c = waiting (goal.at.Else-waits c).After-waits ∙ c.if-waits.false

-- how far a reading goes
far : (c : goal.Else-passes) → (1 ≤ stride_of c.see_at-seen.result) × (c.loop-p.p + stride_of c.see_at-seen.result ≤ length (bytes (goal.at.Else-passes c).At-loop-p))
far c =
    let l = c in
    (seen_at l.loop-p.seeking (start (goal.at.Else-passes c).At-loop-p).args.closing (start (goal.at.Else-passes c).At-loop-p).args.base l.loop-p.p (bytes (goal.at.Else-passes c).At-loop-p) c.see_at-seen.result (inside (goal.at.Else-passes c).In-loop-p) c.see_at-seen.ensures (not-waiting (goal.at.Else-passes c).Else-waits) (passing (goal.at.Else-passes c).After-passes ∙ c.if-passes.false)).1

pub loop-p-init : goal.loop-p-init
loop-p-init c = left_start _ _ _ _ _ _ _ c.requires.1

pub loop-p-preserved-then-passes : goal.loop-p-preserved-then-passes
loop-p-preserved-then-passes c = left_over_lem _ _ _ _ _ _ _ _ _ _ _ _ c.loop-p.invariant _ (inside (goal.at.loop-p-preserved-then-passes c).In-loop-p) c.see_at-seen.ensures (not-waiting (goal.at.loop-p-preserved-then-passes c).Else-waits) (passing (goal.at.loop-p-preserved-then-passes c).After-passes ∙ c.if-passes.true)

pub overflow_add-p-in-loop-p : goal.overflow_add-p-in-loop-p
overflow_add-p-in-loop-p c = omega (arith, c.stride-p.ensures, (far (goal.at.overflow_add-p-in-loop-p c).Else-passes).1, (start (goal.at.overflow_add-p-in-loop-p c).At-loop-p).requires.0)

pub loop-p-smaller : goal.loop-p-smaller
loop-p-smaller c = omega (arith, c.stride-p.ensures, (far (goal.at.loop-p-smaller c).Else-passes).0, (far (goal.at.loop-p-smaller c).Else-passes).1, long (goal.at.loop-p-smaller c).At-loop-p)

pub loop-p-preserved : goal.loop-p-preserved
loop-p-preserved c =
    rw (c.stride-p.ensures, c.is_err-seeking.ensures.value, refused_by _)
    (left_note _ _ _ _ _ _ _ _ _ _ _ _ c.loop-p.invariant _ _ _ _ _ _ (inside (goal.at.loop-p-preserved c).In-loop-p) c.see_at-seen.ensures (not-waiting (goal.at.loop-p-preserved c).Else-waits) (passing (goal.at.loop-p-preserved c).After-passes ∙ c.if-passes.false)
    (c.number_of-answer.ensures ∙ c.offer-after.ensures.0, c.offer-after.ensures.1) c.made.ensures c.counted-tally.ensures c.note.ensures)

pub returns-after-loop-p : goal.returns-after-loop-p
returns-after-loop-p c =
    let e : length (bytes (goal.at.returns-after-loop-p c).At-loop-p) ≤ c.loop-p.p = omega (arith, long (goal.at.returns-after-loop-p c).At-loop-p, c.loop-p-test.false) in
    left_end _ _ _ _ _ _ _ _ _ _ _ _ c.loop-p.invariant e

pub returns-then-waits : goal.returns-then-waits
returns-then-waits c = left_wait _ _ _ _ _ _ _ _ _ _ _ _ c.loop-p.invariant _ (inside (goal.at.returns-then-waits c).In-loop-p) c.see_at-seen.ensures (waiting (goal.at.returns-then-waits c).After-waits ∙ c.if-waits.true)
