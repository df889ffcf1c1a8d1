-- `accept_at`: the fields are a part of the bytes; their judgement is the answer. Assumes nothing.
use Rattle.step_spec.specs.HeadLaws.{kind_at, fields_at, accepted_at}
use Rattle.step_frame.specs.Papers.{step_pos}
use Rattle.std.specs.Prelude.{Err}
use borrow.Author.Rules.{rules}
use Rattle.step_spec.specs.HeadLaws.{read_judged, read_frame}
use Rattle.step_spec.proofs.HeadLaws.{sum_room}
use Rattle.step_spec.specs.Frame.{body_start, body_length, kind, fields}
use Rattle.step_spec.specs.Fields.{judge_of}
use lib.ListN.{length, get_or, take, drop, length-drop}
use mathlib.Core.List.{List}
use mathlib.Core.Path.{◌≡◌, sym, ◌∙◌}
use Prim.Native.Nat.{ℕ, ◌+◌, ◌-◌, ◌≤◌}
use native.Mathlib.Omega.{arith}
use Rattle.step_frame.proofs.accept_at.Goals as goal
use Rattle.step_frame.proofs.accept_at.Goals.{Start}

abbrev text : goal.Start → List ℕ
text c = drop c.args.at c.args.bytes.now

inside : (c : goal.Start) → c.args.at + c.args.head.start + c.args.head.len ≤ length c.args.bytes.now
inside c = omega (arith, c.requires.0, sum_room _ _ c.requires.3, length-drop c.args.at c.args.bytes.now)

-- the type and the fields as the bytes have them
judged : {m : ℕ} (c : goal.Start) → m ≡ judge_of (get_or c.args.bytes.now (c.args.at + c.args.head.start + 3) 0) (take (c.args.at + c.args.head.start + c.args.head.len - (c.args.at + c.args.head.start + 5)) (drop (c.args.at + c.args.head.start + 5) c.args.bytes.now)) → m ≡ judge_of (kind (text c)) (fields (text c))
judged c e =
    let p = c.requires.1 in
    rw (kind_at c.args.bytes.now c.args.at c.args.head.start c.args.head.len p.starts p.long, fields_at c.args.bytes.now c.args.at c.args.head.start c.args.head.len p.starts p.long) at e

ends : (c : goal.Start) → c.args.head.start + c.args.head.len ≡ body_start (text c) + body_length (text c)
ends c = let p = c.requires.1 in omega (arith, p.starts, p.long)

pub slice_bounds-judge-end : goal.slice_bounds-judge-end
slice_bounds-judge-end c = omega (arith, inside (goal.at.slice_bounds-judge-end c).Start)

pub returns-in_err-judge : goal.returns-in_err-judge
returns-in_err-judge c =
    let p = goal.at.returns-in_err-judge c in
    let r : c.from_residual.result ≡ Err c.in_err-judge.field-0.0 = search rules in
    rw r (sym (read_judged (text p.Start) c.requires.2 (rw (ends p.Start) at c.requires.3) _ (sym (judged p.Start c.in_err-judge.ensures)) (step_pos c.in_err-judge.field-0.0)))

pub returns : goal.returns
returns c =
    let p = goal.at.returns c in
    let z = c.requires.1 in
    accepted_at c.args.bytes.now c.args.at c.args.head.start c.args.head.len z.starts z.long ∙ sym (read_frame (text p.Start) c.requires.2 (rw (ends p.Start) at c.requires.3) (sym (judged p.Start c.in_ok-judge.ensures)))
