-- `sum_at`: the trailer is laid out with the sum, and expected behind the body. Assumes nothing.
use Rattle.step_spec.proofs.HeadLaws.{sum_short, sum_open, sum_is}
use lib.Seq.{drop-drop, get_or-drop}
use lib.ListN.{drop, get_or, length-drop}
use mathlib.Core.List.{List}
use mathlib.Core.Path.{◌≡◌, sym, ◌∙◌}
use Prim.Native.Nat.{ℕ, ◌+◌, ◌-◌, ◌≤◌}
use native.Mathlib.Omega.{arith}
use Rattle.step_frame.proofs.sum_at.Goals as goal
use Rattle.step_frame.proofs.sum_at.Goals.{Start}

abbrev text : goal.Start → List ℕ
text c = drop c.args.at c.args.bytes.now

last : (c : goal.Start) → 1 ≤ c.args.end → get_or (text c) (c.args.end - 1) 0 ≡ get_or c.args.bytes.now (c.args.at + c.args.end - 1) 0
last c h =
    let e : c.args.at + (c.args.end - 1) ≡ c.args.at + c.args.end - 1 = omega arith in
    get_or-drop c.args.at c.args.bytes.now (c.args.end - 1) 0 ∙ rw e

pub returns-then-bytes-at : goal.returns-then-bytes-at
returns-then-bytes-at c = let o = c in sym (sum_short o.args.end (text (goal.at.returns-then-bytes-at c).Start) (simp length-drop (omega arith)))

pub returns-then-bytes-at-ne-SOH : goal.returns-then-bytes-at-ne-SOH
returns-then-bytes-at-ne-SOH c = let o = c in sym (sum_open o.args.end (text (goal.at.returns-then-bytes-at-ne-SOH c).Start) (simp length-drop (omega arith)) (λ e. c.if-bytes-at-ne-SOH.true (sym (last (goal.at.returns-then-bytes-at-ne-SOH c).Start o.requires.1) ∙ e)))

pub returns : goal.returns
returns c = let o = c in
    let i = sum_is o.args.end (text (goal.at.returns c).Start) (simp length-drop (omega arith)) (last (goal.at.returns c).Start o.requires.1 ∙ c.if-bytes-at-ne-SOH.false) in
    c.expects.ensures ∙ rw (c.trailer-trailer.ensures, c.sum.ensures, ← drop-drop o.args.end o.args.at o.args.bytes.now) (sym i)
