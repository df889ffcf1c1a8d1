-- `read_at`: the checks one behind the other. Assumes nothing.
use Rattle.step_frame.specs.declared.Head.{Head}
use Rattle.std.specs.Prelude.{Err}
use borrow.Author.Rules.{rules}
use Rattle.step_frame.specs.Papers.{step_pos, Sized}
use Rattle.step_spec.specs.HeadLaws.{read_short, read_head, read_sum}
use Rattle.step_spec.specs.Frame.{body_start, body_length}
use lib.ListN.{drop, length-drop}
use mathlib.Core.List.{List}
use mathlib.Core.Path.{◌≡◌, sym}
use Prim.Native.Nat.{ℕ, ◌+◌}
use native.Mathlib.Omega.{arith}
use Rattle.step_frame.proofs.read_at.Goals as goal

ends : (h : Head) (s : List ℕ) → Sized h s → h.start + h.len ≡ body_start s + body_length s
ends h s p = omega (arith, p.starts, p.long)

pub returns-then-bytes-at : goal.returns-then-bytes-at
returns-then-bytes-at c = sym (read_short _ (simp length-drop (omega arith)))

pub returns-in_err-head : goal.returns-in_err-head
returns-in_err-head c =
    let r : c.from_residual.result ≡ Err c.in_err-head.field-0.0 = search rules in
    rw r (sym (read_head _ _ (sym c.in_err-head.ensures) (step_pos c.in_err-head.field-0.0)))

pub returns-in_err-sum_at : goal.returns-in_err-sum_at
returns-in_err-sum_at c =
    let r : c.from_residual-in_err-sum_at.result ≡ Err c.in_err-sum_at.field-0.0 = search rules in
    let z = c.in_ok-head.ensures in
    rw r (sym (read_sum (drop c.args.at c.args.bytes.now) z.1 _ (sym (rw (ends _ _ z.0) at c.in_err-sum_at.ensures)) (step_pos c.in_err-sum_at.field-0.0)))
