-- `paint_value`: the sum is moved, then the part is lent, filled and back. Assumes nothing.
use Rattle.step_scrub.specs.Moved.{moved_same, moved_after}
use Rattle.octets.specs.Octets.{laid}
use Rattle.step_scrub.proofs.Parts.{filled}
use lib.ListN.{replicate}
use mathlib.Core.Path.{◌≡◌, sym, ap, ◌∙◌}
use Prim.Native.Nat.{ℕ, ◌+◌, ◌-◌}
use native.Mathlib.Omega.{arith}
use borrow.Author.Rules.{rules}
use Rattle.step_scrub.proofs.paint_value.Goals as goal

pub returns-then-not-is_private : goal.returns-then-not-is_private
returns-then-not-is_private c = let a = c.args in (rw (sym c.is_private.ensures ∙ c.if-not-is_private.true), moved_same a.sum a.buf.now (search rules))

pub returns : goal.returns
returns c = let a = c.args in
    let e : a.field.value + a.field.len - a.field.value ≡ a.field.len = omega arith in
    let l = filled a.field.value (a.field.value + a.field.len) 32 a.buf.now _ (omega arith) (omega arith) c.fill.ensures ∙ ap (λ (k : ℕ). laid a.field.value (replicate k 32) a.buf.now) e in (
      rw (sym c.is_private.ensures ∙ c.if-not-is_private.false) l,
      c.sum_after-after.ensures ∙ moved_after a.buf.now a.field.value a.field.len 32 a.sum (search rules) (omega arith) ∙ rw l,
    )
