-- `scrub`: a refusal is reading's; else the fields are painted as a part, and the sum moved.
-- Assumes nothing.
use Rattle.step_scrub.specs.ScrubLaws.{scrub_off, scrub_on}
use Rattle.step_scrub.proofs.ScrubLaws.{Told, told, end_is, part_is, end_in, sum_there, closed_fields, all_fields_lem, same_long, painting, renewing}
use Rattle.step_scrub.specs.Scrubbed.{painted}
use Rattle.std.specs.Prelude.{Err}
use borrow.Author.Rules.{rules}
use Rattle.step_frame.specs.Papers.{step_pos}
use Rattle.step_spec.proofs.Exactly.{fields_long}
use Rattle.step_spec.specs.Frame.{body_start, fields}
use Rattle.octets.specs.Overlays.{length_laid}
use Rattle.octets.specs.Octets.{laid}
use Rattle.terms.specs.Paper.{answer, one_number}
use lib.ListN.{length}
use mathlib.Core.List.{List, [], ◌∷◌}
use mathlib.Core.Path.{◌≡◌, sym, ap, ◌∙◌}
use Prim.Native.Nat.{ℕ, ◌+◌}
use native.Mathlib.Omega.{arith}
use Rattle.step_scrub.proofs.scrub.Goals as goal

-- the buffer with its fields painted is as long
room : (k p n t : ℕ) (s b : List ℕ) → Told s k p n t → b ≡ laid (body_start s + 5) (painted (fields s)) s → length b ≡ length s
room k p n t s b w e = ap length e ∙ length_laid (body_start s + 5) (painted (fields s)) s (omega (arith, same_long s w.goods, fields_long s w.goods, end_in s _ _ _ _ w, end_is s _ _ _ _ w, w.goods.five))

pub overflow_add-end : goal.overflow_add-end
overflow_add-end c = omega (arith, end_in c.args.buf.now _ _ _ _ (told _ _ _ _ _ c.in_ok-frame.ensures))

pub old_sum-old-requires : goal.old_sum-old-requires
old_sum-old-requires c =
    let s = c.args.buf.now in
    let w = told _ _ _ _ _ c.in_ok-frame.ensures in
    (end_in s _ _ _ _ w, sum_there s _ _ _ _ w)

pub paint_part-new-requires : goal.paint_part-new-requires
paint_part-new-requires c =
    let s = c.args.buf.now in
    let w = told _ _ _ _ _ c.in_ok-frame.ensures in
    (omega arith, omega (arith, end_in s _ _ _ _ w), rw (part_is s _ _ _ _ w) (closed_fields s w.goods), rw (part_is s _ _ _ _ w) (all_fields_lem s w.goods))

pub store_sum-requires : goal.store_sum-requires
store_sum-requires c =
    let s = c.args.buf.now in
    let w = told _ _ _ _ _ c.in_ok-frame.ensures in
    omega (arith, end_in s _ _ _ _ w, room _ _ _ _ s _ w (c.paint_part-new.ensures.0 ∙ painting s _ _ _ _ w))

pub returns-in_err-frame : goal.returns-in_err-frame
returns-in_err-frame c =
    let r : c.from_residual.result ≡ Err c.in_err-frame.field-0.0 = search rules in
    rw r (scrub_off _ _ c.in_err-frame.ensures (step_pos c.in_err-frame.field-0.0))

pub returns : goal.returns
returns c =
    let s = c.args.buf.now in
    let w = told _ _ _ _ _ c.in_ok-frame.ensures in
    let z = scrub_on s (sym (one_number c.in_ok-frame.ensures)) in (
      ap (λ (n : ℕ). answer 0 (n ∷ [])) w.total ∙ z.0,
      c.store_sum.ensures ∙ renewing s _ _ _ _ w _ _ _ (c.paint_part-new.ensures.0 ∙ painting s _ _ _ _ w) c.old_sum-old.ensures c.paint_part-new.ensures.1 ∙ z.1,
    )
