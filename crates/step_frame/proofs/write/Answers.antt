-- `write`: a refusal stores nothing; else the frame is laid. Assumes nothing.
use Rattle.terms.specs.Paper.{one_number}
use Rattle.step_frame.specs.Papers.{step_written_paper, step_pos}
use Rattle.step_spec.specs.WriteLaws.{wrote, message_small, left_kept, left_laid}
use Rattle.std.specs.Prelude.{Err}
use lib.ListN.{length}
use mathlib.Core.Path.{◌≡◌, sym, ap, ◌∙◌}
use borrow.Author.Rules.{rules}
use Rattle.step_frame.proofs.write.Goals as goal

pub store-requires : goal.store-requires
store-requires c =
    let a = c.args in
    let w = wrote a.kind a.fields.now (length a.out.now) (sym (one_number c.in_ok-n.ensures)) in
    (message_small a.kind a.fields.now w.0, w.1)

pub returns-in_err-n : goal.returns-in_err-n
returns-in_err-n c =
    let a = c.args in
    let r : c.from_residual.result ≡ Err c.in_err-n.field-0.0 = search rules in
    let e = c.in_err-n.ensures in
    (ap step_written_paper r ∙ e, sym (left_kept a.kind a.fields.now a.out.now _ (sym e) (step_pos c.in_err-n.field-0.0)))

pub returns : goal.returns
returns c =
    let a = c.args in
    (c.in_ok-n.ensures, c.store.ensures ∙ sym (left_laid a.kind a.fields.now a.out.now (sym (one_number c.in_ok-n.ensures))))
