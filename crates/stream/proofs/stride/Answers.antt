-- `stride`: by whether the reading is a frame. Assumes nothing.
use mathlib.Core.Path.{sym, ap, ◌∙◌}
use lib.Dec.{eqb}
use Rattle.std.specs.Prelude.{⊤, Result}
use Rattle.terms.specs.Paper.{pick}
use Rattle.terms.specs.Refusals.{refusal_not_0}
use Rattle.terms.specs.Verdicts.{verdict_number}
use Rattle.terms.specs.declared.Refusal.{Refusal}
use Rattle.stream_spec.specs.Run.{stride_of}
use Rattle.stream.proofs.stride.Goals as goal

pub returns-in-Ok : goal.returns-in-Ok
unfolding stride_of
returns-in-Ok c = sym (ap (λ (v : Result ⊤ Refusal). pick (eqb (verdict_number v) 0) c.args.seen.size 1) c.in-Ok.is)

pub returns-in-Err : goal.returns-in-Err
unfolding stride_of
returns-in-Err c = sym (ap (λ (v : Result ⊤ Refusal). pick (eqb (verdict_number v) 0) c.args.seen.size 1) c.in-Err.is ∙ rw (refusal_not_0 c.in-Err.field-0))
