-- `judge`: a pass that fails leaves 7 where a time is not real, else 26. Assumes nothing.
use Rattle.step_spec.proofs.FieldLaws.{judged_7}
use Rattle.step_spec.proofs.Pass.{fine_judged, unfine_judged}
use mathlib.Core.Path.{sym, ◌∙◌}
use Rattle.step_frame.proofs.judge.Goals as goal

pub returns-then-is_fine : goal.returns-then-is_fine
returns-then-is_fine c = sym (fine_judged _ _ (sym c.is_fine.ensures ∙ c.if-is_fine.true))

pub returns-then-is_unreal : goal.returns-then-is_unreal
returns-then-is_unreal c = sym (judged_7 _ _ (sym c.is_unreal.ensures ∙ c.if-is_unreal.true))

pub returns : goal.returns
returns c = sym (unfine_judged _ _ (sym c.is_fine.ensures ∙ c.if-is_fine.false) (sym c.is_unreal.ensures ∙ c.if-is_unreal.false))
