-- `fit`: in an arm the rule is known; the test of its form is that of the row. Assumes nothing.
use Rattle.step_tags.specs.Papers.{rule_paper}
use Rattle.step_tags.specs.Laws.{fit_is, fit_none, good_text, good_number, good_flag, good_time}
use Rattle.std.specs.Prelude.{Some}
use mathlib.Core.Path.{sym, ap, ◌∙◌}
use Rattle.step_tags.proofs.fit.Goals as goal

pub returns-in_err-row : goal.returns-in_err-row
returns-in_err-row c = c.from_residual.ensures ∙ fit_none _ _ (ap rule_paper (sym c.in_err-row.was) ∙ c.rule_of.ensures)

pub returns-in-Text : goal.returns-in-Text
returns-in-Text c = c.then_some.ensures ∙ fit_is _ _ _ _ _ _ (ap rule_paper (sym (c.in_ok-row.was ∙ ap Some c.in-Text.is)) ∙ c.rule_of.ensures) (sym (good_text _ _))

pub returns-in-Number : goal.returns-in-Number
returns-in-Number c = c.then_some-in-Number.ensures ∙ fit_is _ _ _ _ _ _ (ap rule_paper (sym (c.in_ok-row.was ∙ ap Some c.in-Number.is)) ∙ c.rule_of.ensures) (c.is_number.ensures ∙ sym (good_number _ _))

pub returns-in-Flag : goal.returns-in-Flag
returns-in-Flag c = c.then_some-in-Flag.ensures ∙ fit_is _ _ _ _ _ _ (ap rule_paper (sym (c.in_ok-row.was ∙ ap Some c.in-Flag.is)) ∙ c.rule_of.ensures) (c.is_flag.ensures ∙ sym (good_flag _ _))

pub returns-in-Time : goal.returns-in-Time
returns-in-Time c = c.then_some-in-Time.ensures ∙ fit_is _ _ _ _ _ _ (ap rule_paper (sym (c.in_ok-row.was ∙ ap Some c.in-Time.is)) ∙ c.rule_of.ensures) (c.is_real.ensures ∙ sym (good_time _ _))
