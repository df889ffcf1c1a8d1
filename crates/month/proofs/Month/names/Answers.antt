-- The rules of a sound page are those of the channels that it names. Assumes nothing.
use Rattle.std.proofs.Common.{sym, ◌∙◌}
use Rattle.month_spec.proofs.Rules.{rules_facts}
use Rattle.month.specs.State.{page_in}
use Rattle.month.proofs.AddLaws.{naming_of}
use Rattle.month.proofs.Month.names.Goals as goal

pub invariant_of-result : goal.invariant_of-result
invariant_of-result c = record { naming = naming_of (page_in c.args.self) (rules_facts _ (sym c.sound.ensures ∙ c.if-not-sound.false)) }
