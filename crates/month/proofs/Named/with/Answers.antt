-- By the tests in their order. Assumes nothing.
use Rattle.std.proofs.Common.{sym, ◌∙◌}
use Rattle.month.proofs.StartLaws.{long_10, twice_22, full_21, fine_0, named_more}
use Rattle.month.proofs.Named.with.Goals as goal

pub returns-then-channel-gt9999-clause-number : goal.returns-then-channel-gt9999-clause-number
returns-then-channel-gt9999-clause-number c = long_10 _ _ _ c.args.self.naming c.if-channel-gt9999.true

pub returns-then-contains-clause-number : goal.returns-then-contains-clause-number
returns-then-contains-clause-number c = twice_22 _ _ _ c.args.self.naming c.if-channel-gt9999.false (sym c.contains.ensures.value ∙ c.if-contains.true)

pub returns-then-self-eq32-clause-number : goal.returns-then-self-eq32-clause-number
returns-then-self-eq32-clause-number c = full_21 _ _ _ c.args.self.naming (sym c.contains.ensures.value ∙ c.if-contains.false) c.if-channel-gt9999.false c.if-self-eq32.true

pub invariant_of-result : goal.invariant_of-result
invariant_of-result c = record { naming = named_more _ _ _ c.args.self.naming (sym c.contains.ensures.value ∙ c.if-contains.false) c.if-channel-gt9999.false c.if-self-eq32.false }

pub returns-clause-number : goal.returns-clause-number
returns-clause-number c = fine_0 _ _ _ c.args.self.naming (sym c.contains.ensures.value ∙ c.if-contains.false) c.if-channel-gt9999.false c.if-self-eq32.false
