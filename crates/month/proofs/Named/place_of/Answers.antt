-- Where none is hinted at none has it; a hint that has the channel is its place, since no other has
-- it. Assumes nothing.
use Rattle.std.proofs.Common.{◌∙◌, ap, ℕ, Option, rules}
use Rattle.std.specs.Option.{unwrap_or}
use Rattle.month.proofs.Loops.{first_place, first_inside}
use Rattle.month.proofs.PassLaws.{hint_none, hint_holds}
use Rattle.month.proofs.Named.place_of.Goals as goal

pub returns-then-self-hint-clause-place : goal.returns-then-self-hint-clause-place
returns-then-self-hint-clause-place c = hint_none c.args.self.now.channels c.args.self.now.count c.args.hint c.args.channel c.requires c.if-self-hint.true

pub returns-then-self-hint-2-clause-place : goal.returns-then-self-hint-2-clause-place
returns-then-self-hint-2-clause-place c = hint_holds _ _ c.args.self.now.naming _ _ c.if-self-hint.false c.if-self-hint-2.true

pub returns-clause-place : goal.returns-clause-place
returns-clause-place c = ap (λ (o : Option ℕ). unwrap_or o c.args.self.now.count) c.first_of.ensures ∙ first_place c.args.self.now.channels c.args.self.now.count c.args.channel (search rules)

pub returns-clause-inside : goal.returns-clause-inside
returns-clause-inside c = rw c.first_of.ensures (first_inside c.args.self.now.channels c.args.self.now.count c.args.channel (search rules))
