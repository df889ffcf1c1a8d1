-- `first_difference`: the parts are equal, or the library finds the place. Assumes nothing.
use mathlib.Core.Path.{sym, ◌∙◌}
use borrow.Author.Rules.{rules}
use Rattle.std.proofs.Common.{tests}
use Rattle.std.proofs.lemmas.Iterator.{IsFirst-from_position, YieldsList-from_slice, YieldsList-from_zip}
use Rattle.clean.proofs.Parts.{equal_none, found_place, Alike, Apart}
use Rattle.clean.proofs.first_difference.Goals as goal

pub returns-then-eq : goal.returns-then-eq
returns-then-eq c = equal_none 0 _ _ (sym c.eq.ensures ∙ c.if-eq.true)

pub returns : goal.returns
returns c = found_place _ _ _ c.requires (IsFirst-from_position c.position.new.self _ _ Apart Alike c.position.ensures.ran (YieldsList-from_zip (YieldsList-from_slice c.args.a.now cc) (YieldsList-from_slice c.args.b.now cc)) (λ x q k. search (rules, tests)) (λ x q k. search (rules, tests)))
