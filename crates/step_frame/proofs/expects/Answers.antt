-- `expects`: bytes that begin with the literal, or with which it begins. Assumes nothing.
use Rattle.step_frame.specs.Papers.{step_number}
use Rattle.step_frame.proofs.Searches.{expected}
use mathlib.Core.Path.{◌∙◌, sym, refl}
use Rattle.std.specs.Prelude.{eqb, length, take, drop, ◌-◌}
use Rattle.std.specs.List.{starts_with}
use mathlib.Core.Bool.{true, false}
use Rattle.step_frame.proofs.expects.Goals as goal

pub returns-then-starts_with : goal.returns-then-starts_with
returns-then-starts_with c = let a = c.args in expected (step_number a.why) a.at a.literal.now a.bytes.now true (starts_with eqb a.literal.now (take (length a.bytes.now - a.at) (drop a.at a.bytes.now))) c.requires (sym c.if-starts_with.true ∙ c.starts_with.ensures.value) refl

pub returns-then-starts_with-2 : goal.returns-then-starts_with-2
returns-then-starts_with-2 c = let a = c.args in expected (step_number a.why) a.at a.literal.now a.bytes.now false true c.requires (sym c.if-starts_with.false ∙ c.starts_with.ensures.value) (sym c.if-starts_with-2.true ∙ c.starts_with-else-starts_with.ensures.value)

pub returns-else-starts_with-2 : goal.returns-else-starts_with-2
returns-else-starts_with-2 c = let a = c.args in expected (step_number a.why) a.at a.literal.now a.bytes.now false false c.requires (sym c.if-starts_with.false ∙ c.starts_with.ensures.value) (sym c.if-starts_with-2.false ∙ c.starts_with-else-starts_with.ensures.value)
