-- `fields_ok`: the front tells all that the rules ask of any type but M102. Assumes nothing.
use Rattle.std.proofs.Common.{◌∙◌, arith}
use Rattle.rules.specs.Fields.{fields_ok}
use Rattle.reading_parts.specs.LongLaws.{front_long, fields_lent}
use Rattle.reading_parts.proofs.fields_ok.Goals as goal

pub slice_bounds-fields_ok-count : goal.slice_bounds-fields_ok-count
slice_bounds-fields_ok-count c = omega (arith, front_long _ _ c.requires.0)

pub slice_bounds-fields_ok-start : goal.slice_bounds-fields_ok-start
slice_bounds-fields_ok-start c = omega (arith, front_long _ _ c.requires.0)

pub returns-in-M102 : goal.returns-in-M102
unfolding fields_ok
returns-in-M102 c = rw c.in-M102.is c.m102_ok.ensures

pub returns-in_default : goal.returns-in_default
returns-in_default c = c.fields_ok.ensures ∙ fields_lent _ _ c.requires.0 _ c.in_default.not-M102
