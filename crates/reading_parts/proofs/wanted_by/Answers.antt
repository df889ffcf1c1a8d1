-- `wanted_by`: by the header, where it is there. Assumes nothing.
use Rattle.std.proofs.Common.{ℕ, ◌+◌, sym, ap, ◌∙◌}
use Rattle.reading_parts.specs.PartLaws.{wanted_header, wanted_frame}
use Rattle.reading_parts.proofs.wanted_by.Goals as goal

pub returns-then-begun-lt24 : goal.returns-then-begun-lt24
returns-then-begun-lt24 c = sym (wanted_header _ c.if-begun-lt24.true)

pub returns : goal.returns
returns c = ap (λ (x : ℕ). 28 + x) c.at.ensures ∙ sym (wanted_frame _ c.if-begun-lt24.false)
