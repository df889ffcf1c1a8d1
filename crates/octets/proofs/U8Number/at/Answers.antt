-- `u8::at`: a number of one byte is the byte. Assumes nothing.
use Rattle.std.proofs.Common.{◌∙◌, sym}
use Rattle.octets.specs.Halves.{one_byte}
use Rattle.octets.proofs.U8Number.at.Goals as goal

pub returns : goal.returns
returns c = c.byte.ensures ∙ sym (one_byte _ _)
