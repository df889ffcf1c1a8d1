-- `u64::at`: where all bytes are there, the number that std reads in them. Assumes nothing.
use Rattle.std.proofs.Common.{◌∙◌}
use Rattle.octets.specs.Std.{bytes_read}
use Rattle.octets.proofs.U64Number.at.Goals as goal

pub returns-in-Some : goal.returns-in-Some
returns-in-Some c = c.from_be_bytes.ensures ∙ bytes_read 7 _ ∙ c.in-Some.ensures
