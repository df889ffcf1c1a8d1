-- `letters_at`: eight bytes, of which the first three are 0. Assumes nothing.
use Rattle.std.proofs.Common.{◌∙◌}
use Rattle.octets.specs.Std.{be_five}
use Rattle.octets.proofs.letters_at.Goals as goal

pub returns-in-Some : goal.returns-in-Some
returns-in-Some c = c.from_be_bytes.ensures ∙ be_five _ ∙ c.in-Some.ensures
