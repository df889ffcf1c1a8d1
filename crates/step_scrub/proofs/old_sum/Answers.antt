-- `old_sum`: the digits say the sum. Assumes nothing.
use Rattle.digits.specs.Digits.{decimal_one}
use Rattle.octets.specs.Octets.{sum8}
use Rattle.octets.specs.Sums.{sum8_below}
use Rattle.std.specs.Prelude.{Some}
use lib.ListN.{take}
use mathlib.Core.Path.{◌≡◌, ◌∙◌}
use Rattle.step_scrub.proofs.old_sum.Goals as goal
use Rattle.step_scrub.proofs.old_sum.Goals.{After-digits_at}

said : (c : goal.After-digits_at) → c.digits_at.result ≡ Some (sum8 (take c.args.n c.args.buf.now))
said c = decimal_one _ _ (c.digits_at.ensures ∙ c.requires.1)

pub overflow_cast-result : goal.overflow_cast-result
overflow_cast-result c = record { fits = rw (c.unwrap_or.ensures, said (goal.at.overflow_cast-result c).After-digits_at) (sum8_below (take c.args.n c.args.buf.now)) }

pub returns : goal.returns
returns c = rw (c.unwrap_or.ensures, said (goal.at.returns c).After-digits_at)
