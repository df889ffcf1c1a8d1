-- `decimal_at`: where no zero is needless, `digits_at` does the work. Assumes nothing.
use Rattle.std.proofs.Common.{◌∙◌, sym}
use Rattle.octets.specs.Halves.{one_byte}
use Rattle.digits.specs.Texts.{plain_there, plain_lacks, plain_tested, needless_tested}
use Rattle.digits.proofs.decimal_at.Goals as goal

pub returns-then-n-at : goal.returns-then-n-at
returns-then-n-at c = sym (plain_lacks _ _ _ (needless_tested _ _ _ (c.at.ensures ∙ one_byte _ _) c.if-n-at.true))

pub returns : goal.returns
returns c = c.digits_at.ensures ∙ sym (plain_there _ _ _ (plain_tested _ _ _ (c.at.ensures ∙ one_byte _ _) c.if-n-at.false))
