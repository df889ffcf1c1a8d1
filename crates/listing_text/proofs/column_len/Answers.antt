-- `column_len`: no number has more than 20 digits. Assumes nothing.
use Rattle.std.proofs.Common.{arith}
use Rattle.listing_text.specs.Columns.{few_digits}
use Rattle.listing_text.proofs.column_len.Goals as goal

pub overflow_add-result : goal.overflow_add-result
overflow_add-result c = omega (arith, few_digits 20 c.args.v (omega arith) (omega arith) (omega arith), c.width.ensures)
