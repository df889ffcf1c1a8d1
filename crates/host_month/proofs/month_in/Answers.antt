-- Field by field. Assumes nothing.
use mathlib.Core.Path.{◌≡◌, sym, ◌∙◌}
use borrow.Author.Rules.{rules}
use Rattle.host_month.specs.Words.{page_words}
use Rattle.host_month.proofs.month_in.Goals as goal

pub returns : goal.returns
unfolding page_words
returns c = rw (c.channels_in-channels.ensures, c.sums_in-sums.ensures)
