-- Channels and sums are laid, then the two counts. Assumes nothing.
use mathlib.Core.Path.{◌≡◌, sym, ◌∙◌}
use borrow.Author.Rules.{rules}
use Rattle.month.specs.State.{page_in}
use Rattle.host_month.proofs.WordLaws.{words_are}
use Rattle.host_month.proofs.words_of.Goals as goal

pub returns : goal.returns
returns c = words_are (page_in c.args.page) _ _ c.fronted.ensures c.laid-words.ensures
