-- `rk_channels` meets its contract: index, row and the name beside it are stored where they stood,
-- and a refusal but 12 leaves the table as it was. Assumes nothing.
use Rattle.host_channels.proofs.Served.{stays}
use Rattle.host_channels.proofs.rk_channels.Goals as goal

pub returns-then-number : goal.returns-then-number
returns-then-number c =
    let r = c.answered-done.result in
    record { serves = stays c.args.table.now c.args.exchange.now.call c.turn_to-turn.result r c.turn_to-turn.ensures.0 c.answered-done.ensures c.if-number.true; call_kept = λ _. c.args.exchange.now.call }
