-- The verdict has the call's number. Assumes nothing.
use mathlib.Core.Path.{refl, ◌∙◌}
use Rattle.ledger.proofs.Seam.{reply_reach, reply_done_call, reply_refused_call}
use Rattle.ledger.proofs.Ledger.reply.Goals as goal

pub invariant_of-replied : goal.invariant_of-replied
invariant_of-replied c = record { rules = (reply_reach c.args.self _ _ _ _ refl c.in-Ok.ensures).0 }

pub replied-requires : goal.replied-requires
replied-requires c = let r = reply_reach c.args.self _ _ _ _ c.reach.ensures c.in-Ok.ensures in (r.1, r.2)

pub returns-in-Ok : goal.returns-in-Ok
returns-in-Ok c =
    let p = reply_done_call c.args.self _ _ _ _ c.reach.ensures c.in-Ok.ensures in
    (c.replied.ensures.0 ∙ p.0, c.replied.ensures.1 ∙ p.1, c.replied.ensures.2)

pub returns-in-Err : goal.returns-in-Err
returns-in-Err c =
    let p = reply_refused_call c.args.self _ _ _ _ c.in-Err.ensures in
    rw c.refused.ensures (p.0, p.1, refl)
