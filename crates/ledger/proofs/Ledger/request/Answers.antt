-- The verdict has the call's number. Assumes nothing.
use mathlib.Core.Path.{◌∙◌}
use Rattle.ledger.proofs.Seam.{request_sound, request_done_call, request_refused_call}
use Rattle.ledger.proofs.Ledger.request.Goals as goal

pub invariant_of-granted : goal.invariant_of-granted
invariant_of-granted c = record { rules = request_sound c.args.self _ c.in-Ok.ensures }

pub returns-in-Ok : goal.returns-in-Ok
returns-in-Ok c =
    let p = request_done_call c.args.self _ c.in-Ok.ensures in
    (c.granted.ensures.0 ∙ p.0, c.granted.ensures.1 ∙ p.1)

pub returns-in-Err : goal.returns-in-Err
returns-in-Err c = rw c.refused.ensures (request_refused_call c.args.self _ _ c.in-Err.ensures)
