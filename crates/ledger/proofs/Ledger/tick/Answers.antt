-- The verdict has the call's number; only 12 is Far's. Assumes nothing.
use mathlib.Core.Path.{sym, ◌∙◌}
use denote.Enum.Bare.{same_true, same_false}
use Rattle.terms.specs.contracts.Refusal.{the_type}
use Rattle.ledger.proofs.Seam.{tick_done_call, tick_far_call, tick_refused_call}
use Rattle.ledger.proofs.Ledger.tick.Goals as goal

pub returns-in-Ok : goal.returns-in-Ok
returns-in-Ok c =
    let p = tick_done_call c.args.self _ _ c.in-Ok.ensures in
    (c.taken.ensures.0 ∙ p.0, c.taken.ensures.1 ∙ p.1)

pub returns-then-eq : goal.returns-then-eq
returns-then-eq c =
    let p = tick_far_call c.args.self _ _ _ (same_true the_type tt _ _ (sym c.eq.ensures ∙ c.if-eq.true)) c.in-Err.ensures in
    (p.0, c.raised.ensures ∙ p.1)

pub returns-else-eq : goal.returns-else-eq
returns-else-eq c = tick_refused_call c.args.self _ _ _ (same_false the_type _ _ (sym c.eq.ensures ∙ c.if-eq.false)) c.in-Err.ensures
