-- `rk_ledger_missing`: the number of the call's paper, and its count beside 0. Assumes nothing.
use mathlib.Core.Path.{◌≡◌, sym, ap, ap₂, ◌∙◌}
use Rattle.terms.specs.Paper.{one_number}
use Rattle.terms.specs.declared.ChannelNumber.{ChannelNumber}
use Rattle.terms.specs.declared.TickNumber.{TickNumber}
use Rattle.ledger_spec.specs.Calls.{Call, Ask, Between, answer_to}
use Rattle.ledger.specs.declared.Ledger.{Ledger}
use Rattle.ledger.specs.State.{book_of}
use Rattle.ledger.specs.Papers.{count_paper}
use Rattle.host_words.specs.Told.{tells_done, tells_why}
use Rattle.host_words.specs.Calls.{call_told}
use Rattle.host_ledger.proofs.rk_ledger_missing.Goals as goal
use Rattle.host_ledger.proofs.rk_ledger_missing.Goals.{After-missing_between-counted}

-- the paper that the ledger promises is the call's
paper : (c : goal.After-missing_between-counted) → count_paper c.missing_between-counted.result.answer ≡ call_told c.args.state.now (Ask (Between c.args.channel c.args.a c.args.b))
paper c =
    let e = ap₂ (λ (k : ChannelNumber) (x : TickNumber). Ask (Between k.0 x.0 c.new-3.result.0)) c.new.ensures c.new-2.ensures
    ∙ ap (λ (y : TickNumber). Ask (Between c.args.channel c.args.a y.0)) c.new-3.ensures in
    c.missing_between-counted.ensures.0 ∙ ap₂ (λ (l : Ledger) (call : Call). answer_to (book_of l) call) c.ledger_in.ensures e

pub returns-in-Ok : goal.returns-in-Ok
returns-in-Ok c = tells_done _ _ _ (sym (ap count_paper c.in-Ok.is) ∙ paper (goal.at.returns-in-Ok c).After-missing_between-counted)

pub returns-in-Err : goal.returns-in-Err
returns-in-Err c = tells_why _ _ c.in-Err.why _ c.from.ensures (one_number (sym (ap count_paper c.in-Err.is) ∙ paper (goal.at.returns-in-Err c).After-missing_between-counted))
