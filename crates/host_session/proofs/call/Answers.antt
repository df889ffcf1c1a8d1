-- Refused, nothing is written; else the next session's words and what is to be sent. Assumes
-- nothing.
use mathlib.Core.Path.{refl, sym, ap, ◌∙◌}
use Rattle.terms.specs.Refusals.{refusal_pos}
use Rattle.session.specs.Papers.{answer_of}
use Rattle.host_session.proofs.Kept.{call_refused, call_done}
use Rattle.host_session.proofs.call.Goals as goal

pub returns-in-Ok : goal.returns-in-Ok
returns-in-Ok c =
    let t = c.turn-turn.ensures in
    rw c.outcome_words.ensures (call_done _ _ _ c.session_in.ensures (sym (ap answer_of c.in-Ok.is) ∙ t.0) t.1 _ _ _ _ _ c.words_of.ensures refl refl refl refl)

pub returns-in-Err : goal.returns-in-Err
returns-in-Err c =
    let t = c.turn-turn.ensures in
    call_refused _ _ _ c.session_in.ensures (sym (ap answer_of c.in-Err.is) ∙ t.0) t.1 _ _ c.from.ensures (λ z. refusal_pos c.in-Err.why (sym c.from.ensures ∙ z))
