-- As a call, with the frame's length. Assumes nothing.
use mathlib.Core.Path.{refl, sym, ap, ◌∙◌}
use Rattle.terms.specs.Refusals.{refusal_pos}
use Rattle.session.specs.Papers.{answer_of}
use Rattle.session.specs.Arrivals.{length_or_0}
use Rattle.std.specs.Prelude.{Option}
use Rattle.std.specs.Option.{unwrap_or}
use Prim.Native.Nat.{ℕ}
use Rattle.host_session.proofs.Kept.{arrival_refused, arrival_done}
use Rattle.host_session.proofs.rk_session_receive.Goals as goal

pub returns-in-Ok : goal.returns-in-Ok
returns-in-Ok c =
    let t = c.turn-turn.ensures in
    let told = c.told_by-arrived.ensures in
    let n = c.unwrap_or.ensures ∙ ap (λ (o : Option ℕ). unwrap_or o 0) told.1 ∙ length_or_0 c.args.bytes.now in
    rw c.outcome_words.ensures (arrival_done _ _ _ c.session_in.ensures told.0 (sym (ap answer_of c.in-Ok.is) ∙ t.0) t.1 n _ _ _ _ _ c.words_of.ensures refl refl refl refl)

pub returns-in-Err : goal.returns-in-Err
returns-in-Err c =
    let t = c.turn-turn.ensures in
    let told = c.told_by-arrived.ensures in
    let n = ap (λ (o : Option ℕ). unwrap_or o 0) told.1 ∙ length_or_0 c.args.bytes.now in
    arrival_refused _ _ _ c.session_in.ensures told.0 (sym (ap answer_of c.in-Err.is) ∙ t.0) t.1 n _ _ c.from.ensures (λ z. refusal_pos c.in-Err.why (sym c.from.ensures ∙ z))
