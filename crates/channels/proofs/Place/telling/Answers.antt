-- 13, or what the ledger has to tell. Assumes nothing.
use mathlib.Core.Path.{sym, ap, ◌∙◌}
use mathlib.Core.List.{[], ◌∷◌}
use Rattle.ledger_spec.specs.State.{sound_of}
use Rattle.ledger.specs.declared.Ledger.{Ledger}
use Rattle.ledger.specs.State.{book_of}
use Rattle.ledger.specs.Papers.{count_paper}
use Rattle.channels_spec.specs.Calls.{told_of}
use Rattle.channels.specs.Told.{padded}
use Rattle.channels.specs.Answered.{kept_of, refused_of, telling_of}
use Rattle.channels.proofs.Seam.{channel_told, count_refused}
use Rattle.channels.proofs.Place.telling.Goals as goal

pub returns-in-Ok : goal.returns-in-Ok
unfolding telling_of
returns-in-Ok c =
    let s = c.args.self in
    let l = c.ledger-ledger.ensures in
    let t = channel_told c.ledger-ledger.result c.in-Ok.missing c.held.result.answer (sym (ap count_paper c.in-Ok.is) ∙ c.missing.ensures.0) c.held.ensures.0 in
    let sound = sym (ap (λ (q : Ledger). sound_of (book_of q)) l) ∙ t.0 in
    c.kept.ensures
    ∙ ap (λ v. kept_of s.row s.index s.turn (record { answer = 0; values = v }))
    ((λ i. c.value.ensures i ∷ c.value-in-Ok.ensures i ∷ c.in-Ok.missing ∷ c.unwrap_or.ensures i ∷ c.first_asked.ensures i ∷ c.last_asked.ensures i ∷ 0 ∷ 0 ∷ 0 ∷ [])
    ∙ t.1 ∙ ap (λ (q : Ledger). padded (told_of (book_of q))) l)
    ∙ sym (rw sound)

pub returns-in-Err : goal.returns-in-Err
unfolding telling_of
returns-in-Err c =
    let s = c.args.self in
    let t = count_refused (book_of c.ledger-ledger.result) c.in-Err.why (sym (ap count_paper c.in-Err.is) ∙ c.missing.ensures.0) in
    let broken = sym (ap (λ (q : Ledger). sound_of (book_of q)) c.ledger-ledger.ensures) ∙ t.0 in
    c.refused.ensures ∙ ap (refused_of s.row s.index s.turn) t.1 ∙ sym (rw broken)
