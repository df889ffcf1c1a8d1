-- Two sets beside 0, none beside a refusal. Assumes nothing.
use mathlib.Core.Path.{sym, ap, ◌∙◌}
use mathlib.Core.List.{List}
use Prim.Native.Nat.{ℕ}
use Rattle.terms.specs.Paper.{answer}
use Rattle.terms.specs.Refusals.{number_of}
use Rattle.host_words.specs.Told.{retold}
use Rattle.host_ledger.specs.Words.{settled_row, settled_row_lem}
use Rattle.ledger.specs.Papers.{reply_paper, laid_reply}
use Rattle.channels.specs.declared.ChannelTold.{ChannelTold}
use Rattle.channels.specs.Told.{told_as}
use Rattle.channels.proofs.Seam.{refused_sets}
use Rattle.channels.proofs.ChannelTold.reply.Goals as goal

pub returns-in-Ok : goal.returns-in-Ok
returns-in-Ok c =
    let laid = sym c.in-Ok.is ∙ c.requires ∙ ap laid_reply c.in-Ok.is in
    ap (λ (row : List ℕ). record { answer = 0; values = row }) c.settled_row.ensures ∙ ap (λ (row : List ℕ). told_as (answer 0 row)) (settled_row_lem c.in-Ok.settled laid)
    ∙ sym (ap (λ a. told_as (retold settled_row (reply_paper a))) c.in-Ok.is)

pub returns-in-Err : goal.returns-in-Err
returns-in-Err c =
    c.refused.ensures ∙ ap (λ (row : List ℕ). told_by row) (sym refused_sets) ∙ sym (ap (λ a. told_as (retold settled_row (reply_paper a))) c.in-Err.is)
  where
    told_by : List ℕ → ChannelTold
    told_by row = record { answer = number_of c.in-Err.why; values = row }
