-- `rk_listing`: 13, else what laying the listing answers and leaves. Assumes nothing.
use mathlib.Core.Path.{refl, sym, ap, ◌∙◌}
use Rattle.terms.specs.Paper.{Paper, one_number}
use Rattle.terms.specs.Refusals.{refusal_pos}
use Rattle.ledger_spec.specs.Words.{value_at}
use Rattle.ledger_spec.specs.Calls.{Ask, Missing, answer_to}
use Rattle.ledger.specs.declared.Ledger.{Ledger}
use Rattle.ledger.specs.State.{book_of}
use Rattle.ledger.specs.Papers.{count_paper}
use Rattle.host_words.specs.Told.{tells_as}
use Rattle.host_captures.specs.Captures.{last_line_holds, listing_refused, listing_laid}
use Rattle.host_captures.proofs.rk_listing.Goals as goal

pub returns-in-Ok : goal.returns-in-Ok
returns-in-Ok c =
    let l = c.ledger_in-ledger.ensures in
    let p = sym (ap count_paper c.in-Ok.is) ∙ c.missing.ensures.0 ∙ ap (λ (x : Ledger). answer_to (book_of x) (Ask Missing)) l in
    let s = last_line_holds _ _ _ _ _ _ (ap (λ (x : Ledger). x.floor) l) (ap (λ (x : Ledger). x.top) l) (ap (λ (x : Paper). value_at x 0) p) in
    let q = c.put_listing.ensures in
    let laid = listing_laid _ _ _ _ _ 0 (one_number p) _ _ _ refl s q.0 q.1 in
    (tells_as laid.0 c.told_bytes.ensures, laid.1)

pub returns-in-Err : goal.returns-in-Err
returns-in-Err c =
    let l = c.ledger_in-ledger.ensures in
    let p = sym (ap count_paper c.in-Err.is) ∙ c.missing.ensures.0 ∙ ap (λ (x : Ledger). answer_to (book_of x) (Ask Missing)) l in
    listing_refused _ _ _ _ _ _ (c.from.ensures ∙ one_number p) _ (λ z. refusal_pos c.in-Err.why (sym c.from.ensures ∙ z))
