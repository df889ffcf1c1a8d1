-- A fresh ledger takes the free place. Assumes nothing.
use mathlib.Core.Path.{◌≡◌, sym, ap, ◌∙◌}
use mathlib.Core.Bool.{false}
use borrow.Author.Tests.{le-ltb, lt-leb}
use Rattle.terms.specs.declared.ChannelNumber.{ChannelNumber}
use Rattle.ledger_spec.specs.Calls.{open_of}
use Rattle.ledger.specs.State.{ledger_of}
use Rattle.channels.specs.declared.Answered.{Answered}
use Rattle.channels.specs.Index.{open_at}
use Rattle.channels.specs.Answered.{row_in, opened_of}
use Rattle.channels.proofs.Seam.{opens_fresh}
use Rattle.channels.proofs.Row.opened.Goals as goal

pub returns : goal.returns
unfolding opened_of
returns c =
    let a = c.args in
    let e : open_at a.index.used a.turn.at ≡ false = sym c.open_at.ensures ∙ c.if-open_at.false in
    let small = c.if-channel-gt9999.false in
    let fresh = c.opened.ensures.1 ∙ ap (λ (x : ChannelNumber). ledger_of (open_of x.0)) c.new.ensures ∙ ap ledger_of (opens_fresh a.channel small) in
    let made = c.of.ensures ∙ ap row_in fresh in
    ◌∙◌ {A = Answered} (λ i. record { index = c.opened_at.ensures i; name = a.channel; row = made i; told = c.done.ensures i })
    (sym (rw (e, le-ltb _ _ small, lt-leb _ _ c.if-turn-ge32.false)))
