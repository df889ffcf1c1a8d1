-- `entries_broken`: the first entry with a broken field tells it. Assumes nothing.
use Rattle.std.proofs.Common.{◌≡◌, refl, sym, ◌∙◌, arith}
use Rattle.rules.specs.Sizes.{entries_more}
use Rattle.rules.specs.Fields.{entries_ok}
use Rattle.broken.proofs.Entries.{entry_tells, entry_passes, entries_pass}
use Rattle.broken.proofs.First.{some_is, none_is}
use Rattle.broken.proofs.entries_broken.Goals as goal

pub loop-i-init : goal.loop-i-init
unfolding entries_ok
loop-i-init c = refl

pub returns-then-is_some : goal.returns-then-is_some
returns-then-is_some c =
    let e = c.entry_broken-told.ensures in
    e ∙ sym (entry_tells c.loop-i.i c.args.n c.args.w c.args.b.now c.loop-i-test.true c.loop-i.invariant (λ z. some_is _ (sym c.is_some.ensures ∙ c.if-is_some.true) (e ∙ z)))

pub loop-i-preserved : goal.loop-i-preserved
loop-i-preserved c =
    rw (entries_more, c.loop-i.invariant)
    (entry_passes c.loop-i.i c.args.w _ c.args.b.now refl (sym c.entry_broken-told.ensures ∙ none_is _ (sym c.is_some.ensures ∙ c.if-is_some.false)))

pub returns : goal.returns
returns c =
    let e : c.loop-i.i ≡ c.args.n = omega arith in
    sym (entries_pass c.args.n c.args.w c.args.b.now (rw e at c.loop-i.invariant))
