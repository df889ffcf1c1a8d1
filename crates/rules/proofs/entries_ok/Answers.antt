-- Each entry was judged alone, by the same numbers. Assumes nothing.
use Rattle.std.proofs.Common.{◌∙◌, sym, refl}
use Rattle.rules.specs.Fields.{entries_ok}
use Rattle.rules.specs.Sizes.{entries_more, entries_broken, entry_part}
use Rattle.rules.proofs.entries_ok.Goals as goal

pub loop-i-init : goal.loop-i-init
unfolding entries_ok
loop-i-init c = refl

pub returns-then-not-entry_ok : goal.returns-then-not-entry_ok
returns-then-not-entry_ok c =
    sym (entries_broken _ _ _ _ c.loop-i-test.true (sym (c.entry_ok.ensures ∙ entry_part _ _ _ _ c.requires.0 refl) ∙ c.if-not-entry_ok.true))

pub loop-i-preserved : goal.loop-i-preserved
loop-i-preserved c = rw (entries_more, c.loop-i.invariant) (sym (c.entry_ok.ensures ∙ entry_part _ _ _ _ c.requires.0 refl) ∙ c.if-not-entry_ok.false)
