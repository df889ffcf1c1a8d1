-- `entry_at`: in the second part, in the first, or laid together. Assumes nothing.
use Rattle.std.proofs.Common.{◌+◌, ◌-◌, ◌≤◌, length, refl, ◌∙◌, arith, length-append}
use Rattle.reading_parts.specs.LongLaws.{entry_first, entry_second, entry_across}
use Rattle.reading_parts.proofs.entry_at.Goals as goal
use Rattle.reading_parts.proofs.entry_at.Goals.{Start}

fits : (s : goal.Start) → s.args.at + s.args.w ≤ length s.args.first.now + length s.args.second.now
fits s = omega (arith, s.requires.1, length-append s.args.first.now s.args.second.now)

pub returns-then-first-at : goal.returns-then-first-at
returns-then-first-at c =
    let s = c in
    let a = s.args.at - length s.args.first.now in
    c.entry_ok.ensures ∙ entry_second _ s.args.at a (a + s.args.w) s.args.first.now s.args.second.now s.requires.0 c.if-first-at.true refl refl

pub returns-then-w-first : goal.returns-then-w-first
returns-then-w-first c = c.entry_ok-then-w-first.ensures ∙ entry_first _ _ _ _ _ c.requires.0 (omega (arith, c.if-w-first.true, c.if-first-at.false)) refl

pub returns : goal.returns
returns c = c.entry_ok-2.ensures ∙ entry_across _ _ _ _ _ c.requires.0 c.gather_from.ensures c.requires.1
