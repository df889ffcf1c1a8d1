use Rattle.std.proofs.Common.{ℕ, ◌≡◌, ◌+◌, ◌*◌, ◌<◌, ◌≤◌, ◌++◌, refl, sym, ap, ◌∙◌, inl, inr, arith, take, drop}
use Rattle.rules.specs.Fields.{entries_ok, entry_ok}
use Rattle.rules.specs.Sizes.{Wide, entries_more, entries_broken}
use Rattle.reading_parts.specs.LongLaws.{entry_inside}
use Rattle.reading_parts.proofs.entries_ok.Goals as goal
use Rattle.reading_parts.proofs.entries_ok.Goals.{After-entry_at}

pub loop-i-init : goal.loop-i-init
unfolding entries_ok
loop-i-init c = refl

-- each entry ends within the body
ends : (i n w l : ℕ) → Wide w → l ≡ 73 + n * w → i < n → 73 + i * w + w ≤ l
ends i n w l (inl x) p h = let q = rw x at p in rw x (omega arith)
ends i n w l (inr x) p h = let q = rw x at p in rw x (omega arith)

-- and was judged where it stands
judged : (c : goal.After-entry_at) → c.entry_at.result ≡ entry_ok c.args.w (73 + c.loop-i.i * c.args.w) (take c.args.len (drop 24 (c.args.first.now ++ c.args.second.now)))
judged c =
    let at : 97 + c.loop-i.i * c.args.w ≡ 24 + (73 + c.loop-i.i * c.args.w) = omega arith in
    c.entry_at.ensures
    ∙ ap (λ (p : ℕ). entry_ok c.args.w p (c.args.first.now ++ c.args.second.now)) at
    ∙ entry_inside c.args.w (73 + c.loop-i.i * c.args.w) c.args.len _ c.requires.0 (ends _ _ _ _ c.requires.0 c.requires.1.0 c.loop-i-test.true)

pub returns-then-not-entry_at : goal.returns-then-not-entry_at
returns-then-not-entry_at c = sym (entries_broken _ _ _ _ c.loop-i-test.true (sym (judged (goal.at.returns-then-not-entry_at c).After-entry_at) ∙ c.if-not-entry_at.true))

pub loop-i-preserved : goal.loop-i-preserved
loop-i-preserved c = rw (entries_more, c.loop-i.invariant) (sym (judged (goal.at.loop-i-preserved c).After-entry_at) ∙ c.if-not-entry_at.false)
