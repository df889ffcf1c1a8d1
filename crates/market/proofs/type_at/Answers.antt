-- `type_at`: word by word. Assumes nothing.
use mathlib.Core.Path.{◌≡◌, sym, ◌∙◌}
use mathlib.Core.Bool.{true, false, ◌||◌}
use lib.Dec.{eqb}
use Rattle.market_spec.specs.File.{begins_at, word_of}
use Rattle.market_spec.specs.Types.{type_1, type_2, type_3, type_4, type_5, type_other}
use Rattle.market.proofs.Tests.{whole, not_whole, ends_test}
use Rattle.market.proofs.type_at.Goals as goal
use Rattle.market.proofs.type_at.Goals.{After-starts_with-10}

pub returns-then-starts_with : goal.returns-then-starts_with
returns-then-starts_with c = sym (type_1 _ _ (whole _ _ _ _ c.starts_with.ensures.value c.if-starts_with.true))

pub returns-then-starts_with-2 : goal.returns-then-starts_with-2
returns-then-starts_with-2 c = sym (type_2 _ _ (not_whole _ _ _ _ c.starts_with.ensures.value c.if-starts_with.false) (whole _ _ _ _ c.starts_with-2.ensures.value c.if-starts_with-2.true))

pub returns-then-starts_with-3 : goal.returns-then-starts_with-3
returns-then-starts_with-3 c = sym (type_3 _ _ (not_whole _ _ _ _ c.starts_with.ensures.value c.if-starts_with.false) (not_whole _ _ _ _ c.starts_with-2.ensures.value c.if-starts_with-2.false) (whole _ _ _ _ c.starts_with-3.ensures.value c.if-starts_with-3.true))

pub returns-then-starts_with-4 : goal.returns-then-starts_with-4
returns-then-starts_with-4 c = sym (type_4 _ _ (not_whole _ _ _ _ c.starts_with.ensures.value c.if-starts_with.false) (not_whole _ _ _ _ c.starts_with-2.ensures.value c.if-starts_with-2.false) (not_whole _ _ _ _ c.starts_with-3.ensures.value c.if-starts_with-3.false) (whole _ _ _ _ c.starts_with-4.ensures.value c.if-starts_with-4.true))

pub returns-then-starts_with-5 : goal.returns-then-starts_with-5
returns-then-starts_with-5 c = sym (type_5 _ _ (not_whole _ _ _ _ c.starts_with.ensures.value c.if-starts_with.false) (not_whole _ _ _ _ c.starts_with-2.ensures.value c.if-starts_with-2.false) (not_whole _ _ _ _ c.starts_with-3.ensures.value c.if-starts_with-3.false) (not_whole _ _ _ _ c.starts_with-4.ensures.value c.if-starts_with-4.false) (whole _ _ _ _ c.starts_with-5.ensures.value c.if-starts_with-5.true))

-- the five tests for a word cut short
cut : (c : goal.After-starts_with-10) → let a = c.args in ((((eqb (begins_at (word_of 0 5) a.at a.s.now) 2 || eqb (begins_at (word_of 5 5) a.at a.s.now) 2) || eqb (begins_at (word_of 10 5) a.at a.s.now) 2) || eqb (begins_at (word_of 15 5) a.at a.s.now) 2) || eqb (begins_at (word_of 20 7) a.at a.s.now) 2) ≡ ((((c.starts_with-6.result || c.starts_with-7.result) || c.starts_with-8.result) || c.starts_with-9.result) || c.starts_with-10.result)
cut c = cc (c.starts_with-6.ensures.value ∙ ends_test (word_of 0 5) c.args.at c.args.s.now (not_whole _ _ _ _ c.starts_with.ensures.value c.if-starts_with.false), c.starts_with-7.ensures.value ∙ ends_test (word_of 5 5) c.args.at c.args.s.now (not_whole _ _ _ _ c.starts_with-2.ensures.value c.if-starts_with-2.false), c.starts_with-8.ensures.value ∙ ends_test (word_of 10 5) c.args.at c.args.s.now (not_whole _ _ _ _ c.starts_with-3.ensures.value c.if-starts_with-3.false), c.starts_with-9.ensures.value ∙ ends_test (word_of 15 5) c.args.at c.args.s.now (not_whole _ _ _ _ c.starts_with-4.ensures.value c.if-starts_with-4.false), c.starts_with-10.ensures.value ∙ ends_test (word_of 20 7) c.args.at c.args.s.now (not_whole _ _ _ _ c.starts_with-5.ensures.value c.if-starts_with-5.false))

pub returns-then-starts_with-6 : goal.returns-then-starts_with-6
returns-then-starts_with-6 c = sym (type_other _ _ (not_whole _ _ _ _ c.starts_with.ensures.value c.if-starts_with.false) (not_whole _ _ _ _ c.starts_with-2.ensures.value c.if-starts_with-2.false) (not_whole _ _ _ _ c.starts_with-3.ensures.value c.if-starts_with-3.false) (not_whole _ _ _ _ c.starts_with-4.ensures.value c.if-starts_with-4.false) (not_whole _ _ _ _ c.starts_with-5.ensures.value c.if-starts_with-5.false) true (cut (goal.at.returns-then-starts_with-6 c).After-starts_with-10 ∙ c.if-starts_with-6.true))

pub returns : goal.returns
returns c = sym (type_other _ _ (not_whole _ _ _ _ c.starts_with.ensures.value c.if-starts_with.false) (not_whole _ _ _ _ c.starts_with-2.ensures.value c.if-starts_with-2.false) (not_whole _ _ _ _ c.starts_with-3.ensures.value c.if-starts_with-3.false) (not_whole _ _ _ _ c.starts_with-4.ensures.value c.if-starts_with-4.false) (not_whole _ _ _ _ c.starts_with-5.ensures.value c.if-starts_with-5.false) false (cut (goal.at.returns c).After-starts_with-10 ∙ c.if-starts_with-6.false))
