-- The words before the end are whole, the one that it is in has the places below it, and those
-- behind have none; where it comes round to the first word, that has both parts. Assumes nothing.
use Rattle.tick_map.specs.Bits.{Words}
use Rattle.tick_map.proofs.Turned.{ends_first, ends_second, ends_third, ends_fourth, ends_round}
use borrow.Author.Rules.{rules}
use Rattle.tick_map.proofs.Map.front.Goals as goal
use Rattle.tick_map.proofs.Map.front.Goals.{After-lowest-first, Start}

words : (c : goal.Start) → Words c.args.self.words
words c = record { four = search rules; low = λ i. search rules }

pub returns-then-end-lt64 : goal.returns-then-end-lt64
returns-then-end-lt64 c =
    let t = c in
    let s = (goal.at.returns-then-end-lt64 c).After-lowest-first in
    ends_first s.args.q s.args.k t.lowest-own.result t.lowest-first.result s.requires.0 s.requires.1 t.lowest-own.ensures t.lowest-first.ensures
    s.args.self.words (words (goal.at.returns-then-end-lt64 c).Start) _ c.masked.ensures c.if-end-lt64.true

pub returns-then-end-lt128 : goal.returns-then-end-lt128
returns-then-end-lt128 c =
    let t = c in
    let s = (goal.at.returns-then-end-lt128 c).After-lowest-first in
    ends_second s.args.q s.args.k t.lowest-own.result t.lowest-first.result s.requires.0 s.requires.1 t.lowest-own.ensures t.lowest-first.ensures
    s.args.self.words (words (goal.at.returns-then-end-lt128 c).Start) _ c.masked-then-end-lt128.ensures c.if-end-lt64.false c.if-end-lt128.true

pub returns-then-end-lt192 : goal.returns-then-end-lt192
returns-then-end-lt192 c =
    let t = c in
    let s = (goal.at.returns-then-end-lt192 c).After-lowest-first in
    ends_third s.args.q s.args.k t.lowest-own.result t.lowest-first.result s.requires.0 s.requires.1 t.lowest-own.ensures t.lowest-first.ensures
    s.args.self.words (words (goal.at.returns-then-end-lt192 c).Start) _ c.masked-then-end-lt192.ensures c.if-end-lt128.false c.if-end-lt192.true

pub returns-then-end-lt256 : goal.returns-then-end-lt256
returns-then-end-lt256 c =
    let t = c in
    let s = (goal.at.returns-then-end-lt256 c).After-lowest-first in
    ends_fourth s.args.q s.args.k t.lowest-own.result t.lowest-first.result s.requires.0 s.requires.1 t.lowest-own.ensures t.lowest-first.ensures
    s.args.self.words (words (goal.at.returns-then-end-lt256 c).Start) _ c.masked-then-end-lt256.ensures c.if-end-lt192.false c.if-end-lt256.true

pub returns : goal.returns
returns c =
    let t = c in
    let s = (goal.at.returns c).After-lowest-first in
    ends_round s.args.q s.args.k t.lowest-own.result t.lowest-first.result s.requires.0 s.requires.1 t.lowest-own.ensures t.lowest-first.ensures
    s.args.self.words (words (goal.at.returns c).Start) _ c.masked-2.ensures c.if-end-lt256.false
