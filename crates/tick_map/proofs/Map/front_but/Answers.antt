-- Where the places end: in one of the four words, or in the first one again. Assumes nothing.
use mathlib.Core.Path.{ap}
use Prim.Native.Nat.{ℕ}
use lib.Dec.{eqb}
use lib.ListN.{get_or}
use borrow.Author.Rules.{rules}
use Rattle.tick_map.proofs.Turned.{left_first, left_second, left_third, left_fourth, left_far}
use Rattle.tick_map.proofs.Map.front_but.Goals as goal

pub returns-then-end-lt64 : goal.returns-then-end-lt64
returns-then-end-lt64 c =
    let a = c.args in
    left_first (get_or a.self.words 0 0) (get_or a.self.words 1 0) (get_or a.self.words 2 0) (get_or a.self.words 3 0) a.q a.k (search rules) (search rules) (search rules) (search rules) c.requires.0 c.requires.1 c.if-end-lt64.true

pub returns-then-end-lt128 : goal.returns-then-end-lt128
returns-then-end-lt128 c =
    let s = c in
    let a = s.args in
    left_second (get_or a.self.words 0 0) (get_or a.self.words 1 0) (get_or a.self.words 2 0) (get_or a.self.words 3 0) a.q a.k (search rules) (search rules) (search rules) (search rules) s.requires.0 s.requires.1 c.if-end-lt64.false c.if-end-lt128.true

pub returns-then-end-lt192 : goal.returns-then-end-lt192
returns-then-end-lt192 c =
    let s = c in
    let a = s.args in
    left_third (get_or a.self.words 0 0) (get_or a.self.words 1 0) (get_or a.self.words 2 0) (get_or a.self.words 3 0) a.q a.k (search rules) (search rules) (search rules) (search rules) s.requires.0 s.requires.1 c.if-end-lt128.false c.if-end-lt192.true

pub returns-then-end-lt256 : goal.returns-then-end-lt256
returns-then-end-lt256 c =
    let s = c in
    let a = s.args in
    left_fourth (get_or a.self.words 0 0) (get_or a.self.words 1 0) (get_or a.self.words 2 0) (get_or a.self.words 3 0) a.q a.k (search rules) (search rules) (search rules) (search rules) s.requires.0 s.requires.1 c.if-end-lt192.false c.if-end-lt256.true

pub returns : goal.returns
returns c =
    let s = c in
    let a = s.args in
    ap (λ (x : ℕ). eqb x 0) (left_far (get_or a.self.words 0 0) (get_or a.self.words 1 0) (get_or a.self.words 2 0) (get_or a.self.words 3 0) a.q a.k (search rules) (search rules) (search rules) (search rules) s.requires.0 s.requires.1 c.if-end-lt256.false)
