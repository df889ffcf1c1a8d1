-- `tail_at`: by the mark at hand. Assumes nothing.
use Prim.Native.Nat.{ℕ, ◌+◌}
use native.Mathlib.Nat.{add_assoc}
use native.Mathlib.Omega.{arith}
use mathlib.Core.Path.{◌≡◌, sym, ap, ◌∙◌}
use lib.ListN.{drop}
use Rattle.market_spec.specs.File.{fine, tail_fault, marks}
use Rattle.market_spec.specs.Files.{marks_open, marks_done, tail_cut, tail_wrong, tail_on}
use Rattle.market.proofs.tail_at.Goals as goal

pub returns-then-s-p : goal.returns-then-s-p
returns-then-s-p c = let i = c.loop-i.i in sym (marks_open i (c.args.at + i) c.args.s.now c.loop-i-test.true ∙ tail_cut _ _ _ _ c.if-s-p.true) ∙ c.loop-i.invariant.1

pub returns-then-not-mark_ok : goal.returns-then-not-mark_ok
returns-then-not-mark_ok c = let i = c.loop-i.i in sym (marks_open i (c.args.at + i) c.args.s.now c.loop-i-test.true ∙ tail_wrong _ _ _ _ c.if-s-p.false (sym c.if-not-mark_ok.ensures)) ∙ c.loop-i.invariant.1

pub loop-i-preserved : goal.loop-i-preserved
loop-i-preserved c =
    let i = c.loop-i.i in
    let a = c.args in (
      omega (arith, c.if-s-p.false),
      ap (λ (p : ℕ). tail_fault (drop (i + 1) marks) p a.s.now) (sym (add_assoc a.at i 1)) ∙ sym (marks_open i (a.at + i) a.s.now c.loop-i-test.true ∙ tail_on _ _ _ _ c.if-s-p.false (sym c.if-not-mark_ok.ensures)) ∙ c.loop-i.invariant.1,
    )

pub returns : goal.returns
returns c = let e : 5 ≡ c.loop-i.i = omega (arith, c.loop-i-test.false, c.loop-i.auto.i-end) in ap (λ (n : ℕ). fine (c.args.at + n)) e ∙ sym (marks_done _ _ _ c.loop-i-test.false) ∙ c.loop-i.invariant.1
