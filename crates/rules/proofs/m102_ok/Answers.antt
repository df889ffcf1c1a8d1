-- `m102_ok`: each test that is not passed is a part of the definition that is false; behind them
-- all the entries alone decide. The products stay small. Assumes nothing.
use native.Mathlib.Omega.{arith}
use Prim.Native.Nat.{ℕ, ◌+◌, ◌*◌, ◌≤◌}
use mathlib.Core.Path.{◌≡◌, refl, sym, ap, ◌∙◌}
use mathlib.Core.Bool.{true}
use mathlib.Core.Logic.{inr}
use lib.Dec.{eqb}
use lib.ListN.{length}
use borrow.Author.Tests.{ne_eqb, eq-eqb}
use Rattle.octets.specs.Octets.{be}
use Rattle.rules.specs.Sizes.{size_small, size_wide, entries_small, wide_other, m102_length, m102_short, same_whole, m102_fields, m102_entries}
use Rattle.rules.specs.Fields.{m102_ok, entry_size, entries_ok}
use Rattle.rules.proofs.m102_ok.Goals as goal
use Rattle.rules.proofs.m102_ok.Goals.{After-entry_size-w, Else-not-m102_fixed_ok, Else-w-eq10}

small : (c : goal.After-entry_size-w) → c.at-n.result * c.entry_size-w.result ≤ 65535 * 19
small c = entries_small c.at-n.result c.entry_size-w.result (omega arith) (omega (arith, size_small c.letters_at-stream.result, c.entry_size-w.ensures))

-- behind all tests
passed : (c : goal.Else-not-m102_fixed_ok) → eqb (length c.args.b.now) (73 + be 2 71 c.args.b.now * entry_size (be 5 10 c.args.b.now)) ≡ true
passed c = eq-eqb _ _ (c.if-b-n.false ∙ same_whole _ _ _ _ c.at-n.ensures (c.entry_size-w.ensures ∙ ap entry_size c.letters_at-stream.ensures))

-- where an entry has w bytes they fill the body
filled : (c : goal.Else-not-m102_fixed_ok) (w : ℕ) → c.entry_size-w.result ≡ w → length c.args.b.now ≡ 73 + c.at-n.result * w
filled c w e = c.if-b-n.false ∙ ap (λ (x : ℕ). 73 + c.at-n.result * x) e

-- and they alone decide
decides : (c : goal.Else-not-m102_fixed_ok) (w : ℕ) → c.entry_size-w.result ≡ w → entries_ok c.at-n.result w c.args.b.now ≡ m102_ok c.args.b.now
decides c w e =
    m102_entries _ _ w (sym c.m102_fixed_ok.ensures ∙ c.if-not-m102_fixed_ok.false) (passed c) c.at-n.ensures (sym e ∙ c.entry_size-w.ensures ∙ ap entry_size c.letters_at-stream.ensures)

nineteen : (c : goal.Else-w-eq10) → c.entry_size-w.result ≡ 19
nineteen c = wide_other _ (rw c.entry_size-w.ensures (size_wide _)) c.if-w-eq10.false

pub returns-then-b-lt73 : goal.returns-then-b-lt73
returns-then-b-lt73 c = m102_short _ c.if-b-lt73.true

pub overflow_mul-n : goal.overflow_mul-n
overflow_mul-n c = omega (arith, small c)

pub overflow_add-n : goal.overflow_add-n
overflow_add-n c = omega (arith, small c)

pub returns-then-b-n : goal.returns-then-b-n
returns-then-b-n c = m102_length _ (ne_eqb _ _ (λ e. c.if-b-n.true (e ∙ sym (same_whole _ _ _ _ c.at-n.ensures (c.entry_size-w.ensures ∙ ap entry_size c.letters_at-stream.ensures)))))

pub returns-then-not-m102_fixed_ok : goal.returns-then-not-m102_fixed_ok
returns-then-not-m102_fixed_ok c = m102_fields _ (sym c.m102_fixed_ok.ensures ∙ c.if-not-m102_fixed_ok.true)

pub returns-then-w-eq10 : goal.returns-then-w-eq10
returns-then-w-eq10 c = c.entries_ok.ensures ∙ decides (goal.at.returns-then-w-eq10 c).Else-not-m102_fixed_ok 10 c.if-w-eq10.true

pub entries_ok-requires-else-w-eq10 : goal.entries_ok-requires-else-w-eq10
entries_ok-requires-else-w-eq10 c = (inr refl, filled (goal.at.entries_ok-requires-else-w-eq10 c).Else-not-m102_fixed_ok 19 (nineteen c))

pub returns-else-w-eq10 : goal.returns-else-w-eq10
returns-else-w-eq10 c = c.entries_ok-else-w-eq10.ensures ∙ decides (goal.at.returns-else-w-eq10 c).Else-not-m102_fixed_ok 19 (nineteen (goal.at.returns-else-w-eq10 c).Else-w-eq10)
