-- `step_from`: each return by its outcome. Assumes nothing.
use Prim.Native.Nat.{ℕ, ◌+◌, ◌≤◌}
use native.Mathlib.Omega.{arith}
use mathlib.Core.Bool.{true}
use lib.ListN.{length}
use Rattle.rules.specs.Fields.{entry_size}
use Rattle.entries.specs.Reader.{size_in, stands}
use Rattle.entries.specs.Places.{stands_whole}
use Rattle.entries.specs.Outcomes.{step_done, step_20, after_done}
use mathlib.Core.Path.{◌≡◌, sym, ap, ◌∙◌}
use Rattle.entries.proofs.step_from.Goals as goal
use Rattle.entries.proofs.step_from.Goals.{Else-not-is_entry}

-- where an entry stands: that it does, its size, and that it does not pass the end
there : (c : goal.Else-not-is_entry) → stands c.args.body.now c.args.place ≡ true
there c = sym c.is_entry.ensures ∙ c.if-not-is_entry.false

size : (c : goal.Else-not-is_entry) → c.entry_size-w.result ≡ size_in c.args.body.now
size c = c.entry_size-w.ensures ∙ ap entry_size c.letters_at.ensures

whole : (c : goal.Else-not-is_entry) → c.args.place + c.entry_size-w.result ≤ length c.args.body.now
whole c = rw (size c) (stands_whole _ _ (there c))

pub returns-then-not-is_entry : goal.returns-then-not-is_entry
returns-then-not-is_entry c = let f = sym c.is_entry.ensures ∙ c.if-not-is_entry.true in record { answered = sym (step_20 _ _ f); behind = tt }

pub entry_at-requires : goal.entry_at-requires
entry_at-requires c = (size (goal.at.entry_at-requires c).Else-not-is_entry, whole (goal.at.entry_at-requires c).Else-not-is_entry)

pub overflow_add-result : goal.overflow_add-result
overflow_add-result c = omega (arith, whole (goal.at.overflow_add-result c).Else-not-is_entry)

pub returns : goal.returns
returns c = record { answered = c.entry_at.ensures ∙ sym (step_done _ _ (there (goal.at.returns c).Else-not-is_entry)); behind = ap (λ (w : ℕ). c.args.place + w) (size (goal.at.returns c).Else-not-is_entry) ∙ sym (after_done _ _ (there (goal.at.returns c).Else-not-is_entry)) }
