-- `entry_told`: each kind of entry has its numbers. Assumes nothing.
use mathlib.Core.Path.{sym, ap}
use mathlib.Core.List.{[], ◌∷◌, ◌++◌}
use Rattle.entries.specs.Papers.{entry_paper}
use Rattle.entries.specs.declared.Entry.{Entry}
use Rattle.host_frames.specs.Frames.{entry_numbers}
use Rattle.host_frames.proofs.entry_told.Goals as goal

pub returns-in-Short : goal.returns-in-Short
unfolding entry_numbers
returns-in-Short c = ap (λ (e : Entry). entry_numbers (entry_paper e).values ++ (c.args.behind ∷ [])) (sym c.in-Short.is)

pub returns-in-Long : goal.returns-in-Long
unfolding entry_numbers
returns-in-Long c = ap (λ (e : Entry). entry_numbers (entry_paper e).values ++ (c.args.behind ∷ [])) (sym c.in-Long.is)
