-- What the promise that the checker makes of `walk`'s `ensures` comes to: with room for its
-- records, document 01's walk; without, 8 and nothing written; and demand 3 of the ledger that it
-- hands back. Assumes nothing.
use Prim.Native.Nat.{◌*◌, ◌≤◌, ◌<◌}
use mathlib.Core.Path.{ap, ◌∙◌}
use borrow.Fn.Kinds.{Dens, ended_of, res_t}
use contract.Lifetimes.{Lfts}
use denote.Triple.Clauses.{AtExit}
use lib.ListN.{length}
use Rattle.ledger.specs.State.{book_of, ledger_of}
use Rattle.ledger_spec.specs.Trace.{trace}
use Rattle.ledger_spec.specs.Demand3.{Demand3}
use Rattle.walk_spec.specs.Walk.{calls_of}
use Rattle.walk_spec.specs.Literal.{Walk, literal_walk}
use Rattle.walk_spec.proofs.LiteralLaws.{literal_walk_lem}
use Rattle.walk.specs.Promises.{Listed, Untouched, with_room, without_room}
use Rattle.walk_spec.proofs.Demand3.{ledger_demand_3}
use Rattle.walk.proofs.walk.Reads as walk
use Rattle.walk.proofs.walk.Kinds as walk-kinds

module _ (κs : Lfts 2) (a : Dens κs walk-kinds.ps) (x : (res_t walk-kinds.r κs).Denot) (s : AtExit (ended_of 2 walk-kinds.ps walk-kinds.r) κs) (p : walk.Post κs a x s) where
  pub walk_lists : 64 * length (literal_walk a.0.now).records ≤ length a.1.0.now → Listed (literal_walk a.0.now) a.1.0.now s.1.0.now x
  walk_lists h = with_room _ _ _ x p.0 p.1.0 p.1.1 h

  pub walk_refuses : length a.1.0.now < 64 * length (literal_walk a.0.now).records → Untouched a.1.0.now s.1.0.now x
  walk_refuses h = without_room _ _ _ x p.0 p.1.0 p.1.1 h

  pub walk_ledger_demand_3 : 64 * length (literal_walk a.0.now).records ≤ length a.1.0.now → Demand3 (trace 100 (calls_of a.0.now)) 100 (book_of x.ledger)
  walk_ledger_demand_3 h = ledger_demand_3 _ x.ledger ((walk_lists h).ledger ∙ ap (λ (w : Walk). ledger_of w.ledger) (literal_walk_lem a.0.now))
