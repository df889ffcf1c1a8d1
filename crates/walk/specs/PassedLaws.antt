-- What one pass over a capture counted: whether its records fit, and what the walk then
-- answers and leaves.
use Rattle.std.specs.Prelude.{ℕ, ◌/◌, ◌-◌, ◌≤◌, ◌≡◌, true, List, [], ◌∷◌}
use Rattle.std.proofs.Math.Path.{ap}
use Rattle.std.proofs.Common.{◌∙◌, arith}
use Rattle.std.proofs.Math.Dec.{leb}
use Rattle.std.proofs.Math.ListN.{length}
use Rattle.terms.specs.Paper.{answer}
use Rattle.ledger.specs.State.{ledger_of}
use Rattle.walk.specs.declared.Passed.{Passed}
use Rattle.walk_spec.specs.Walk.{sights, walk_of, frames_of, refused_of, fits_in, walk_answer, walk_book, walk_leaves}
use Rattle.walk_spec.specs.Tables.{written_from}
use Rattle.walk_spec.specs.WalkLaws.{counts_all, all_written}
use Rattle.walk.specs.Passes.{passed_of}

module _ (s : List ℕ) (x : Passed) (e : x ≡ passed_of s) where
  records_is : x.records ≡ length (walk_of s).records
  unfolding passed_of
  records_is = ap (λ (y : Passed). y.records) e

  frames_is : x.frames ≡ frames_of (sights s)
  unfolding passed_of
  frames_is = ap (λ (y : Passed). y.frames) e

  ledger_is : x.ledger ≡ ledger_of (walk_of s).ledger
  unfolding passed_of
  ledger_is = ap (λ (y : Passed). y.ledger) e

  pub fits_counted : (room : ℕ) → leb x.records (room / 64) ≡ fits_in s room
  unfolding fits_in
  fits_counted room = ap (λ (n : ℕ). leb n (room / 64)) records_is

  pub frames_few : x.frames ≤ x.records
  frames_few = rw (records_is, frames_is) (omega (arith, counts_all s))

  -- with room
  pub walk_done : (d d' : List ℕ) → fits_in s (length d) ≡ true → d' ≡ written_from 0 (walk_of s).records d
      → (answer 0 (x.records ∷ x.frames ∷ (x.records - x.frames) ∷ []) ≡ walk_answer s (length d))
      × ((x.ledger ≡ ledger_of (walk_book s (length d))) × (d' ≡ walk_leaves s d))
  unfolding walk_answer walk_book walk_leaves
  walk_done d d' f w =
      let r : length (walk_of s).records - frames_of (sights s) ≡ refused_of (sights s) = omega (arith, counts_all s) in
      rw f (rw (records_is, frames_is, r), (ledger_is, w ∙ all_written s d f))
