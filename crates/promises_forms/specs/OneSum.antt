-- Document 02, CR 5: "the shared sum is proved once for both forms". Whatever the promise of
-- `octets::sum` lets it answer of the bytes before a frame's checksum is, where the frame reads,
-- what that checksum says: as a number in four bytes in BINARY, as three digits in STEP.
use Rattle.std.specs.Prelude.{ℕ, ◌+◌, ◌%◌, ◌≡◌, List}
use Rattle.std.proofs.Math.Path.{sym}
use Rattle.std.proofs.Common.{◌∙◌}
use contract.Lifetimes.{Lfts}
use borrow.Fn.Kinds.{Dens, ended_of, res_t}
use denote.Triple.Clauses.{AtExit}
use Rattle.terms.specs.Paper.{Paper}
use Rattle.octets.specs.Octets.{be, sum_of, sum8}
use Rattle.octets.proofs.sum.Reads as sum
use Rattle.octets.proofs.sum.Kinds as sum-kinds
use Rattle.digits.specs.Digits.{digits_at, number}
use Rattle.frame_spec.specs.Frame.{read_of}
use Rattle.frame_spec.specs.GivenRead.{read_given_0}
use Rattle.step_spec.specs.Frame.{body_end, step_read_of}
use Rattle.step_spec.specs.Exactly.{good}
use Rattle.step_scrub.proofs.ScrubLaws.{sum_stands}

-- a call of `octets::sum` on the first n bytes of s, and its answer
module _ (κs : Lfts 1) (a : Dens κs sum-kinds.ps) (r : (res_t sum-kinds.r κs).Denot) (x : AtExit (ended_of 1 sum-kinds.ps sum-kinds.r) κs) (p : sum.Post κs a r x) (front : a.1.0 ≡ 0) where
  pub one_sum_binary : (read_of a.0.now).number ≡ 0 → a.1.1.0 ≡ 24 + be 4 20 a.0.now → be 4 (24 + be 4 20 a.0.now) a.0.now ≡ r
  unfolding sum8
  one_sum_binary h n = ((read_given_0 a.0.now).0 h).1.before.before.sum ∙ sym (rw (front, n) at p)

  pub one_sum_step : (step_read_of a.0.now).number ≡ 0 → a.1.1.0 ≡ body_end a.0.now → digits_at (body_end a.0.now + 3) 3 a.0.now ≡ number r
  one_sum_step h n = sum_stands a.0.now (good a.0.now h) ∙ rw (sym (rw (front, n) at p))
