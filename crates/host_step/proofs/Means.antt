-- What a call on STEP frames comes to, from the promises that the checker makes of the `ensures`:
-- the number that it answers, and with it the condition of that number. Assumes nothing.
use Prim.Native.Nat.{ℕ}
use mathlib.Core.Path.{◌≡◌, sym, ◌∙◌}
use mathlib.Core.List.{List}
use mathlib.Core.Logic.{⊎_elim}
use borrow.Author.Tests.{ne_eqb}
use contract.Lifetimes.{Lfts}
use borrow.Fn.Kinds.{Dens, ended_of, res_t}
use denote.Triple.Clauses.{AtExit}
use lib.ListN.{length, drop}
use Rattle.terms.specs.Cases.{same}
use Rattle.step_spec.specs.Frame.{step_read_of}
use Rattle.step_spec.specs.Given.{Answer, numeral, Reads, Writes}
use Rattle.step_spec.proofs.GivenRead.{read_numbered, read_given}
use Rattle.step_spec.proofs.GivenWrite.{write_given}
use Rattle.step_scrub.specs.Scrubbed.{step_scrub_of}
use Rattle.host_step.proofs.rk_step_read.Reads as read
use Rattle.host_step.proofs.rk_step_read.Kinds as read-kinds
use Rattle.host_step.proofs.rk_step_write.Reads as write
use Rattle.host_step.proofs.rk_step_write.Kinds as write-kinds
use Rattle.host_step.proofs.rk_step_scrub.Reads as scrub
use Rattle.host_step.proofs.rk_step_scrub.Kinds as scrub-kinds

-- reading answers one of its nine numbers, and the condition of that number holds of the bytes
pub rk_step_read_means : (κs : Lfts 2) (a : Dens κs read-kinds.ps) (x : (res_t read-kinds.r κs).Denot) (s : AtExit (ended_of 2 read-kinds.ps read-kinds.r) κs) → read.Post κs a x s
    → (k : Answer) × ((x ≡ numeral k) × Reads k (drop a.1.0 a.0.now))
rk_step_read_means κs a x s p = let q = read_numbered (drop a.1.0 a.0.now) in (q.0, (p.answered ∙ q.1, (read_given q.0 (drop a.1.0 a.0.now)).0 q.1))

scrub_number : (s : List ℕ) → (step_scrub_of s).number ≡ (step_read_of s).number
unfolding step_scrub_of
scrub_number s = ⊎_elim (λ (z : (step_read_of s).number ≡ 0). rw z) (λ (z : (step_read_of s).number ≡ 0 → ⊥). rw (ne_eqb (step_read_of s).number 0 z)) (same (step_read_of s).number 0)

-- so does scrubbing, which refuses as reading does
pub rk_step_scrub_means : (κs : Lfts 2) (a : Dens κs scrub-kinds.ps) (x : (res_t scrub-kinds.r κs).Denot) (s : AtExit (ended_of 2 scrub-kinds.ps scrub-kinds.r) κs) → scrub.Post κs a x s
    → (k : Answer) × ((x ≡ numeral k) × Reads k a.0.now)
rk_step_scrub_means κs a x s p = let q = read_numbered a.0.now in (q.0, (p.0.answered ∙ scrub_number a.0.now ∙ q.1, (read_given q.0 a.0.now).0 q.1))

-- and writing one of its six
pub rk_step_write_means : (κs : Lfts 3) (a : Dens κs write-kinds.ps) (x : (res_t write-kinds.r κs).Denot) (s : AtExit (ended_of 3 write-kinds.ps write-kinds.r) κs) → write.Post κs a x s
    → Writes x a.0 a.1.0.now (length a.1.1.0.now)
rk_step_write_means κs a x s p = (write_given x a.0 a.1.0.now (length a.1.1.0.now)).0 (sym p.0.answered)
