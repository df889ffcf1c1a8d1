-- The reader as an iterator: it gives nothing exactly where a step answers 20, and each entry
-- brings it nearer to the body's end. Assumes nothing.
use Rattle.std.proofs.Common.{◌≡◌, ℕ, ◌-◌, ◌<◌, true, false, List, length, sym, ◌∙◌, ⊎_elim, arith, Result, Ok, Err, refl}
use Rattle.std.specs.Prelude.{⊤}
use Rattle.std.specs.Result.{result_ok}
use Rattle.std.specs.Iterator.{MakesProgress, at_most}
use Rattle.terms.specs.Cases.{two}
use Rattle.terms.specs.Paper.{one_number}
use Rattle.terms.specs.declared.Refusal.{Refusal}
use Rattle.terms.specs.Refusals.{refusal_pos}
use Rattle.octets.specs.Octets.{be}
use Rattle.entries.specs.declared.Entries.{Entries}
use Rattle.entries.specs.declared.Entry.{Entry}
use Rattle.entries.specs.declared.Entry.TheVariants.{Short, Long}
use Rattle.entries.specs.Papers.{entry_paper, answer_paper, answer_of}
use Rattle.entries.specs.Reader.{stands, step_of, place_after, Steps}
use Rattle.entries.specs.Outcomes.{step_done, step_20, after_done, entry_number}
use Rattle.entries.specs.Places.{size_pos, stands_whole}

paper_0 : (e : Entry) → (entry_paper e).number ≡ 0
paper_0 (Short kind price) = refl
paper_0 (Long kind price size position) = refl

module _ (b : List ℕ) (p : ℕ) where
  given : (x : Result Entry Refusal) → answer_paper x ≡ step_of b p → answer_paper (answer_of (result_ok x)) ≡ step_of b p
  given (Ok e) h = h
  given (Err w) h =
      ⊎_elim (λ (t : stands b p ≡ true). absurd (refusal_pos w (one_number (h ∙ step_done b p t) ∙ entry_number b p)))
      (λ (f : stands b p ≡ false). sym (step_20 b p f))
      (two (stands b p))

  pub there : (e : Entry) → entry_paper e ≡ step_of b p → stands b p ≡ true
  there e h =
      ⊎_elim (λ (t : stands b p ≡ true). t)
      (λ (f : stands b p ≡ false). absurd (omega (arith, paper_0 e, one_number (h ∙ step_20 b p f))))
      (two (stands b p))

  nearer : (q : ℕ) → q ≡ place_after b p → stands b p ≡ true → length b - q < length b - p
  nearer q e t = omega (arith, e ∙ after_done b p t, stands_whole b p t, size_pos (be 5 10 b))

pub gives : (d e : Entries) (x : Result Entry Refusal) → Steps d x e → Steps d (answer_of (result_ok x)) e
gives d e x s = record { answered = given d.body.now d.place x s.answered; body = s.body; place = s.place }

pub goes : (d e : Entries) (x : Result Entry Refusal) → Steps d x e → MakesProgress (λ (_ : Entries). ⊤) (λ (c : Entries). at_most (length c.body.now - c.place)) d (result_ok x) e
goes d e (Ok y) s = record { on = λ _. (tt, tt, rw s.body (nearer d.body.now d.place e.place s.place (there d.body.now d.place y s.answered))); keeps = tt; rests = λ _. tt }
goes d e (Err w) s = record { on = λ _. tt; keeps = tt; rests = λ _. tt }
