-- Request 8, sentence by sentence: how many between here and there. Of every row of calls of the
-- code on a ledger that it opened, and of whatever the promise of the question allows; then
-- through the host. `count_between so a z` counts, one by one, the numbers from a to z that are
-- so; `missing h` is told from the calls alone.
use Rattle.std.specs.Prelude.{ℕ, ◌+◌, ◌≤◌, ◌<◌, ◌≡◌, refl, ◌↔◌, List, [], ◌∷◌, get_or}
use Rattle.std.proofs.Common.{sym, ap, subst, ◌∙◌}
use Rattle.terms.specs.Paper.{Paper, answer}
use Rattle.ledger_spec.specs.State.{Book}
use Rattle.ledger_spec.specs.Calls.{Question, Ask, Missing, Between, number_to, answer_to}
use Rattle.ledger_spec.specs.Trace.{Calls, after, History}
use Rattle.ledger_spec.specs.Words.{one, missing, known_top}
use Rattle.ledger_spec.specs.Given.{FineBetween, Given10Between}
use Rattle.ledger_spec.specs.Between.{BetweenAnswers}
use Rattle.ledger_spec.proofs.Given as Given
use Rattle.ledger_spec.proofs.Between as Counts
use Rattle.ledger.specs.Trace.{Promise, Ran}
use Rattle.ledger.specs.declared.Ledger.{Ledger}
use Rattle.ledger.specs.State.{book_of, ledger_of}
use Rattle.ledger.proofs.Seam.{ledger_of_lem, next_of_lem, question_next}
use Rattle.ledger.proofs.SameMap.{ran_words}
use Rattle.ledger.proofs.Promised.{ran_is_trace}
use Rattle.ledger.proofs.RanAnswers as Ran
use Rattle.host_ledger.specs.Called.{Called, HostRan}
use Rattle.host_ledger.proofs.Promised as Hosted

module _ (channel : ℕ) (opens : channel ≤ 9999) {calls : Calls} {l : Ledger} {h : History} (ran : Ran channel calls l h) where
  -- "The answer equals the count made number by number", for all a and z of 1 to 18 digits; else
  -- 10, and 0 beside it
  pub between_counts : (a z : ℕ) (next : Ledger) (paper : Paper) → Promise l (Ask (Between channel a z)) next paper → BetweenAnswers h a z paper
  between_counts = Ran.ran_between channel opens ran

  -- "An empty span (b below a) answers 0"
  pub between_empty : (a z : ℕ) (next : Ledger) (paper : Paper) → Promise l (Ask (Between channel a z)) next paper → FineBetween a z → z < a → paper ≡ answer 0 (0 ∷ [])
  between_empty a z next paper p f l = (between_counts a z next paper p).counts_0 f ∙ ap (λ (k : ℕ). answer 0 (k ∷ [])) (Counts.between_empty (missing h) a z l)

  -- one number is counted exactly if it is missing
  pub between_one : (n : ℕ) (next : Ledger) (paper : Paper) → Promise l (Ask (Between channel n n)) next paper → FineBetween n n → paper ≡ answer 0 (one (missing h n) ∷ [])
  between_one n next paper p f = (between_counts n n next paper p).counts_0 f ∙ ap (λ (k : ℕ). answer 0 (k ∷ [])) (Counts.between_one (missing h) n)

  -- two spans that touch add up: whatever the three questions may be answered
  pub between_joins : (a m z : ℕ) (one two both : Ledger) (first second whole : Paper)
      → Promise l (Ask (Between channel a m)) one first → Promise l (Ask (Between channel (m + 1) z)) two second → Promise l (Ask (Between channel a z)) both whole
      → FineBetween a m → FineBetween (m + 1) z → FineBetween a z → a ≤ m + 1 → m ≤ z
      → get_or first.values 0 0 + get_or second.values 0 0 ≡ get_or whole.values 0 0
  between_joins a m z one two both first second whole p q r f g k low high =
      rw ((between_counts a m one first p).counts_0 f, (between_counts (m + 1) z two second q).counts_0 g, (between_counts a z both whole r).counts_0 k)
      (Counts.between_joins (missing h) a m z low high)

  -- from 1 to the known top it is what the question for all is answered
  pub between_all : (next there : Ledger) (paper all : Paper) → Promise l (Ask (Between channel 1 (known_top h))) next paper → Promise l (Ask Missing) there all
      → FineBetween 1 (known_top h) → paper ≡ all
  between_all next there paper all p q =
      let whole : FineBetween 1 (known_top h) → answer_to (after channel calls) (Ask (Between channel 1 (known_top h))) ≡ answer_to (after channel calls) (Ask Missing) =
      subst (λ (g : History). FineBetween 1 (known_top g) → answer_to (after channel calls) (Ask (Between channel 1 (known_top g))) ≡ answer_to (after channel calls) (Ask Missing))
      (sym (ran_is_trace channel opens ran).1) (Counts.between_all channel opens calls) in
      λ f. Ran.ran_paper channel opens ran (Ask (Between channel 1 (known_top h))) next paper p ∙ whole f ∙ sym (Ran.ran_paper channel opens ran (Ask Missing) there all q)

  -- a question changes nothing, whatever it is answered
  pub asks_only : (q : Question) (next : Ledger) (paper : Paper) → Promise l (Ask q) next paper → next ≡ l
  asks_only q next paper p =
      let w = ran_words channel opens ran in
      p.next_is ∙ next_of_lem l w (Ask q) ∙ ap ledger_of (question_next (book_of l) q) ∙ ledger_of_lem l w

-- "Refusals: 18, then 10 for an a or b that is 0 or too long": on every state, both ways (18 and 13
-- as of every call: `given_18`, `given_13`)
pub given_10_between : (b : Book) (channel a z : ℕ) → (number_to b (Ask (Between channel a z)) ≡ 10) ↔ Given10Between b channel a z
given_10_between = Given.given_10_between

-- THROUGH THE HOST: of what the caller sees of rk_ledger_missing
pub host_between : (channel : ℕ) → channel ≤ 9999 → {calls : Calls} {w : List ℕ} {h : History} → HostRan channel calls w h
    → (a z : ℕ) (w' : List ℕ) (p : Paper) → Called w (Ask (Between channel a z)) w' p → BetweenAnswers h a z p
host_between = Hosted.host_between
