-- A call's answer told from its paper, and what a refusal leaves.
use Rattle.std.specs.Prelude.{ℕ, ◌≡◌, refl, Bool, false, List, eqb, length, Result, Ok, Err}
use Rattle.std.proofs.Common.{sym, ap, ◌∙◌}
use Rattle.terms.specs.Paper.{Paper, one_number}
use Rattle.terms.specs.Refusals.{number_of, refusal_not_0, told}
use Rattle.terms.proofs.Refusals.{refusal_back}
use Rattle.terms.specs.declared.Refusal.{Refusal}
use Rattle.stream_spec.specs.declared.Stream.{Stream}
use Rattle.stream_spec.specs.declared.Fed.{Fed}
use Rattle.stream_spec.specs.Answers.{fed_same, Refuses}
use Rattle.stream_clean_spec.specs.declared.Sums.{Sums}
use Rattle.stream_clean_spec.specs.Calls.{number_for, answer_for, next_for, leaves_for, counts_in, summed_paper, washed_paper}
use Rattle.stream_clean_spec.specs.CallLaws.{Promised}

-- the answer told from its paper
summed_told : Paper → Result Sums Refusal
summed_told p = told (λ (vs : List ℕ). Ok (counts_in vs)) Err p

told_back : (r : Result Sums Refusal) → summed_told (summed_paper r) ≡ r
unfolding summed_told told
told_back (Ok s) = refl
told_back (Err w) = rw (refusal_not_0 w, refusal_back w)

-- two answers of one paper and one stream are one
pub washed_one : (x y : Fed Sums) → washed_paper x ≡ washed_paper y → x.stream ≡ y.stream → x ≡ y
washed_one x y e s = fed_same x y (sym (told_back x.answer) ∙ ap summed_told e ∙ told_back y.answer) s

module _ (x : Stream) (closing : Bool) (cut d d' : List ℕ) (r : Fed Sums) (p : Promised x closing cut d d' r) (w : Refuses r) where
  not_done : eqb (number_for x closing cut (length d)) 0 ≡ false
  unfolding answer_for
  not_done =
      let n : number_of w.0 ≡ number_for x closing cut (length d) = one_number (sym (ap summed_paper w.1) ∙ p.0) in
      ap (λ (k : ℕ). eqb k 0) (sym n) ∙ refusal_not_0 w.0

  -- a refusal leaves the buffer as it was, and gives back the very stream that was passed in
  pub refused_leaves : d' ≡ d
  unfolding leaves_for
  refused_leaves = p.1.1 ∙ rw not_done

  pub refused_stream : r.stream ≡ x
  unfolding next_for
  refused_stream = p.1.0 ∙ rw not_done
