-- A call's answer told from its paper, and what a refusal leaves.
use Rattle.std.specs.Prelude.{ℕ, ◌≡◌, Bool, false, List, eqb, length, Err}
use Rattle.std.proofs.Common.{sym, ap, ap₂, ◌∙◌}
use Rattle.terms.specs.Paper.{one_number}
use Rattle.terms.specs.Refusals.{number_of, refusal_not_0}
use Rattle.terms.specs.declared.Refusal.{Refusal}
use Rattle.ledger.specs.Papers.{count_paper, count_paper_one}
use Rattle.stream_spec.specs.declared.Stream.{Stream}
use Rattle.stream_spec.specs.declared.Fed.{Fed}
use Rattle.stream_spec.specs.Calls.{number_for, answer_for, next_for, leaves_for, fed_paper}
use Rattle.stream_spec.specs.CallLaws.{Promised}

-- calls that gave the same and left the same stream are one
pub fed_same : {T : Type 0} (x y : Fed T) → x.answer ≡ y.answer → x.stream ≡ y.stream → x ≡ y
fed_same x y p q = ap₂ (λ a s. record { answer = a; stream = s }) p q

-- two answers of one paper and one stream are one
pub fed_one : (x y : Fed ℕ) → fed_paper x ≡ fed_paper y → x.stream ≡ y.stream → x ≡ y
fed_one x y e s = fed_same x y (count_paper_one x.answer y.answer e) s

-- an answer that is a refusal
abbrev pub Refuses : {T : Type 0} → Fed T → Type 0
Refuses r = (w : Refusal) × (r.answer ≡ Err w)

module _ (x : Stream) (closing : Bool) (cut d d' : List ℕ) (r : Fed ℕ) (p : Promised x closing cut d d' r) (w : Refuses r) where
  not_done : eqb (number_for x closing cut (length d)) 0 ≡ false
  unfolding answer_for
  not_done =
      let n : number_of w.0 ≡ number_for x closing cut (length d) = one_number (sym (ap count_paper w.1) ∙ p.0) in
      ap (λ (k : ℕ). eqb k 0) (sym n) ∙ refusal_not_0 w.0

  -- a refusal leaves the buffer as it was, and gives back the very stream that was passed in
  pub refused_leaves : d' ≡ d
  unfolding leaves_for
  refused_leaves = p.1.1 ∙ rw not_done

  pub refused_stream : r.stream ≡ x
  unfolding next_for
  refused_stream = p.1.0 ∙ rw not_done
