-- A call in the lent store, told and kept: beside a refusal the store is what it was, so words and
-- bytes belong together. Assumes nothing.
use Prim.Native.Nat.{ℕ}
use mathlib.Core.Path.{◌≡◌, refl, ap, ◌∙◌}
use mathlib.Core.List.{List}
use lib.Dec.{eqb}
use Rattle.std.specs.Prelude.{Result, Ok, Err}
use Rattle.terms.specs.Paper.{pick}
use Rattle.terms.specs.Refusals.{number_of}
use Rattle.terms.specs.declared.Refusal.{Refusal}
use Rattle.terms.specs.Verdicts.{verdict_number}
use Rattle.ledger.specs.Papers.{count_paper}
use Rattle.stream_spec.specs.declared.Stream.{Stream}
use Rattle.stream_spec.specs.Calls.{Call, cut_of, closes}
use Rattle.stream_spec.specs.CallLaws.{Promised}
use Rattle.stream_spec.specs.Answers.{refused_stream}
use Rattle.stream.specs.declared.Standing.{Standing}
use Rattle.stream.specs.declared.Answered.{Answered}
use Rattle.stream.specs.Standing.{whole, fed_of}
use Rattle.stream_clean_spec.specs.declared.Sums.{Sums}
use Rattle.stream_clean_spec.specs.Calls.{summed_paper}
use Rattle.stream_clean_spec.specs.CallLaws as Clean
use Rattle.stream_clean_spec.specs.Answers as Clean-answers
use Rattle.host_words.specs.Told.{Tells, tells_done, tells_why}
use Rattle.host_stream_spec.specs.Lent.{lent, lent_of, stream_in}
use Rattle.host_stream_spec.specs.Calls.{Called, told_with, fed_numbers, AnsweredBy, row_by, kept_beside, settled}
use Rattle.host_stream_spec.specs.Washes.{WashCalled, wash_with, wash_numbers, wash_settled}

-- what a call that gives records tells, and one that cleans
fed_tells : (a : Result ℕ Refusal) (next : Stream) {was row : List ℕ} {n : ℕ} → AnsweredBy (row_by (fed_numbers next) a) was n row → Tells (told_with (count_paper a) next) was n row
fed_tells (Ok m) next x = rw (x.0, x.1) (tells_done _ _ _ refl)
fed_tells (Err w) next x = rw x.1 (tells_why _ _ w _ x.0 refl)

wash_tells : (a : Result Sums Refusal) (next : Stream) {was row : List ℕ} {n : ℕ} → AnsweredBy (row_by (wash_numbers next) a) was n row → Tells (wash_with (summed_paper a) next) was n row
wash_tells (Ok s) next x = rw (x.0, x.1) (tells_done _ _ _ refl)
wash_tells (Err w) next x = rw x.1 (tells_why _ _ w _ x.0 refl)

row_number : {T : Type 0} (f : T → List ℕ) (a : Result T Refusal) → verdict_number (row_by f a) ≡ verdict_number a
row_number f (Ok x) = refl
row_number f (Err w) = refl

-- x before the call, y after it
store_kept : {T : Type 0} (x y : Stream) (a : Result T Refusal) → ((w : Refusal) × (a ≡ Err w) → y ≡ x) → (state ledger : List ℕ) → kept_beside (verdict_number a) y (lent state ledger y.kept) ≡ kept_beside (verdict_number a) y (lent state ledger x.kept)
unfolding kept_beside
store_kept x y (Ok v) same state ledger = refl
store_kept x y (Err w) same state ledger = ap (λ (u : Stream). pick (eqb (number_of w) 0) (lent_of y) (lent state ledger u.kept)) (same (w, refl))

module _ (state ledger kept : List ℕ) (call : Call) (d d' : List ℕ) (store : List ℕ) (st : Standing) (e : (k : List ℕ) → whole st k ≡ stream_in (lent state ledger k)) where
  pub lent_settled : (r : Answered ℕ) → Promised (whole st kept) (closes call) (cut_of call) d d' (fed_of r store) → (a : Result (List ℕ) Refusal) → ((k : List ℕ) → a ≡ row_by (fed_numbers (whole r.next k)) r.answer)
      → {was row state' ledger' : List ℕ} {n : ℕ} → AnsweredBy a was n row × ((k : List ℕ) → lent state' ledger' k ≡ kept_beside (verdict_number a) (whole r.next k) (lent state ledger k))
      → Called (lent state ledger kept) call was d n (lent state' ledger' store) row d'
  lent_settled r p a g t =
      settled (lent state ledger kept) call d d' (fed_of r store) (whole st kept) (e kept) p (
        fed_tells r.answer (whole r.next store) (rw (g store) at t.0),
        t.1 store
            ∙ ap (λ (n : ℕ). kept_beside n (whole r.next store) (lent state ledger store)) (ap verdict_number (g store) ∙ row_number _ r.answer)
            ∙ store_kept (whole st kept) (whole r.next store) r.answer (refused_stream (whole st kept) (closes call) (cut_of call) d d' (fed_of r store) p) state ledger,
      )

  pub lent_washed : (r : Answered Sums) → Clean.Promised (whole st kept) (closes call) (cut_of call) d d' (fed_of r store) → (a : Result (List ℕ) Refusal) → ((k : List ℕ) → a ≡ row_by (wash_numbers (whole r.next k)) r.answer)
      → {was row state' ledger' : List ℕ} {n : ℕ} → AnsweredBy a was n row × ((k : List ℕ) → lent state' ledger' k ≡ kept_beside (verdict_number a) (whole r.next k) (lent state ledger k))
      → WashCalled (lent state ledger kept) call was d n (lent state' ledger' store) row d'
  lent_washed r p a g t =
      wash_settled (lent state ledger kept) call d d' (fed_of r store) (whole st kept) (e kept) p (
        wash_tells r.answer (whole r.next store) (rw (g store) at t.0),
        t.1 store
            ∙ ap (λ (n : ℕ). kept_beside n (whole r.next store) (lent state ledger store)) (ap verdict_number (g store) ∙ row_number _ r.answer)
            ∙ store_kept (whole st kept) (whole r.next store) r.answer (Clean-answers.refused_stream (whole st kept) (closes call) (cut_of call) d d' (fed_of r store) p) state ledger,
      )
