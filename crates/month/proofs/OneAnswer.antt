-- For each public function: two answers that its promise allows are equal. Neither is lent a
-- buffer; that a refusal gives back the very page is `added_refused_stays`. Assumes nothing.
use Prim.Native.Nat.{ℕ}
use mathlib.Core.Path.{◌≡◌, refl, sym, ap, ap₂, ◌∙◌}
use mathlib.Core.List.{List}
use Rattle.std.specs.Prelude.{Result, Ok, Err, ⊤}
use Rattle.terms.specs.Paper.{one_number}
use Rattle.terms.specs.Refusals.{refusal_not_0, told}
use Rattle.terms.specs.declared.Refusal.{Refusal}
use Rattle.terms.proofs.Refusals.{refusal_back}
use Rattle.terms.proofs.Verdicts.{verdict_one}
use Rattle.terms.specs.OneAnswer.{OneAnswer}
use Rattle.month_spec.specs.Calls.{answer_to, next_of}
use Rattle.month_spec.proofs.Given.{page_stays}
use Rattle.month.specs.declared.Month.{Month}
use Rattle.month.specs.declared.Added.{Added}
use Rattle.month.specs.State.{page_in, month_of, figures_paper, added_paper}
use Rattle.month.proofs.Month.started.Reads as started
use Rattle.month.proofs.Month.started.Kinds as started-kinds
use Rattle.month.proofs.Month.added.Reads as added
use Rattle.month.proofs.Month.added.Kinds as added-kinds

-- an answer told from its paper
figures_told : (c : Result (List ℕ) Refusal) → told Ok Err (figures_paper c) ≡ c
unfolding told
figures_told (Ok figures) = refl
figures_told (Err why) = rw (refusal_not_0 why, refusal_back why)

figures_one : (a b : Result (List ℕ) Refusal) → figures_paper a ≡ figures_paper b → a ≡ b
figures_one a b e = sym (figures_told a) ∙ ap (told Ok Err) e ∙ figures_told b

pub Month-started-one-answer : OneAnswer _ started-kinds.ps started-kinds.r started.Post
Month-started-one-answer κs a x y s t p q = ap₂ (λ (r : Result ⊤ Refusal) (m : Month). record { answer = r; page = m }) (verdict_one x.answer y.answer (p.0 ∙ sym q.0)) (p.1 ∙ sym q.1)

pub added_one : (x y : Added) → added_paper x ≡ added_paper y → x.page ≡ y.page → x ≡ y
added_one x y e f = ap₂ (λ (r : Result (List ℕ) Refusal) (m : Month). record { answer = r; page = m }) (figures_one x.answer y.answer e) f

pub Month-added-one-answer : OneAnswer _ added-kinds.ps added-kinds.r added.Post
Month-added-one-answer κs a x y s t p q = added_one x y (p.0 ∙ sym q.0) (p.1 ∙ sym q.1)

-- a refusal gives back the very page
pub added_refused_stays : (m : Month) (s : List ℕ) (x : Added) → added_paper x ≡ answer_to (page_in m) s → x.page ≡ month_of (next_of (page_in m) s) → ((added_paper x).number ≡ 0 → ⊥) → x.page ≡ m
unfolding answer_to
added_refused_stays m s x p q ne = q ∙ ap month_of (page_stays (page_in m) s (λ z. ne (one_number p ∙ z)))
