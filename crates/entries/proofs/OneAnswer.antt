-- For each public function: two answers that its promise allows are equal. A function that takes or
-- gives a reader has no `Post` of the checker's: it promises one relation of specs/ and nothing
-- else, and the theorem is over that relation. Assumes nothing.
use Rattle.std.proofs.Common.{◌≡◌, ℕ, List, sym, ap, ◌∙◌, Result, Ok, Err, IfOk, Option, Some, None, Bor, refl}
use Rattle.terms.specs.OneAnswer.{OneAnswer}
use Rattle.terms.specs.declared.Refusal.{Refusal}
use Rattle.terms.specs.Verdicts.{verdict_number}
use Rattle.terms.specs.Refusals.{refusal_pos}
use Rattle.terms.proofs.Refusals.{refusal_one}
use Rattle.terms.proofs.Verdicts.{verdict_one}
use Rattle.entries.specs.declared.Entries.{Entries}
use Rattle.entries.specs.declared.Entry.{Entry}
use Rattle.entries.specs.Papers.{answer_of, answer_one, step_one}
use Rattle.entries.specs.Reader.{open_of, reader, Opens, Steps}
use Rattle.entries.specs.Outcomes.{stays}
use Rattle.terms.specs.Paper.{one_number}
use Rattle.entries.specs.Walks.{same_reader}
use Rattle.entries.proofs.open_at.Reads as open_at
use Rattle.entries.proofs.open_at.Kinds as open-at-kinds
use Rattle.entries.proofs.step_from.Reads as step_from
use Rattle.entries.proofs.step_from.Kinds as step-from-kinds

pub open_at_one_answer : OneAnswer _ open-at-kinds.ps open-at-kinds.r open_at.Post
open_at_one_answer κs a x y s t p q = verdict_one x y (p ∙ sym q)

-- two openings with one number are one, where each reader is the same one
opened_one : (d : Entries) (x y : Result Entries Refusal) → verdict_number x ≡ verdict_number y → IfOk x (λ e. e ≡ d) → IfOk y (λ e. e ≡ d) → x ≡ y
opened_one d (Ok x) (Ok y) e p q = ap Ok (p ∙ sym q)
opened_one d (Ok x) (Err w) e p q = absurd (refusal_pos w (sym e))
opened_one d (Err v) (Ok y) e p q = absurd (refusal_pos v e)
opened_one d (Err v) (Err w) e p q = ap Err (refusal_one v w e)

-- the reader that is given is over the caller's slice itself, so all of it is equal
pub reader_of_one_answer : (s : Bor (List ℕ)) (x y : Result Entries Refusal) → Opens s x → Opens s y → x ≡ y
reader_of_one_answer s x y p q = opened_one (reader s 73) x y (p.answered ∙ sym q.answered) p.opened q.opened

-- so it is beside 0
pub reader_of_one_reader : (s : Bor (List ℕ)) (x y : Result Entries Refusal) → Opens s x → Opens s y → open_of s.now ≡ 0 → x ≡ y
reader_of_one_reader s x y p q e = reader_of_one_answer s x y p q

-- the answer, and the reader then
pub Entries_step_one_answer : (d : Entries) (x y : Result Entry Refusal) (e f : Entries) → Steps d x e → Steps d y f → (x ≡ y) × (e ≡ f)
Entries_step_one_answer d x y e f p q = (
  answer_one x y (p.answered ∙ sym q.answered),
  same_reader e f (p.body ∙ sym q.body) (p.place ∙ sym q.place),
)

pub Entries_step_one_buffer : (d : Entries) (x y : Result Entry Refusal) (e f : Entries) → Steps d x e → Steps d y f → e ≡ f
Entries_step_one_buffer d x y e f p q = (Entries_step_one_answer d x y e f p q).1

-- a refused step leaves the reader as it was
pub Entries_step_refused_keeps : (d e : Entries) (w : Refusal) → Steps d (Err w) e → e ≡ d
Entries_step_refused_keeps d e w p =
    same_reader e d p.body (p.place ∙ stays d.body.now d.place (λ z. refusal_pos w (one_number p.answered ∙ z)))

pub step_from_one_answer : OneAnswer _ step-from-kinds.ps step-from-kinds.r step_from.Post
step_from_one_answer κs a x y s t p q = step_one _ x y (p.answered ∙ sym q.answered) p.behind q.behind

-- as an iterator
given : Result Entry Refusal → Option Entry
given (Ok e) = Some e
given (Err w) = None

given_again : (x : Option Entry) → given (answer_of x) ≡ x
unfolding given
given_again (Some e) = refl
given_again None = refl

answer_of_one : (x y : Option Entry) → answer_of x ≡ answer_of y → x ≡ y
answer_of_one x y e = sym (given_again x) ∙ ap given e ∙ given_again y

pub EntriesIterator_next_one_answer : (d : Entries) (x y : Option Entry) (e f : Entries) → Steps d (answer_of x) e → Steps d (answer_of y) f → (x ≡ y) × (e ≡ f)
EntriesIterator_next_one_answer d x y e f p q = let s = Entries_step_one_answer d (answer_of x) (answer_of y) e f p q in (answer_of_one x y s.0, s.1)

pub EntriesIterator_next_one_buffer : (d : Entries) (x y : Option Entry) (e f : Entries) → Steps d (answer_of x) e → Steps d (answer_of y) f → e ≡ f
EntriesIterator_next_one_buffer d x y e f p q = (EntriesIterator_next_one_answer d x y e f p q).1

-- where it gives none, the reader stays
pub EntriesIterator_next_refused_keeps : (d e : Entries) → Steps d (answer_of None) e → e ≡ d
EntriesIterator_next_refused_keeps d e p = Entries_step_refused_keeps d e _ p
