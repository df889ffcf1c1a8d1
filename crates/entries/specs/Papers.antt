-- Entries and the answers of a step in document 01's numbers.
use Rattle.std.specs.Prelude.{ℕ, ◌≡◌, refl, List, [], ◌∷◌, get_or, Result, Ok, Err, IfOk, Option, Some, None}
use Rattle.std.proofs.Common.{sym, ap, ◌∙◌}
use Rattle.terms.specs.Paper.{Paper, answer, refusal}
use Rattle.terms.specs.declared.Refusal.{Refusal}
use Rattle.terms.specs.declared.Refusal.TheVariants.{Entries}
use Rattle.terms.specs.Refusals.{number_of, told}
use Rattle.terms.proofs.Refusals.{told_refused}
use Rattle.entries.specs.declared.Entry.{Entry}
use Rattle.entries.specs.declared.Entry.TheVariants.{Short, Long}
use Rattle.entries.specs.declared.Found.{Found}

-- an entry's paper has type and price, and of a long one size and position
abbrev pub entry_paper : Entry → Paper
entry_paper (Short kind price) = answer 0 (kind ∷ price ∷ [])
entry_paper (Long kind price size position) = answer 0 (kind ∷ price ∷ size ∷ position ∷ [])

abbrev pub answer_paper : Result Entry Refusal → Paper
answer_paper (Ok e) = entry_paper e
answer_paper (Err w) = refusal (number_of w)

-- a step's answer, the place behind the entry left out
abbrev pub entry_of : Result Found Refusal → Result Entry Refusal
entry_of (Ok f) = Ok f.entry
entry_of (Err w) = Err w

-- what the reader gives as an iterator: an entry, or nothing in place of 20
abbrev pub answer_of : Option Entry → Result Entry Refusal
answer_of (Some e) = Ok e
answer_of None = Err Entries

-- the entry with these values: a third one makes it long
longer : ℕ → ℕ → List ℕ → Entry
longer kind price [] = Short kind price
longer kind price (size ∷ vs) = Long kind price size (get_or vs 0 0)

entry_told : List ℕ → Result Entry Refusal
entry_told [] = Ok (Short 0 0)
entry_told (kind ∷ []) = Ok (Short kind 0)
entry_told (kind ∷ (price ∷ vs)) = Ok (longer kind price vs)

answer_told : (a : Result Entry Refusal) → told entry_told Err (answer_paper a) ≡ a
unfolding told entry_told longer
answer_told (Ok (Short kind price)) = refl
answer_told (Ok (Long kind price size position)) = refl
answer_told (Err w) = told_refused entry_told Err w

-- two answers of one paper are one
pub answer_one : (x y : Result Entry Refusal) → answer_paper x ≡ answer_paper y → x ≡ y
answer_one x y e = sym (answer_told x) ∙ ap (told entry_told Err) e ∙ answer_told y

-- and so are two steps of one paper behind which is the same place
with_place : ℕ → Result Entry Refusal → Result Found Refusal
with_place n (Ok e) = Ok (record { entry = e; behind = n })
with_place n (Err w) = Err w

placed_again : (n : ℕ) (x : Result Found Refusal) → IfOk x (λ f. f.behind ≡ n) → x ≡ with_place n (entry_of x)
unfolding with_place
placed_again n (Ok f) p = ap (λ (m : ℕ). Ok (record { entry = f.entry; behind = m })) p
placed_again n (Err w) p = refl

pub step_one : (n : ℕ) (x y : Result Found Refusal) → answer_paper (entry_of x) ≡ answer_paper (entry_of y) → IfOk x (λ f. f.behind ≡ n) → IfOk y (λ f. f.behind ≡ n) → x ≡ y
step_one n x y e p q = placed_again n x p ∙ ap (with_place n) (answer_one (entry_of x) (entry_of y) e) ∙ sym (placed_again n y q)
