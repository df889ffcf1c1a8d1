-- What became of a reading: how many bytes its frame has, or why it was refused.
use Rattle.std.specs.Prelude.{⊤, ℕ, ◌≡◌, refl, List, [], ◌∷◌, Result, Ok, Err}
use Rattle.std.specs.Result.{result_unwrap_or, result_and}
use Rattle.std.proofs.Common.{sym, ap, ◌∙◌}
use Rattle.terms.specs.Paper.{answer}
use Rattle.terms.specs.Refusals.{refusal_pos}
use Rattle.terms.specs.Verdicts.{verdict_number}
use Rattle.terms.specs.declared.Refusal.{Refusal}
use Rattle.private.specs.Into.{into_answer}
use Rattle.reading.specs.declared.Seen.{Seen}
use Rattle.reading.specs.Seen.{seen_of, seen_number}
use Rattle.reading.proofs.SeenLaws.{seen_answer, seen_size, seen_blank}
use Rattle.clean_spec.specs.Laid.{laid_reads, laid_long}

abbrev pub kept_of : Seen → Result ℕ Refusal
kept_of x = result_and x.answer (Ok x.size)

-- how many bytes, none where it was refused
abbrev pub size_of : Result ℕ Refusal → ℕ
size_of x = result_unwrap_or x 0

-- its size and its number are those seen
seen_none : (s : List ℕ) → (seen_number (seen_of s) ≡ 0 → ⊥) → (seen_of s).size ≡ 0
seen_none s ne = ap (λ (y : Seen). y.size) (seen_blank s (λ z. ne (seen_answer s ∙ z)))

size_by : (n : ℕ) (v : Result ⊤ Refusal) → ((verdict_number v ≡ 0 → ⊥) → n ≡ 0) → result_unwrap_or (result_and v (Ok n)) 0 ≡ n
size_by n (Ok u) f = refl
size_by n (Err w) f = sym (f (refusal_pos w))

number_by : (n : ℕ) (v : Result ⊤ Refusal) → verdict_number (result_and v (Ok n)) ≡ verdict_number v
number_by n (Ok u) = refl
number_by n (Err w) = refl

pub kept_number : (x : Seen) → verdict_number (kept_of x) ≡ seen_number x
kept_number x = number_by x.size x.answer

pub kept_size : (s : List ℕ) → size_of (kept_of (seen_of s)) ≡ (seen_of s).size
kept_size s = size_by _ _ (seen_none s)

-- a frame that was laid is the one that is seen
kept_done : (n m : ℕ) (v : Result ⊤ Refusal) → verdict_number v ≡ 0 → m ≡ n → ◌≡◌ {A = Result ℕ Refusal} (Ok n) (result_and v (Ok m))
kept_done n m (Ok u) z e = ap Ok (sym e)
kept_done n m (Err w) z e = absurd (refusal_pos w z)

pub laid_seen : (s : List ℕ) (n len size : ℕ) → answer 0 (size ∷ []) ≡ into_answer s n len → ◌≡◌ {A = Result ℕ Refusal} (Ok size) (kept_of (seen_of s))
laid_seen s n len size e = let z = laid_reads s n len size e in kept_done size _ _ (seen_answer s ∙ z) (seen_size s z ∙ sym (laid_long s n len size e))
