-- What one pass counted, and what cleaning then answers and leaves; and each answer told
-- from its paper.
use Rattle.std.specs.Prelude.{ℕ, ◌≤◌, ◌≡◌, refl, true, List, [], ◌∷◌, length, Result, Ok, Err, Option, Some, None}
use Rattle.std.proofs.Common.{sym, ◌∙◌, ⊎_elim}
use Rattle.std.proofs.Math.Path.{ap}
use Rattle.std.proofs.Math.Dec.{leb}
use Rattle.terms.specs.Cases.{two}
use Rattle.terms.specs.Paper.{Paper, answer, one_number}
use Rattle.terms.specs.Refusals.{number_of, refusal_not_0, refusal_pos, told}
use Rattle.terms.proofs.Refusals.{refusal_back}
use Rattle.terms.specs.declared.Refusal.{Refusal}
use Rattle.octets.specs.Octets.{laid}
use Rattle.ledger_spec.specs.Words.{value_at}
use Rattle.walk_spec.specs.Walk.{sights, frames_of}
use Rattle.clean.specs.declared.Cleaned.{Cleaned}
use Rattle.clean_spec.specs.Clean.{clean_of, found_of, fits_in, clean_answer, clean_leaves}
use Rattle.clean.specs.Papers.{clean_paper, places_of, check_paper}
use Rattle.clean.specs.Passes.{cleaned_of}
use Rattle.clean_spec.specs.Answers.{fits_room, left_kept, answer_done}

module _ (s : List ℕ) (x : Cleaned) (e : x ≡ cleaned_of s) where
  bytes_is : x.bytes ≡ length (clean_of s)
  unfolding cleaned_of
  bytes_is = ap (λ (y : Cleaned). y.bytes) e

  frames_is : x.frames ≡ frames_of (sights s)
  unfolding cleaned_of
  frames_is = ap (λ (y : Cleaned). y.frames) e

  found_is : x.after_damage ≡ found_of s
  unfolding cleaned_of
  found_is = ap (λ (y : Cleaned). y.after_damage) e

  pub fits_counted : (room : ℕ) → leb x.bytes room ≡ fits_in s room
  unfolding fits_in
  fits_counted room = ap (λ (n : ℕ). leb n room) bytes_is

  -- with room
  pub clean_done : (d d' : List ℕ) → fits_in s (length d) ≡ true → (length (clean_of s) ≤ length d → d' ≡ laid 0 (clean_of s) d)
      → (answer 0 (x.bytes ∷ x.frames ∷ x.after_damage ∷ []) ≡ clean_answer s (length d)) × (d' ≡ clean_leaves s d)
  unfolding clean_answer clean_leaves
  clean_done d d' f w = rw f (rw (bytes_is, frames_is, found_is), w (fits_room s (length d) f))

-- ONE PAPER, ONE ANSWER

-- the answer told from its paper
cleaned_told : Paper → Result Cleaned Refusal
cleaned_told p = told (λ (vs : List ℕ). Ok (record { bytes = value_at p 0; frames = value_at p 1; after_damage = value_at p 2 })) Err p

told_back : (r : Result Cleaned Refusal) → cleaned_told (clean_paper r) ≡ r
unfolding cleaned_told told
told_back (Ok c) = refl
told_back (Err w) = rw (refusal_not_0 w, refusal_back w)

pub cleaned_one : (x y : Result Cleaned Refusal) → clean_paper x ≡ clean_paper y → x ≡ y
cleaned_one x y e = sym (told_back x) ∙ ap cleaned_told e ∙ told_back y

abbrev check_told : List ℕ → Option ℕ
check_told [] = None
check_told (p ∷ ps) = Some p

check_told_lem : (x : Option ℕ) → check_told (places_of x) ≡ x
check_told_lem None = refl
check_told_lem (Some p) = refl

pub check_one : (x y : Option ℕ) → check_paper x ≡ check_paper y → x ≡ y
check_one x y e = sym (check_told_lem x) ∙ ap (λ (p : Paper). check_told p.values) e ∙ check_told_lem y

-- A REFUSAL LEAVES THE BUFFER AS IT WAS

abbrev pub Refuses : Result Cleaned Refusal → Type 0
Refuses x = (w : Refusal) × (x ≡ Err w)

module _ (s d : List ℕ) where
  pub refused_leaves : (e : List ℕ) (x : Result Cleaned Refusal) → Refuses x → clean_paper x ≡ clean_answer s (length d) → e ≡ clean_leaves s d → e ≡ d
  refused_leaves e x w p q =
      let n : number_of w.0 ≡ (clean_answer s (length d)).number = sym (ap (λ (y : Result Cleaned Refusal). (clean_paper y).number) w.1) ∙ one_number p in
      ⊎_elim (λ (f : fits_in s (length d) ≡ true). absurd (refusal_pos w.0 (n ∙ answer_done s d f))) (λ f. q ∙ left_kept s d f) (two (fits_in s (length d)))
