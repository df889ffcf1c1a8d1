-- Each answer of writing from the facts that lead to it, the same by cases, what it leaves, and the
-- lengths of a frame's parts.
use Rattle.std.specs.Prelude.{ℕ, ◌+◌, ◌<◌, ◌≤◌, ◌≡◌, refl, List, [], ◌∷◌, ◌++◌, Result}
use Rattle.std.proofs.Common.{sym, ◌∙◌, ⊎_elim, arith, length-append, le-leb, eq-eqb, ne_eqb}
use Rattle.std.proofs.Math.Path.{ap}
use Rattle.std.proofs.Math.ListN.{length}
use Rattle.std.proofs.lemmas.Bool.{lt-leb}
use Rattle.terms.specs.Paper.{Paper, answer, refusal, one_number}
use Rattle.terms.specs.Cases.{less, same}
use Rattle.octets.specs.Octets.{laid}
use Rattle.octets.specs.Numerals.{length_digits}
use Rattle.octets.specs.Overlays.{laid_next, length_laid}
use Rattle.terms.specs.Refusals.{refusal_pos}
use Rattle.terms.specs.declared.Refusal.{Refusal}
use Rattle.octets.specs.Papers.{written_paper, Refuses, laid_if_room, laid_there}
use Rattle.rules.specs.Table.{kind_of, measure_of}
use Rattle.rules.specs.Fields.{judge_of}
use Rattle.frame_spec.specs.Outcomes.{checked_on, checked_off}
use Rattle.frame_spec.specs.Write.{Message, plain_of, frame_of, write_of, left_of}

-- the number of the checks 2, 3, 4, and of those behind the sum
abbrev pub measure_in : Message → ℕ
measure_in m = measure_of (kind_of m.type) (length m.content)

abbrev pub judgement_in : Message → ℕ
judgement_in m = judge_of (kind_of m.type) m.time m.content

module _ (m : Message) (room : ℕ) where
  pub write_measured : (x : ℕ) → measure_in m ≡ x → (x ≡ 0 → ⊥) → write_of m room ≡ refusal x
  unfolding write_of
  write_measured x e ne = checked_off (measure_in m) _ (λ (z : measure_in m ≡ 0). ne (sym e ∙ z)) ∙ ap refusal e

  module _ (e : measure_in m ≡ 0) where
    pub write_judged : (x : ℕ) → judgement_in m ≡ x → (x ≡ 0 → ⊥) → write_of m room ≡ refusal x
    unfolding write_of
    write_judged x f ne = checked_on (measure_in m) _ e ∙ checked_off (judgement_in m) _ (λ (z : judgement_in m ≡ 0). ne (sym f ∙ z)) ∙ ap refusal f

    module _ (f : judgement_in m ≡ 0) where
      pub write_room : room < 28 + length m.content → write_of m room ≡ refusal 8
      unfolding write_of
      write_room l = checked_on (measure_in m) _ e ∙ checked_on (judgement_in m) _ f ∙ rw (lt-leb (28 + length m.content) room l)

      pub write_done : 28 + length m.content ≤ room → write_of m room ≡ answer 0 ((28 + length m.content) ∷ [])
      unfolding write_of
      write_done l = checked_on (measure_in m) _ e ∙ checked_on (judgement_in m) _ f ∙ rw (le-leb (28 + length m.content) room l)

-- a message that may be written, and one for which there is room
pub record Sound (m : Message) : Type 0 where
  pub measured : measure_in m ≡ 0
  pub fine : judgement_in m ≡ 0

pub record Fit (m : Message) (room : ℕ) : Type 0 where
  pub sound : Sound m
  pub there : 28 + length m.content ≤ room

-- which facts stand behind an answer p of writing m into so much room
pub data Writing (m : Message) (room : ℕ) (p : Paper) : Type 0 where
  w_measured : p ≡ refusal (measure_in m) → (measure_in m ≡ 0 → ⊥) → Writing m room p
  w_judged : p ≡ refusal (judgement_in m) → measure_in m ≡ 0 → (judgement_in m ≡ 0 → ⊥) → Writing m room p
  w_room : p ≡ refusal 8 → Sound m → room < 28 + length m.content → Writing m room p
  w_done : p ≡ answer 0 ((28 + length m.content) ∷ []) → Fit m room → Writing m room p

pub writing : (m : Message) (room : ℕ) → Writing m room (write_of m room)
writing m room =
    ⊎_elim (λ e.
    ⊎_elim (λ f.
    ⊎_elim (λ l. w_room (write_room m room e f l) (record { measured = e; fine = f }) l)
    (λ l. w_done (write_done m room e f l) (record { sound = record { measured = e; fine = f }; there = l }))
    (less room (28 + length m.content)))
    (λ f. w_judged (write_judged m room e (judgement_in m) refl f) e f)
    (same (judgement_in m) 0))
    (λ e. w_measured (write_measured m room (measure_in m) refl e) e)
    (same (measure_in m) 0)

fit_of : (m : Message) (room : ℕ) (p : Paper) → Writing m room p → p.number ≡ 0 → Fit m room
fit_of m room p (w_measured e n) z = absurd (n (sym (one_number e) ∙ z))
fit_of m room p (w_judged e h n) z = absurd (n (sym (one_number e) ∙ z))
fit_of m room p (w_room e h n) z = absurd (omega (arith, one_number e))
fit_of m room p (w_done e f) z = f

pub fit : (m : Message) (room : ℕ) → (write_of m room).number ≡ 0 → Fit m room
fit m room z = fit_of m room (write_of m room) (writing m room) z

-- what is left in the buffer
pub left_kept : (m : Message) (out : List ℕ) → ((write_of m (length out)).number ≡ 0 → ⊥) → left_of m out ≡ out
unfolding left_of
left_kept m out ne = rw (ne_eqb (write_of m (length out)).number 0 ne)

pub left_laid : (m : Message) (out : List ℕ) → (write_of m (length out)).number ≡ 0 → left_of m out ≡ laid 0 (frame_of m) out
unfolding left_of
left_laid m out z = rw (eq-eqb (write_of m (length out)).number 0 z)

-- LENGTHS

pub plain_length : (m : Message) → length (plain_of m) ≡ 24 + length m.content
unfolding plain_of
plain_length m = simp (length-append, length_digits)

pub frame_length : (m : Message) → length (frame_of m) ≡ 28 + length m.content
unfolding frame_of
frame_length m = simp (length-append, length_digits, plain_length) (omega arith)

-- b laid, where there is room for it, just behind what was laid at the front
pub put_next : (at n : ℕ) (a b d e f : List ℕ) → f ≡ laid_if_room at b e → length b ≡ n → e ≡ laid 0 a d → length a ≡ at → at + n ≤ length d → f ≡ laid 0 (a ++ b) d
put_next at n a b d e f p l q k h =
    let z : 0 + length a ≤ length d = omega arith in
    let g : length e ≡ length d = ap length q ∙ length_laid 0 a d z in
    laid_next at a b d e f (p ∙ laid_there at n b e l (le-leb (at + n) (length e) (omega arith))) q k (omega arith)

-- a refusal leaves the buffer as it was
pub refused_left : (m : Message) (out e : List ℕ) (x : Result ℕ Refusal) → Refuses x → written_paper x ≡ write_of m (length out) → e ≡ left_of m out → e ≡ out
refused_left m out e x r p q =
    q ∙ left_kept m out (λ (z : (write_of m (length out)).number ≡ 0). refusal_pos r.0 (one_number (ap written_paper (sym r.1) ∙ p) ∙ z))
