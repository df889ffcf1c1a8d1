-- Each answer of writing from the facts that lead to it, and a frame laid piece by piece.
use Rattle.std.specs.Prelude.{ℕ, ◌+◌, ◌<◌, ◌≤◌, ◌≡◌, true, false, List, [], ◌∷◌, ◌++◌, leb}
use Rattle.std.proofs.Common.{◌∙◌, append_assoc, arith, length-append}
use Rattle.std.proofs.Math.Logic.{⊎_elim}
use Rattle.std.proofs.Math.ListN.{length}
use borrow.Author.Tests.{ne_eqb, le-leb, lt-leb}
use Rattle.terms.specs.Paper.{answer, refusal, pick}
use Rattle.terms.specs.Cases.{less, same}
use Rattle.terms.specs.Checks.{else_on, else_is, else_both}
use Rattle.octets.specs.Octets.{laid}
use Rattle.digits.specs.Digits.{shown_of}
use Rattle.step_tags.specs.Table.{among, types}
use Rattle.step_spec.specs.Pieces.{SOH}
use Rattle.step_spec.specs.Fields.{judge_of}
use Rattle.step_spec.specs.Frame.{begin, length_tag, type_tag}
use Rattle.step_spec.specs.Written.{plain_of, frame_of, message_of, step_write_of, step_left_of}

-- HOW LONG A FRAME IS

pub frame_over : (type : ℕ) (fs : List ℕ) → length fs ≤ length (frame_of type fs)
unfolding frame_of plain_of
frame_over type fs = simp length-append (omega arith)

-- THE ANSWERS

module _ (type : ℕ) (fs : List ℕ) where
  module _ (room : ℕ) where
    pub refuses : (n : ℕ) → message_of type fs ≡ n → (n ≡ 0 → ⊥) → step_write_of type fs room ≡ refusal n
    unfolding step_write_of
    refuses n e ne = rw (e, ne_eqb n 0 ne)

    pub write_long : 8192 < length (frame_of type fs) → step_write_of type fs room ≡ refusal 3
    unfolding message_of
    write_long h = refuses 3 (else_is _ _ 3 (rw (lt-leb _ _ h)) (λ (z : 3 ≡ 0). omega arith)) (λ (z : 3 ≡ 0). omega arith)

    module _ (h : length (frame_of type fs) ≤ 8192) where
      fits : ◌≡◌ {A = ℕ} (pick (leb (length (frame_of type fs)) 8192) 0 3) 0
      fits = rw (le-leb _ _ h)

      pub write_type : among type types ≡ false → step_write_of type fs room ≡ refusal 25
      unfolding message_of
      write_type t = refuses 25 (else_on _ _ fits ∙ else_is _ _ 25 (rw t) (λ (z : 25 ≡ 0). omega arith)) (λ (z : 25 ≡ 0). omega arith)

      module _ (t : among type types ≡ true) where
        message_is : message_of type fs ≡ judge_of type fs
        unfolding message_of
        message_is = else_on _ _ fits ∙ else_on _ _ (rw t)

        pub write_judged : (n : ℕ) → judge_of type fs ≡ n → (n ≡ 0 → ⊥) → step_write_of type fs room ≡ refusal n
        write_judged n e ne = refuses n (message_is ∙ e) ne

        pub write_room : judge_of type fs ≡ 0 → room < length (frame_of type fs) → step_write_of type fs room ≡ refusal 8
        unfolding step_write_of
        write_room e l = rw (message_is ∙ e, lt-leb _ _ l)

        pub write_fine : judge_of type fs ≡ 0 → length (frame_of type fs) ≤ room → step_write_of type fs room ≡ answer 0 (length (frame_of type fs) ∷ [])
        unfolding step_write_of
        write_fine e l = rw (message_is ∙ e, le-leb _ _ l)

    -- a message that is written is short enough, and has room
    pub wrote : (step_write_of type fs room).number ≡ 0 → (message_of type fs ≡ 0) × (length (frame_of type fs) ≤ room)
    unfolding step_write_of
    wrote h =
        ⊎_elim (λ (e : message_of type fs ≡ 0).
        ⊎_elim (λ (l : room < length (frame_of type fs)). absurd (omega (arith, rw (e, lt-leb _ _ l) at h))) (λ (l : length (frame_of type fs) ≤ room). (e, l)) (less room (length (frame_of type fs))))
        (λ (ne : message_of type fs ≡ 0 → ⊥). absurd (ne (rw (ne_eqb _ 0 ne) at h)))
        (same (message_of type fs) 0)

  pub message_small : message_of type fs ≡ 0 → length (frame_of type fs) ≤ 8192
  unfolding message_of
  message_small h = ⊎_elim (λ (l : 8192 < length (frame_of type fs)). absurd (omega (arith, rw (lt-leb _ _ l) at (else_both _ _ h).0))) (λ (l : length (frame_of type fs) ≤ 8192). l) (less 8192 (length (frame_of type fs)))

  -- WHAT IS LEFT

  pub left_kept : (d : List ℕ) (n : ℕ) → step_write_of type fs (length d) ≡ refusal n → (n ≡ 0 → ⊥) → step_left_of type fs d ≡ d
  unfolding step_left_of
  left_kept d n e ne = rw (e, ne_eqb n 0 ne)

  pub left_unless : (d : List ℕ) → ((step_write_of type fs (length d)).number ≡ 0 → ⊥) → step_left_of type fs d ≡ d
  unfolding step_left_of
  left_unless d ne = rw (ne_eqb _ 0 ne)

  pub left_laid : (d : List ℕ) → (step_write_of type fs (length d)).number ≡ 0 → step_left_of type fs d ≡ laid 0 (frame_of type fs) d
  unfolding step_left_of
  left_laid d e = rw e

-- the pieces in which it is stored
pub plain_pieces : (type : ℕ) (fs : List ℕ) → (((begin ++ length_tag) ++ shown_of (length fs + 5)) ++ (SOH ∷ (type_tag ++ (type ∷ SOH ∷ [])))) ++ fs ≡ plain_of type fs
unfolding plain_of
plain_pieces type fs = simp append_assoc
