-- What reads is what writing lays: each passed check taken apart, and put together again
-- as the frame.
use Rattle.std.specs.Prelude.{ℕ, ◌-◌, ◌<◌, ◌≤◌, ◌≡◌, true, false, ◌⊎◌, get_or, take}
use Rattle.std.proofs.Math.Path.{refl, sym, ap}
use Rattle.std.proofs.Common.{◌∙◌, inl, inr, ⊎_elim, arith, length-append}
use mathlib.Core.List.{List, [], ◌∷◌, ◌++◌}
use Rattle.std.proofs.Math.ListN.{length, drop}
use Rattle.terms.specs.Paper.{Paper, answer, one_number}
use Rattle.terms.specs.Cases.{two, less, same}
use Rattle.terms.specs.Checks.{else_both}
use Rattle.digits.specs.Digits.{all_digits, said_by, readable, decimal_at, number, nothing, plain}
use Rattle.digits.specs.Laws.{length_decimal}
use Rattle.digits.specs.Texts.{plain_there, plain_lacks, digits_there, digits_lack, said_there, said_lacks}
use Rattle.step_tags.specs.Table.{among, types}
use Rattle.step_spec.specs.Pieces.{SOH, pieces}
use Rattle.step_spec.specs.Fields.{judge_of, sound_of, unreal_in}
use Rattle.step_spec.specs.Frame.{begin, length_tag, trailer_of, front, digit_run, window, length_check, body_length, body_end, frame_length, kind_check, type_check, head_of, sum_check, kind, fields, verdict_of, step_read_of}
use Rattle.step_spec.specs.FrontLaws.{front_is, reads_off}
use Rattle.step_spec.specs.HeadLaws.{long_off, type_short}
use Rattle.step_spec.specs.Written.{frame_of}

pub trailer_long : (v : ℕ) → length (trailer_of v) ≡ 7
unfolding trailer_of
trailer_long v = simp (length-append, length_decimal)

-- THE LENGTH FIELD

-- text is a number or none
pub decimal_cases : (at n : ℕ) (s : List ℕ) → ((v : ℕ) × (decimal_at at n s ≡ number v)) ⊎ (decimal_at at n s ≡ nothing)
decimal_cases at n s =
    ⊎_elim (λ (p : plain n (get_or s at 0) ≡ true).
    ⊎_elim (λ (q : readable at n (length s) ≡ true).
    ⊎_elim (λ (a : all_digits (take n (drop at s)) ≡ true). inl (said_by (take n (drop at s)), plain_there at n s p ∙ digits_there at n s q ∙ said_there _ a))
    (λ (a : all_digits (take n (drop at s)) ≡ false). inr (plain_there at n s p ∙ digits_there at n s q ∙ said_lacks _ a))
    (two (all_digits (take n (drop at s)))))
    (λ (q : readable at n (length s) ≡ false). inr (plain_there at n s p ∙ digits_lack at n s q))
    (two (readable at n (length s))))
    (λ (p : plain n (get_or s at 0) ≡ false). inr (plain_lacks at n s p))
    (two (plain n (get_or s at 0)))

pub record LengthField (w : List ℕ) : Type 0 where
  pub few : digit_run w ≤ 9
  pub there : digit_run w < length w
  pub ends : get_or w (digit_run w) 0 ≡ SOH
  pub n : ℕ
  pub says : decimal_at 0 (digit_run w) w ≡ number n

-- THE TYPE

pub kind_inv : (t : List ℕ) → kind_check t ≡ 0 → (t ≡ get_or t 0 0 ∷ SOH ∷ drop 2 t) × (among (get_or t 0 0) types ≡ true)
unfolding kind_check
kind_inv [] h = absurd (omega arith)
kind_inv (x ∷ xs) h =
    ⊎_elim (λ (e : among x types ≡ true). (ap (λ (l : List ℕ). x ∷ l) (front_is 25 (SOH ∷ []) xs (λ (z : 25 ≡ 0). omega arith) (rw e at h)), e))
    (λ (e : among x types ≡ false). absurd (omega (arith, rw e at h)))
    (two (among x types))

-- ALL CHECKS

-- all that stands behind a frame that reads
pub record Good (s : List ℕ) : Type 0 where
  pub begins : front 23 begin s ≡ 0
  pub tagged : front 24 length_tag (drop 11 s) ≡ 0
  pub measured : length_check (window s) ≡ 0
  pub small : frame_length s ≤ 8192
  pub five : 5 ≤ body_length s
  pub typed : type_check s ≡ 0
  pub summed : sum_check (body_end s) s ≡ 0
  pub judged : judge_of (kind s) (fields s) ≡ 0

pub passed : (s : List ℕ) → (step_read_of s).number ≡ 0 → verdict_of s ≡ 0
passed s h = ⊎_elim (λ (e : verdict_of s ≡ 0). e) (λ (ne : verdict_of s ≡ 0 → ⊥). absurd (ne (sym (one_number (reads_off s (verdict_of s) refl ne)) ∙ h))) (same (verdict_of s) 0)

pub good : (s : List ℕ) → (step_read_of s).number ≡ 0 → Good s
unfolding verdict_of head_of
good s h =
    let a = else_both _ _ (passed s h) in
    let b = else_both _ _ a.0 in
    let c = else_both _ _ b.1 in
    let d = else_both _ _ c.1 in
    let e = else_both _ _ d.1 in
    let f = else_both _ _ a.1 in
    record {
      begins = b.0;
      tagged = c.0;
      measured = d.0;
      small = ⊎_elim (λ (l : 8192 < frame_length s). absurd (omega (arith, e.0, long_off s l))) (λ (l : frame_length s ≤ 8192). l) (less 8192 (frame_length s));
      five = ⊎_elim (λ (l : body_length s < 5). absurd (omega (arith, e.1, type_short s l))) (λ (l : 5 ≤ body_length s). l) (less (body_length s) 5);
      typed = e.1;
      summed = f.0;
      judged = f.1;
    }

-- READS EXACTLY

-- s begins with the frame of a message that may be written
pub record Reads (s : List ℕ) (type : ℕ) (fs : List ℕ) : Type 0 where
  pub rest : List ℕ
  pub begins : s ≡ frame_of type fs ++ rest
  pub small : length (frame_of type fs) ≤ 8192
  pub known : among type types ≡ true
  pub real : unreal_in (pieces fs) ≡ false
  pub sound : sound_of type fs ≡ true

-- the paper of such a frame: type, place and length of the fields, length of the frame
abbrev pub paper_of : ℕ → List ℕ → Paper
paper_of type fs = answer 0 (type ∷ (length (frame_of type fs) - 7 - length fs) ∷ length fs ∷ length (frame_of type fs) ∷ [])
