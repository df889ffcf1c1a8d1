-- Laws for later walks: 8,192 bytes are always decided.
use Rattle.std.specs.Prelude.{ℕ, ◌+◌, ◌-◌, ◌<◌, ◌≤◌, ◌≡◌, refl, true, false, List, [], ◌∷◌, eqb, get_or, take, drop}
use Rattle.std.proofs.Common.{sym, ◌∙◌, arith}
use Rattle.std.proofs.Math.Logic.{⊎_elim}
use Rattle.std.proofs.Math.ListN.{length, length-take, length-drop}
use Rattle.terms.specs.Cases.{two, less, same}
use Rattle.terms.specs.Checks.{else_both, else_one}
use Rattle.digits.specs.Digits.{plain}
use Rattle.step_tags.specs.Table.{among, types}
use Rattle.octets.specs.Octets.{sum8}
use Rattle.step_spec.specs.Pieces.{SOH, pieces}
use Rattle.step_spec.specs.Fields.{judge_of, sound_of, unreal_in}
use Rattle.step_spec.specs.Frame.{begin, length_tag, type_tag, trailer_of, front, digit_run, window, length_check, body_start, body_length, body_end, frame_length, long_check, kind_check, type_check, head_of, sum_check, kind, fields, verdict_of}
use Rattle.step_spec.specs.FrontLaws.{run_le}
use Rattle.step_spec.specs.HeadLaws.{long_off, long_on, type_short, type_is}
use Rattle.step_spec.specs.Exactly.{decimal_cases, trailer_long}
use Rattle.step_spec.proofs.FieldLaws.{judged_7, judged_26, judged_fine}
use Rattle.step_spec.proofs.HeadLaws.{length_good, length_zero, length_open, length_none, length_many, sum_is, sum_open}

front_decided : (why : ℕ) (ls s : List ℕ) → (why ≡ 1 → ⊥) → length ls ≤ length s → front why ls s ≡ 1 → ⊥
unfolding front
front_decided why [] s ne h e = omega arith
front_decided why (l ∷ ls) [] ne h e = omega arith
front_decided why (l ∷ ls) (x ∷ xs) ne h e =
    ⊎_elim (λ (t : eqb x l ≡ true). front_decided why ls xs ne (omega arith) (rw t at e)) (λ (f : eqb x l ≡ false). ne (rw f at e)) (two (eqb x l))

length_decided : (w : List ℕ) → 10 ≤ length w → length_check w ≡ 1 → ⊥
length_decided w h e =
    ⊎_elim (λ (l : 9 < digit_run w). omega (arith, e, length_many w _ refl l)) (λ (few : digit_run w ≤ 9).
    ⊎_elim (λ (p : plain (digit_run w) (get_or w 0 0) ≡ true).
    ⊎_elim (λ (c : get_or w (digit_run w) 0 ≡ SOH).
    ⊎_elim (λ d. omega (arith, e, length_good w _ refl few p (omega arith) c d.0 d.1)) (λ d. omega (arith, e, length_none w _ refl few p (omega arith) c d)) (decimal_cases 0 (digit_run w) w))
    (λ (c : get_or w (digit_run w) 0 ≡ SOH → ⊥). omega (arith, e, length_open w _ refl few p (omega arith) c))
    (same (get_or w (digit_run w) 0) SOH))
    (λ (p : plain (digit_run w) (get_or w 0 0) ≡ false). omega (arith, e, length_zero w _ refl p))
    (two (plain (digit_run w) (get_or w 0 0))))
    (less 9 (digit_run w))

kind_decided : (t : List ℕ) → 2 ≤ length t → kind_check t ≡ 1 → ⊥
unfolding kind_check
kind_decided [] h e = omega arith
kind_decided (x ∷ xs) h e =
    ⊎_elim (λ (t : among x types ≡ true). front_decided 25 (SOH ∷ []) xs (λ (z : 25 ≡ 1). omega arith) (omega arith) (rw t at e)) (λ (f : among x types ≡ false). omega (arith, rw f at e)) (two (among x types))

judge_decided : (type : ℕ) (fs : List ℕ) → judge_of type fs ≡ 1 → ⊥
judge_decided type fs e =
    ⊎_elim (λ (u : unreal_in (pieces fs) ≡ true). omega (arith, e, judged_7 type fs u)) (λ (u : unreal_in (pieces fs) ≡ false).
    ⊎_elim (λ (t : sound_of type fs ≡ true). omega (arith, e, judged_fine type fs u t)) (λ (t : sound_of type fs ≡ false). omega (arith, e, judged_26 type fs u t)) (two (sound_of type fs)))
    (two (unreal_in (pieces fs)))

long_decided : (s : List ℕ) → long_check s ≡ 1 → ⊥
long_decided s e = ⊎_elim (λ (l : 8192 < frame_length s). omega (arith, e, long_off s l)) (λ (l : frame_length s ≤ 8192). omega (arith, e, long_on s l)) (less 8192 (frame_length s))

long_small : (s : List ℕ) → long_check s ≡ 0 → frame_length s ≤ 8192
long_small s e = ⊎_elim (λ (l : 8192 < frame_length s). absurd (omega (arith, e, long_off s l))) (λ (l : frame_length s ≤ 8192). l) (less 8192 (frame_length s))

module _ (s : List ℕ) where
  type_decided : body_start s + 5 ≤ length s → type_check s ≡ 1 → ⊥
  type_decided h e =
      ⊎_elim (λ (l : body_length s < 5). omega (arith, e, type_short s l)) (λ (l : 5 ≤ body_length s).
      let f = else_one _ _ (sym (type_is s l) ∙ e) (front_decided 25 type_tag (drop (body_start s) s) (λ (z : 25 ≡ 1). omega arith) (simp length-drop (omega arith))) in
      kind_decided (drop (body_start s + 3) s) (simp length-drop (omega arith)) f.1)
      (less (body_length s) 5)

  sum_decided : frame_length s ≤ length s → sum_check (body_end s) s ≡ 1 → ⊥
  sum_decided h e =
      ⊎_elim (λ (c : get_or s (body_end s - 1) 0 ≡ SOH).
      front_decided 5 (trailer_of (sum8 (take (body_end s) s))) (drop (body_end s) s) (λ (z : 5 ≡ 1). omega arith) (rw trailer_long (simp length-drop (omega arith))) (sym (sum_is (body_end s) s (omega arith) c) ∙ e))
      (λ (c : get_or s (body_end s - 1) 0 ≡ SOH → ⊥). omega (arith, e, sum_open (body_end s) s (omega arith) c))
      (same (get_or s (body_end s - 1) 0) SOH)

  start_near : body_start s ≤ 24
  unfolding body_start
  start_near = omega (arith, run_le (window s), length-take 10 (drop 13 s))

  -- 8,192 bytes or more never answer 1
  pub never_1 : 8192 ≤ length s → verdict_of s ≡ 1 → ⊥
  unfolding verdict_of head_of
  never_1 h e =
      ⊎_elim (λ (w : head_of s ≡ 1). heads h w) (λ (w : head_of s ≡ 1 → ⊥).
      let a = else_one _ _ e w in
      let n = long_small s (head_long a.0) in
      let b = else_one _ _ a.1 (sum_decided (omega arith)) in
      judge_decided (kind s) (fields s) b.1)
      (same (head_of s) 1)
    where
      heads : 8192 ≤ length s → head_of s ≡ 1 → ⊥
      heads h e =
          let a = else_one _ _ e (front_decided 23 begin s (λ (z : 23 ≡ 1). omega arith) (omega arith)) in
          let b = else_one _ _ a.1 (front_decided 24 length_tag (drop 11 s) (λ (z : 24 ≡ 1). omega arith) (simp length-drop (omega arith))) in
          let c = else_one _ _ b.1 (length_decided (window s) (simp (length-take, length-drop) (omega arith))) in
          let d = else_one _ _ c.1 (long_decided s) in
          type_decided (omega (arith, start_near)) d.1

      head_long : head_of s ≡ 0 → long_check s ≡ 0
      head_long z = (else_both _ _ (else_both _ _ (else_both _ _ (else_both _ _ z).1).1).1).0
