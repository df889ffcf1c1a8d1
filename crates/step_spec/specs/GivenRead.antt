-- `read_given`: reading gives a number exactly if its condition holds. For any bytes the condition
-- of the number given holds (`told`), and each condition leads to its number (`from`).
use Rattle.std.specs.Prelude.{ℕ, zero, suc, ◌<◌, ◌≡◌, refl, true, false, not, List, [], ◌∷◌, ◌⊎◌, length, drop}
use Rattle.std.proofs.Common.{sym, ◌∙◌, inl, inr, ⊎_elim, arith}
use Rattle.std.proofs.lemmas.Bool.{not-true}
use Rattle.terms.specs.Paper.{one_number}
use Rattle.terms.specs.Cases.{two, same, clash}
use Rattle.digits.specs.Laws.{both}
use Rattle.calendar.specs.Calendar.{real_time}
use Rattle.calendar.proofs.Times.{time_says}
use Rattle.step_tags.specs.Forms.{is_time, time_of, is_unreal}
use Rattle.step_spec.specs.Pieces.{pieces}
use Rattle.step_spec.specs.Fields.{begins52, unreal_in}
use Rattle.step_spec.specs.Frame.{verdict_of, step_read_of}
use Rattle.step_spec.specs.FrontLaws.{reads_on, reads_off}
use Rattle.step_spec.specs.Sound.{piece_at, FieldsSound}
use Rattle.step_spec.specs.Given.{Unreal}

-- A TIME THAT IS NOT REAL

pub unreal_to : (ps : List (List ℕ)) → unreal_in ps ≡ true → Unreal ps
unfolding unreal_in is_unreal
unreal_to [] h = absurd (clash h refl)
unreal_to (p ∷ ps) h =
    ⊎_elim (λ (b : begins52 p ≡ true).
    let q = both (is_time (drop 3 p)) _ (rw b at h) in
    record { at = 0; inside = omega arith; begins = b; first = λ i l. absurd (omega arith); shape = q.0; unreal = λ r. clash ((time_says (time_of (drop 3 p))).1 r) (not-true _ q.1) })
    (λ (b : begins52 p ≡ false). let u = unreal_to ps (rw b at h) in record { at = suc u.at; inside = omega (arith, u.inside); begins = u.begins; first = before b u.first; shape = u.shape; unreal = u.unreal })
    (two (begins52 p))
  where
    before : begins52 p ≡ false → {at : ℕ} → ((i : ℕ) → i < at → begins52 (piece_at ps i) ≡ false) → (i : ℕ) → i < suc at → begins52 (piece_at (p ∷ ps) i) ≡ false
    before b f zero l = b
    before b f (suc i) l = f i (omega arith)

unreal_at : (ps : List (List ℕ)) (at : ℕ) → at < length ps → begins52 (piece_at ps at) ≡ true → ((i : ℕ) → i < at → begins52 (piece_at ps i) ≡ false) → is_unreal (drop 3 (piece_at ps at)) ≡ true → unreal_in ps ≡ true
unfolding unreal_in
unreal_at [] at l b f u = absurd (omega arith)
unreal_at (p ∷ ps) zero l b f u = rw b u
unreal_at (p ∷ ps) (suc at) l b f u = rw (f 0 (omega arith)) (unreal_at ps at (omega arith) b (λ i k. f (suc i) (omega arith)) u)

pub unreal_from : (ps : List (List ℕ)) → Unreal ps → unreal_in ps ≡ true
unfolding is_unreal
unreal_from ps u = unreal_at ps u.at u.inside u.begins u.first (rw u.shape (no_real (two (real_time (time_of (drop 3 (piece_at ps u.at)))))))
  where
    no_real : (real_time (time_of (drop 3 (piece_at ps u.at))) ≡ true) ⊎ (real_time (time_of (drop 3 (piece_at ps u.at))) ≡ false) → not (real_time (time_of (drop 3 (piece_at ps u.at)))) ≡ true
    no_real (inl t) = absurd (u.unreal ((time_says (time_of (drop 3 (piece_at ps u.at)))).0 t))
    no_real (inr f) = rw f

pub data Judged (type : ℕ) (fs : List ℕ) : Type 0 where
  time : Unreal (pieces fs) → Judged type fs
  unsound : (Unreal (pieces fs) → ⊥) → (FieldsSound type fs → ⊥) → Judged type fs
  fine : (Unreal (pieces fs) → ⊥) → FieldsSound type fs → Judged type fs

pub number_is : (s : List ℕ) → (step_read_of s).number ≡ verdict_of s
number_is s = ⊎_elim (λ (e : verdict_of s ≡ 0). one_number (reads_on s e) ∙ sym e) (λ (ne : verdict_of s ≡ 0 → ⊥). one_number (reads_off s (verdict_of s) refl ne)) (same (verdict_of s) 0)
