-- What is seen from the facts that lead to it, and the laws of reading as `walk_laws` wants them.
use Rattle.std.specs.Prelude.{ℕ, zero, suc, ◌+◌, ◌≤◌, ◌≡◌, refl, Ok, List, [], ◌∷◌, ◌++◌, length, get_or, drop}
use Rattle.std.proofs.Common.{sym, ap, ◌∙◌, ⊎_elim, arith, length-drop, eq-eqb, ne_eqb}
use Rattle.std.proofs.lemmas.List.{take-append-le, drop-append-le}
use Rattle.terms.specs.Paper.{Paper, answer, refusal, one_number}
use Rattle.terms.specs.Cases.{same}
use Rattle.terms.specs.Counters.{session_of}
use Rattle.terms.specs.Refusals.{number_of, refusal_of, refusal_pos}
use Rattle.terms.proofs.Refusals.{refusal_back}
use Rattle.terms.specs.declared.Refusal.{Refusal}
use Rattle.terms.specs.declared.SessionNumber.{SessionNumber}
use Rattle.rules.specs.Table.{kind_of}
use Rattle.rules.specs.declared.Kind.{Kind}
use Rattle.frame_view.specs.declared.View.{View}
use Rattle.frame_spec.specs.Frame.{msg_type, sending_time, msg_seq_num, body_length, body, read_of}
use Rattle.frame_view.specs.View.{view_of}
use Rattle.frame_spec.specs.Places.{body_of}
use Rattle.frame_spec.specs.Outcomes.{good, good_reads, read_done, read_values, read_length}
use Rattle.frame_spec.specs.Stable.{kept, enough}
use Rattle.frame_spec.specs.Given.{Reads}
use Rattle.frame_spec.specs.GivenRead.{read_given}
use Rattle.walk_laws.specs.Walk.{frame, more}
use Rattle.reading.specs.declared.Seen.{Seen}
use Rattle.reading.specs.Seen.{shown, blank, seen_of, seen_number, says_of}
use Rattle.reading.specs.SeenLaws.{says_more, more_says, frame_says}

module _ (s : List ℕ) where
  -- a frame that reads
  pub seen_frame : (read_of s).number ≡ 0 → seen_of s ≡ shown s (view_of (kind_of (msg_type s)) (body s))
  unfolding seen_of
  seen_frame z = rw (eq-eqb (read_of s).number 0 z, body_of s z)

  -- one that does not shows its refusal alone
  pub seen_blank : ((read_of s).number ≡ 0 → ⊥) → seen_of s ≡ blank (refusal_of (read_of s).number)
  unfolding seen_of
  seen_blank ne = rw (ne_eqb (read_of s).number 0 ne)

  -- the same, of what the code reads
  pub seen_refused : (w : Refusal) → refusal (number_of w) ≡ read_of s → blank w ≡ seen_of s
  seen_refused w e =
      let n : (read_of s).number ≡ number_of w = sym (one_number e) in
      sym (seen_blank (λ (z : (read_of s).number ≡ 0). refusal_pos w (sym n ∙ z)) ∙ ap blank (ap refusal_of n ∙ refusal_back w))

  pub seen_read : (t time n : ℕ) (q : SessionNumber) (k : Kind) (v : View) → answer 0 (t ∷ time ∷ q.0 ∷ n ∷ []) ≡ read_of s → k ≡ kind_of t → v ≡ view_of k (body s)
      → ◌≡◌ {A = Seen} (record { answer = Ok tt; msg_type = t; seq = q; channel = v.channel; tick = v.tick; status = v.status; body_len = n; size = 28 + n }) (seen_of s)
  seen_read t time n q k v e f g =
      let values = ap (λ (p : Paper). p.values) (read_values s t time q.0 n e) in
      let is_type : t ≡ msg_type s = ap (λ (vs : List ℕ). get_or vs 0 0) values in
      let is_seq : q ≡ session_of (msg_seq_num s) = ap (λ (vs : List ℕ). session_of (get_or vs 2 0)) values in
      let is_length : n ≡ body_length s = ap (λ (vs : List ℕ). get_or vs 3 0) values in
      rw (seen_frame (read_done s t time q.0 n e), g, f, is_type, is_seq, is_length)

-- each number that reading gives is its refusal's
number_back : (n : ℕ) (s : List ℕ) → Reads n s → (n ≡ 0 → ⊥) → number_of (refusal_of n) ≡ n
unfolding refusal_of
number_back zero s h ne = absurd (ne refl)
number_back (suc zero) s h ne = refl
number_back (suc (suc zero)) s h ne = refl
number_back (suc (suc (suc zero))) s h ne = refl
number_back (suc (suc (suc (suc zero)))) s h ne = refl
number_back (suc (suc (suc (suc (suc zero))))) s h ne = refl
number_back (suc (suc (suc (suc (suc (suc zero)))))) s h ne = refl
number_back (suc (suc (suc (suc (suc (suc (suc zero))))))) s h ne = refl
number_back (suc (suc (suc (suc (suc (suc (suc (suc n)))))))) s h ne = absurd h

-- what is seen has the answer of reading, and the length of the frame that was read
pub seen_answer : (s : List ℕ) → seen_number (seen_of s) ≡ (read_of s).number
seen_answer s =
    ⊎_elim (λ (z : (read_of s).number ≡ 0). ap seen_number (seen_frame s z) ∙ sym z)
    (λ (ne : (read_of s).number ≡ 0 → ⊥). ap seen_number (seen_blank s ne) ∙ number_back (read_of s).number s ((read_given (read_of s).number s).0 refl) ne)
    (same (read_of s).number 0)

pub seen_size : (s : List ℕ) → (read_of s).number ≡ 0 → (seen_of s).size ≡ 28 + body_length s
seen_size s z = ap (λ (x : Seen). x.size) (seen_frame s z)

-- THE LAWS OF READING, for `walk_laws`

module _ (s t : List ℕ) (e : read_of (s ++ t) ≡ read_of s) where
  refused_kept : ((read_of s).number ≡ 0 → ⊥) → seen_of (s ++ t) ≡ seen_of s
  refused_kept ne =
      seen_blank (s ++ t) (λ (z : (read_of (s ++ t)).number ≡ 0). ne (sym (one_number e) ∙ z)) ∙ ap (λ (p : Paper). blank (refusal_of p.number)) e ∙ sym (seen_blank s ne)

  module _ (z : (read_of s).number ≡ 0) where
    paper : answer 0 (msg_type s ∷ sending_time s ∷ msg_seq_num s ∷ body_length s ∷ []) ≡ read_of (s ++ t)
    paper = sym (e ∙ good_reads s (good s z))

    body_kept : body s ≡ body (s ++ t)
    body_kept =
        let l = (good s z).whole.there in
        let h : 24 ≤ length s = omega arith in
        let d : body_length s ≤ length (drop 24 s) = simp length-drop (omega arith) in
        rw (← read_length (s ++ t) _ _ _ _ paper, drop-append-le 24 s t h, take-append-le (body_length s) (drop 24 s) t d)

    frame_kept : seen_of (s ++ t) ≡ seen_of s
    frame_kept =
        sym (seen_read (s ++ t) _ _ _ (session_of (msg_seq_num s)) (kind_of (msg_type s)) (view_of (kind_of (msg_type s)) (body s)) paper refl (ap (view_of (kind_of (msg_type s))) body_kept))
        ∙ sym (seen_frame s z)

-- what was seen stays when bytes follow, but for 1
pub seen_kept : (s t : List ℕ) → (says_of (seen_of s) ≡ more → ⊥) → seen_of (s ++ t) ≡ seen_of s
seen_kept s t un =
    let e = kept s t (λ (o : (read_of s).number ≡ 1). un (says_more (seen_of s) (seen_answer s ∙ o))) in
    ⊎_elim (λ (z : (read_of s).number ≡ 0). frame_kept s t e z) (λ (ne : (read_of s).number ≡ 0 → ⊥). refused_kept s t e ne) (same (read_of s).number 0)

-- 8,192 bytes are enough to tell
pub seen_enough : (s : List ℕ) → 8192 ≤ length s → says_of (seen_of s) ≡ more → ⊥
seen_enough s l e = enough s l (sym (seen_answer s) ∙ more_says (seen_of s) e)

-- a frame has 28 bytes or more, and they are all there
pub seen_fits : (s : List ℕ) (n : ℕ) → says_of (seen_of s) ≡ frame n → (28 ≤ n) × (n ≤ length s)
seen_fits s n e =
    let f = frame_says (seen_of s) n e in
    let z : (read_of s).number ≡ 0 = sym (seen_answer s) ∙ f.0 in
    let l : n ≡ 28 + body_length s = sym f.1 ∙ seen_size s z in
    (omega arith, omega (arith, (good s z).whole.there))
