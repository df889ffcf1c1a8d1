-- Scrubbing into another buffer: when each number is given, and that what stands there is what
-- scrubbing leaves of the frame where it stands.
use Rattle.std.specs.Prelude.{Result, ℕ, ◌+◌, ◌<◌, ◌≤◌, ◌≡◌, refl, ◌↔◌, List, length, take, drop}
use Rattle.std.proofs.Common.{sym, ap, ◌∙◌, ⊎_elim, arith, take-append-drop, length-take-le, take_all, take-take, take-add, drop_at, eq-eqb, le-leb}
use Rattle.std.proofs.lemmas.Bool.{lt-leb}
use Rattle.terms.specs.Paper.{Paper, one_number}
use Rattle.terms.specs.Cases.{less, same}
use Rattle.terms.specs.declared.Refusal.{Refusal}
use Rattle.octets.specs.Papers.{written_paper, Refuses, room_for, laid_if_room, room_there, room_lacks, refused_kept}
use Rattle.octets.specs.Octets.{be}
use Rattle.octets.specs.Numerals.{numeral_take}
use Rattle.rules.specs.Outcomes.{measure_not_more}
use Rattle.rules.proofs.Outcomes.{judge_not_more}
use Rattle.frame_spec.specs.Frame.{msg_type, body_length, body, read_of}
use Rattle.frame_spec.specs.Outcomes.{Reading, r_short, r_measure, r_cut, r_sum, r_judged, r_frame, reading, good}
use Rattle.frame_spec.specs.Stable.{kept}
use Rattle.frame_spec.specs.Given.{Reads}
use Rattle.frame_spec.specs.GivenRead.{read_given}
use Rattle.private.specs.Scrub.{spans_of, scrubbed}
use Rattle.private.specs.Paint.{Agree}
use Rattle.private.specs.Laws.{Alike}
use Rattle.private.specs.Into.{frame_in, into_answer, into_leaves}
use Rattle.private.proofs.Laws.{scrub_alike, length_always}
use Rattle.private.specs.IntoLaws.{into_passed, i_done, i_lacks, Into, i_passed, into_kept}

-- A FRAME'S OWN BYTES

agrees : (s t : List ℕ) → body s ≡ body t → Agree (spans_of s) (body s) (body t)
agrees s t e = rw e (record { long = refl; outside = λ i out. refl })

module _ (s : List ℕ) (z : (read_of s).number ≡ 0) where
  pub own_long : length (frame_in s) ≡ 28 + body_length s
  own_long = length-take-le (28 + body_length s) s (good s z).whole.there

  own_number_lem : (w at : ℕ) → at + w ≤ 24 → be w at (frame_in s) ≡ be w at s
  own_number_lem w at h = numeral_take 256 w at (28 + body_length s) s (omega arith)

  enough : (p : Paper) → Reading (frame_in s) p → p.number ≡ 1 → ⊥
  enough p (r_short e h) o = omega (arith, h, own_long)
  enough p (r_measure e h m) o = measure_not_more _ _ (sym (one_number e) ∙ o)
  enough p (r_cut e h m l) o = omega (arith, l, own_long, own_number_lem 4 20 (omega arith))
  enough p (r_sum e w n) o = omega (arith, one_number e, o)
  enough p (r_judged e w f n) o = judge_not_more _ _ _ (sym (one_number e) ∙ o)
  enough p (r_frame e g) o = omega (arith, one_number e, o)

  pub own_not_more : (read_of (frame_in s)).number ≡ 1 → ⊥
  own_not_more = enough (read_of (frame_in s)) (reading (frame_in s))

  -- they are enough to read it by
  pub own_reads : read_of (frame_in s) ≡ read_of s
  own_reads = sym (kept (frame_in s) (drop (28 + body_length s) s) own_not_more) ∙ ap read_of (take-append-drop (28 + body_length s) s)

  own_done : (read_of (frame_in s)).number ≡ 0
  own_done = one_number own_reads ∙ z

  pub own_type : msg_type (frame_in s) ≡ msg_type s
  own_type = own_number_lem 4 0 (omega arith)

  pub own_length : body_length (frame_in s) ≡ body_length s
  own_length = own_number_lem 4 20 (omega arith)

  behind_header : drop 24 (frame_in s) ≡ take (body_length s + 4) (drop 24 s)
  behind_header =
      let n : 28 + body_length s ≡ 24 + (body_length s + 4) = omega arith in
      ap (λ (k : ℕ). drop 24 (take k s)) n
      ∙ ap (drop 24) (take-add 24 (body_length s + 4) s)
      ∙ drop_at (take 24 s) (take (body_length s + 4) (drop 24 s)) 24 (length-take-le 24 s (good s z).whole.header)

  own_body : body (frame_in s) ≡ body s
  own_body =
      ap (λ (k : ℕ). take k (drop 24 (frame_in s))) own_length
      ∙ ap (take (body_length s)) behind_header
      ∙ take-take (body_length s) (body_length s + 4) (drop 24 s) (omega arith)

  own_alike : Alike (frame_in s) s
  own_alike = record { header = take-take 24 (28 + body_length s) s (omega arith); bodies = agrees (frame_in s) s own_body }

  -- THE SCRUBBED FRAME is what scrubbing leaves of it where it stands
  pub scrub_into_is : scrubbed (frame_in s) ≡ take (28 + body_length s) (scrubbed s)
  scrub_into_is =
      sym (take_all (28 + body_length (frame_in s)) (scrubbed (frame_in s)) (rw (length_always (frame_in s), own_long, own_length) (omega arith)))
      ∙ scrub_alike (frame_in s) s own_done z own_alike

  pub into_long : length (scrubbed (frame_in s)) ≡ 28 + body_length s
  into_long = length_always (frame_in s) ∙ own_long

  -- what is answered and left of a frame that reads
  pub into_room : (to len : ℕ) → into_answer s to len ≡ room_for to (28 + body_length s) len
  unfolding into_answer
  into_room to len = rw (eq-eqb (read_of s).number 0 z)

  pub into_laid : (to : ℕ) (d : List ℕ) → into_leaves s to d ≡ laid_if_room to (scrubbed (frame_in s)) d
  unfolding into_leaves
  into_laid to d = rw (eq-eqb (read_of s).number 0 z)

module _ (s : List ℕ) (to len : ℕ) where
  abbrev given : ℕ
  given = (into_answer s to len).number

  lacks : (read_of s).number ≡ 0 → len < to + (28 + body_length s) → given ≡ 8
  lacks z l = one_number (into_room s z to len ∙ room_lacks to (28 + body_length s) len (lt-leb _ _ l))

  fits : (read_of s).number ≡ 0 → to + (28 + body_length s) ≤ len → given ≡ 0
  fits z l = one_number (into_room s z to len ∙ room_there to (28 + body_length s) len (le-leb _ _ l))

  into : Into s to len given
  into =
      ⊎_elim (λ (z : (read_of s).number ≡ 0).
      ⊎_elim (λ (l : len < to + (28 + body_length s)). i_lacks (lacks z l) z l)
      (λ (l : to + (28 + body_length s) ≤ len). i_done (fits z l) z l)
      (less len (to + (28 + body_length s))))
      (λ (ne : (read_of s).number ≡ 0 → ⊥). i_passed (one_number (into_passed s ne to len)) ne)
      (same (read_of s).number 0)

  when_done : (m : ℕ) → Into s to len m → m ≡ 0 → Reads 0 s × (to + (28 + be 4 20 s) ≤ len)
  when_done m (i_passed e ne) o = absurd (ne (sym e ∙ o))
  when_done m (i_lacks e z l) o = absurd (omega arith)
  when_done m (i_done e z l) o = ((read_given 0 s).0 z, l)

  when_lacks : (m : ℕ) → Into s to len m → m ≡ 8 → Reads 0 s × (len < to + (28 + be 4 20 s))
  when_lacks m (i_passed e ne) o = absurd ((read_given 8 s).0 (sym e ∙ o))
  when_lacks m (i_lacks e z l) o = ((read_given 0 s).0 z, l)
  when_lacks m (i_done e z l) o = absurd (omega arith)

  when_passed : (m n : ℕ) → Into s to len m → m ≡ n → (n ≡ 0 → ⊥) → (n ≡ 8 → ⊥) → Reads n s
  when_passed m n (i_passed e ne) o a b = (read_given n s).0 (sym e ∙ o)
  when_passed m n (i_lacks e z l) o a b = absurd (b (sym o ∙ e))
  when_passed m n (i_done e z l) o a b = absurd (a (sym o ∙ e))

  -- 0: the frame reads, and there is room for it
  pub into_given_0 : (given ≡ 0) ↔ (Reads 0 s × (to + (28 + be 4 20 s) ≤ len))
  into_given_0 = (when_done given into, λ h. fits ((read_given 0 s).1 h.0) h.1)

  -- 8: it reads, and there is none
  pub into_given_8 : (given ≡ 8) ↔ (Reads 0 s × (len < to + (28 + be 4 20 s)))
  into_given_8 = (when_lacks given into, λ h. lacks ((read_given 0 s).1 h.0) h.1)

  -- every other number is reading's
  pub into_given : (n : ℕ) → (n ≡ 0 → ⊥) → (n ≡ 8 → ⊥) → (given ≡ n) ↔ Reads n s
  into_given n a b = (
    λ (e : given ≡ n). when_passed given n into e a b,
    λ (r : Reads n s).
        let e = (read_given n s).1 r in
        one_number (into_passed s (λ (z : (read_of s).number ≡ 0). a (sym e ∙ z)) to len) ∙ e,
  )

-- a refusal leaves the buffer as it was
pub into_refused_keeps : (s : List ℕ) (to : ℕ) (d e : List ℕ) (x : Result ℕ Refusal) → Refuses x → written_paper x ≡ into_answer s to (length d) → e ≡ into_leaves s to d → e ≡ d
into_refused_keeps s to d e x r p q =
    ⊎_elim
    (λ (z : (read_of s).number ≡ 0).
    refused_kept to (28 + body_length s) (scrubbed (frame_in s)) d e x (into_long s z) r (p ∙ into_room s z to (length d)) (q ∙ into_laid s z to d))
    (λ (ne : (read_of s).number ≡ 0 → ⊥). q ∙ into_kept s ne to d)
    (same (read_of s).number 0)
