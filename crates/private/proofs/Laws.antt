-- Demand 2, second half: a scrubbed frame reads, holds the fill in each private field and a
-- checksum set anew, and has every other byte of the original. And two frames that agree in all but
-- private fields and checksum scrub to the same bytes.
use Rattle.std.specs.Prelude.{Result, ℕ, ◌+◌, ◌-◌, ◌<◌, ◌≤◌, true, ◌≡◌, ◌⊎◌, drop}
use Rattle.std.proofs.Math.Path.{refl, sym, ap}
use Rattle.std.proofs.Common.{◌∙◌, inl, inr, length-drop, length-take-le, drop_at, get_or-take, get_or-drop, eq-eqb}
use Rattle.std.proofs.Math.Logic.{⊎_elim}
use mathlib.Core.List.{List, [], ◌∷◌, ◌++◌}
use native.Mathlib.Omega.{arith}
use Rattle.std.proofs.Math.ListN.{length, get_or, take}
use Rattle.std.proofs.Math.Seq.{take-add}
use Rattle.terms.specs.Paper.{answer, one_number}
use Rattle.terms.specs.Cases.{less, same}
use Rattle.terms.specs.Refusals.{refusal_pos}
use Rattle.terms.specs.declared.Refusal.{Refusal}
use Rattle.octets.specs.Papers.{written_paper, Refuses}
use Rattle.octets.specs.Octets.{numeral, be, bytes_of, sum8, laid}
use Rattle.octets.specs.Numerals.{length_digits, numeral_append, numeral_drop, numeral_take, last_byte}
use Rattle.octets.specs.Sums.{sum8_below}
use Rattle.octets.specs.Places.{laid_before, laid_in, laid_after}
use Rattle.octets.specs.Overlays.{length_laid, laid_again, laid_same, take_laid, mid_laid, be_laid}
use Rattle.rules.specs.Table.{kind_of, suits}
use Rattle.rules.specs.Fields.{judge_of}
use Rattle.rules.specs.Outcomes.{measure_same}
use Rattle.frame_spec.specs.Frame.{msg_type, sending_time, body_length, body, plain, check_sum, read_of}
use Rattle.frame_spec.specs.Outcomes.{Good, good, good_reads}
use Rattle.frame_spec.specs.Measures.{fits}
use Rattle.frame_spec.specs.Places.{body_length_lem}
use Rattle.frame_spec.specs.Write.{Message, message_of}
use Rattle.private.specs.declared.Span.{Span}
use Rattle.rules.specs.declared.Kind.{Kind}
use Rattle.private.specs.Private.{private_of}
use Rattle.private.specs.Scrub.{painted, spans_of, clean_body, summed, scrubbed, scrub_answer}
use Rattle.private.specs.Paint.{Inside, Within, Agree, length_painted, painted_outside, painted_inside, painted_agrees, painted_same}
use Rattle.private.specs.Within.{scrubbed_as, SmallSum}
use Rattle.frame_view.specs.View.{view_of}
use Rattle.private.specs.PrivateLaws.{view_same, private_few, private_within, private_same, judged_same}
use Rattle.private.proofs.Filled.{private_filled}
use Rattle.private.specs.Laws.{scrubs, clean, Alike, refused_same, answer_refused}

-- the checksum set anew, as bytes
abbrev sum_anew : List ℕ → List ℕ
sum_anew s = bytes_of 4 (sum8 (take (24 + body_length s) (laid 24 (clean_body s) s)))

module _ (s : List ℕ) (z : (read_of s).number ≡ 0) where
  there : 28 + body_length s ≤ length s
  there = (good s z).whole.there

  long : length (body s) ≡ body_length s
  long = body_length_lem s there

  pub spans_within : Within (length (body s)) (spans_of s)
  spans_within = private_within (kind_of (msg_type s)) (body s) (rw long (fits _ _ (good s z).whole.measured).suit)

  clean_long : length (clean_body s) ≡ body_length s
  clean_long = length_painted (spans_of s) (body s) spans_within ∙ long

  agrees : Agree (spans_of s) (body s) (clean_body s)
  agrees = rw (private_few (kind_of (msg_type s)) (body s)) at (painted_agrees 4 (spans_of s) (body s) spans_within)

  scrub_is : scrubbed s ≡ summed (24 + body_length s) (laid 24 (clean_body s) s)
  scrub_is = scrubs s z

  room : 24 + length (clean_body s) ≤ length s
  room = rw clean_long (omega (arith, there))

  room_4 : 24 + body_length s + length (sum_anew s) ≤ length (laid 24 (clean_body s) s)
  room_4 = rw (length_digits 256 4 (sum8 (take (24 + body_length s) (laid 24 (clean_body s) s))), length_laid 24 (clean_body s) s room) (omega (arith, there))

  -- the length is kept
  pub scrub_length : length (scrubbed s) ≡ length s
  unfolding summed
  scrub_length =
      ap length scrub_is
      ∙ length_laid (24 + body_length s) (sum_anew s) (laid 24 (clean_body s) s) room_4
      ∙ length_laid 24 (clean_body s) s room

  -- the byte i of the buffer is private, or of the checksum
  abbrev pub Changed : ℕ → Type 0
  Changed i = ((24 ≤ i) × Inside (spans_of s) (i - 24)) ⊎ ((24 + body_length s ≤ i) × (i < 28 + body_length s))

  -- every other byte is kept
  at_body : (i : ℕ) → (Changed i → ⊥) → get_or (laid 24 (clean_body s) s) i 0 ≡ get_or s i 0
  at_body i out =
      ⊎_elim (λ (l : i < 24). laid_before 24 (clean_body s) s room i l)
      (λ (l : 24 ≤ i).
      ⊎_elim
      (λ (k : i < 24 + body_length s).
      let e : 24 + (i - 24) ≡ i = omega arith in
      let j : i - 24 < body_length s = omega arith in
      ap (λ (q : ℕ). get_or (laid 24 (clean_body s) s) q 0) (sym e)
      ∙ laid_in 24 (clean_body s) s room (i - 24) (rw clean_long j)
      ∙ painted_outside (spans_of s) (body s) spans_within (i - 24) (λ h. out (inl (l, h)))
      ∙ get_or-take (body_length s) (drop 24 s) (i - 24) 0 j
      ∙ get_or-drop 24 s (i - 24) 0
      ∙ ap (λ (q : ℕ). get_or s q 0) e)
      (λ (k : 24 + body_length s ≤ i). laid_after 24 (clean_body s) s room i (rw clean_long k))
      (less i (24 + body_length s)))
      (less i 24)

  pub scrub_keeps : (i : ℕ) → (Changed i → ⊥) → get_or (scrubbed s) i 0 ≡ get_or s i 0
  unfolding summed
  scrub_keeps i out =
      ap (λ (l : List ℕ). get_or l i 0) scrub_is
      ∙ ⊎_elim (λ (l : i < 24 + body_length s). laid_before (24 + body_length s) (sum_anew s) _ room_4 i l)
      (λ (l : 24 + body_length s ≤ i).
      ⊎_elim (λ (k : i < 28 + body_length s). absurd (out (inr (l, k))))
      (λ (k : 28 + body_length s ≤ i). laid_after (24 + body_length s) (sum_anew s) _ room_4 i (rw (length_digits 256 4 (sum8 (take (24 + body_length s) (laid 24 (clean_body s) s)))) (omega arith)))
      (less i (28 + body_length s)))
      (less i (24 + body_length s))
      ∙ at_body i out

  -- each private byte is its fill
  pub scrub_fills : (i : ℕ) → i < body_length s → Inside (spans_of s) i → get_or (scrubbed s) (24 + i) 0 ≡ 0x20
  unfolding summed
  scrub_fills i l h =
      ap (λ (x : List ℕ). get_or x (24 + i) 0) scrub_is
      ∙ laid_before (24 + body_length s) (sum_anew s) _ room_4 (24 + i) (omega arith)
      ∙ laid_in 24 (clean_body s) s room i (rw clean_long l)
      ∙ painted_inside 0x20 (spans_of s) (body s) spans_within (private_filled (kind_of (msg_type s)) (body s)) i h

  -- AS A FRAME: the header as it was, the body without what is private, and the sum of the two
  abbrev plain_clean : List ℕ
  plain_clean = take 24 s ++ clean_body s

  head_long : length (take 24 s) ≡ 24
  head_long = length-take-le 24 s (omega (arith, there))

  front_over : take (24 + body_length s) (laid 24 (clean_body s) s) ≡ plain_clean
  front_over =
      let mid : take (body_length s) (drop 24 (laid 24 (clean_body s) s)) ≡ clean_body s = rw clean_long at (mid_laid 24 (clean_body s) s room) in
      take-add 24 (body_length s) (laid 24 (clean_body s) s) ∙ rw (take_laid 24 (clean_body s) s room, mid)

  front_same : take (24 + body_length s) (scrubbed s) ≡ take (24 + body_length s) (laid 24 (clean_body s) s)
  unfolding summed
  front_same = ap (take (24 + body_length s)) scrub_is ∙ take_laid (24 + body_length s) (sum_anew s) (laid 24 (clean_body s) s) room_4

  front : take (24 + body_length s) (scrubbed s) ≡ plain_clean
  front = front_same ∙ front_over

  -- the numbers of the header are as they were
  header_number : (w at : ℕ) → at + w ≤ 24 → be w at (scrubbed s) ≡ be w at s
  header_number w at h =
      sym (numeral_take 256 w at (24 + body_length s) (scrubbed s) (omega arith))
      ∙ ap (be w at) front
      ∙ numeral_append 256 w at (take 24 s) (clean_body s) (rw head_long h)
      ∙ numeral_take 256 w at 24 s h

  same_type : msg_type (scrubbed s) ≡ msg_type s
  same_type = header_number 4 0 (omega arith)

  same_length : body_length (scrubbed s) ≡ body_length s
  same_length = header_number 4 20 (omega arith)

  same_body : body (scrubbed s) ≡ clean_body s
  same_body =
      let cut : take 24 (scrubbed s) ++ take (body_length s) (drop 24 (scrubbed s)) ≡ plain_clean = sym (take-add 24 (body_length s) (scrubbed s)) ∙ front in
      let long_24 : length (take 24 (scrubbed s)) ≡ 24 = length-take-le 24 (scrubbed s) (rw scrub_length (omega (arith, there))) in
      ap (λ (n : ℕ). take n (drop 24 (scrubbed s))) same_length
      ∙ sym (drop_at (take 24 (scrubbed s)) (take (body_length s) (drop 24 (scrubbed s))) 24 long_24)
      ∙ ap (drop 24) cut
      ∙ drop_at (take 24 s) (clean_body s) 24 head_long

  -- the new sum is right
  sum_right_lem : check_sum (scrubbed s) ≡ sum8 (plain (scrubbed s))
  unfolding summed
  sum_right_lem =
      let over = laid 24 (clean_body s) s in
      let v = sum8 (take (24 + body_length s) over) in
      ap (λ (n : ℕ). be 4 (24 + n) (scrubbed s)) same_length
      ∙ ap (be 4 (24 + body_length s)) scrub_is
      ∙ be_laid (24 + body_length s) 4 v over (rw (length_laid 24 (clean_body s) s room) (omega (arith, there))) (omega (arith, sum8_below (take (24 + body_length s) over)))
      ∙ ap sum8 (sym front_same)
      ∙ ap (λ (n : ℕ). sum8 (take (24 + n) (scrubbed s))) (sym same_length)

  judged : judge_of (kind_of (msg_type (scrubbed s))) (sending_time (scrubbed s)) (body (scrubbed s)) ≡ 0
  judged =
      rw (same_type, header_number 8 4 (omega arith), same_body)
      (sym (judged_same (kind_of (msg_type s)) (sending_time s) (body s) (clean_body s) agrees) ∙ (good s z).fine)

  scrub_good : Good (scrubbed s)
  scrub_good =
      record {
        whole = record {
          header = rw scrub_length (omega (arith, there));
          measured = measure_same _ _ _ _ (ap kind_of same_type) same_length ∙ (good s z).whole.measured;
          there = rw (scrub_length, same_length) there;
        };
        sum = sum_right_lem;
        fine = judged;
      }

  -- it reads, with the same answer: type, time, number and length
  pub scrub_reads : read_of (scrubbed s) ≡ read_of s
  scrub_reads =
      good_reads (scrubbed s) scrub_good
      ∙ rw (same_type, header_number 8 4 (omega arith), header_number 8 12 (omega arith), same_length) (sym (good_reads s (good s z)))

  pub scrub_message : message_of (scrubbed s) ≡ clean s
  scrub_message = rw (same_type, header_number 8 4 (omega arith), header_number 8 12 (omega arith), same_body)

  pub scrub_done : (read_of (scrubbed s)).number ≡ 0
  scrub_done = one_number scrub_reads ∙ z

  pub scrub_sum : check_sum (scrubbed s) ≡ sum8 (plain (scrubbed s))
  scrub_sum = sum_right_lem

  -- its bytes
  scrub_bytes : take (28 + body_length s) (scrubbed s) ≡ plain_clean ++ bytes_of 4 (sum8 plain_clean)
  unfolding summed
  scrub_bytes =
      let over = laid 24 (clean_body s) s in
      let n : 28 + body_length s ≡ 24 + body_length s + 4 = omega arith in
      let four : length (sum_anew s) ≡ 4 = length_digits 256 4 (sum8 (take (24 + body_length s) over)) in
      let last : take 4 (drop (24 + body_length s) (scrubbed s)) ≡ sum_anew s = ap (λ (l : List ℕ). take 4 (drop (24 + body_length s) l)) scrub_is ∙ rw four at (mid_laid (24 + body_length s) (sum_anew s) over room_4) in
      ap (λ (k : ℕ). take k (scrubbed s)) n
      ∙ take-add (24 + body_length s) 4 (scrubbed s)
      ∙ rw (front, last, front_over)

  same_spans : spans_of (scrubbed s) ≡ spans_of s
  same_spans =
      ap (λ (t : ℕ). private_of (kind_of t) (body (scrubbed s))) same_type
      ∙ ap (private_of (kind_of (msg_type s))) same_body
      ∙ sym (private_same (kind_of (msg_type s)) (body s) (clean_body s) agrees)

  same_clean : clean_body (scrubbed s) ≡ body (scrubbed s)
  same_clean =
      ap (λ (ps : List Span). painted ps (body (scrubbed s))) same_spans
      ∙ ap (painted (spans_of s)) same_body
      ∙ sym (painted_same (spans_of s) (body s) (clean_body s) spans_within agrees)
      ∙ sym same_body

  -- a scrubbed frame, scrubbed once more, stays as it is
  laid_unchanged : laid 24 (clean_body (scrubbed s)) (scrubbed s) ≡ scrubbed s
  laid_unchanged =
      ap (λ (c : List ℕ). laid 24 c (scrubbed s)) same_clean
      ∙ laid_same 24 (body_length (scrubbed s)) (scrubbed s) (rw (scrub_length, same_length) (omega (arith, there)))

  sum_unchanged : summed (24 + body_length s) (scrubbed s) ≡ scrubbed s
  unfolding summed
  sum_unchanged =
      ap (λ (l : List ℕ). laid (24 + body_length s) (bytes_of 4 (sum8 l)) (scrubbed s)) front_same
      ∙ ap (laid (24 + body_length s) (sum_anew s)) scrub_is
      ∙ laid_again (24 + body_length s) (sum_anew s) (laid 24 (clean_body s) s) room_4 (sum_anew s) refl
      ∙ sym scrub_is

  pub scrub_again : scrubbed (scrubbed s) ≡ scrubbed s
  scrub_again =
      scrubs (scrubbed s) scrub_done
      ∙ ap (λ (n : ℕ). summed (24 + n) (laid 24 (clean_body (scrubbed s)) (scrubbed s))) same_length
      ∙ ap (summed (24 + body_length s)) laid_unchanged
      ∙ sum_unchanged

module _ (s t : List ℕ) (a : Alike s t) where
  alike_number : (w at : ℕ) → at + w ≤ 24 → be w at s ≡ be w at t
  alike_number w at h = sym (numeral_take 256 w at 24 s h) ∙ ap (be w at) a.header ∙ numeral_take 256 w at 24 t h

  alike_spans : spans_of s ≡ spans_of t
  alike_spans =
      private_same (kind_of (msg_type s)) (body s) (body t) a.bodies
      ∙ ap (λ (x : ℕ). private_of (kind_of x) (body t)) (alike_number 4 0 (omega arith))

  alike_body : (read_of s).number ≡ 0 → clean_body s ≡ clean_body t
  alike_body z =
      painted_same (spans_of s) (body s) (body t) (spans_within s z) a.bodies
      ∙ ap (λ (ps : List Span). painted ps (body t)) alike_spans

-- two buffers whose frames read and are alike scrub to the same frame bytes
pub scrub_alike : (s t : List ℕ) → (read_of s).number ≡ 0 → (read_of t).number ≡ 0 → Alike s t → take (28 + body_length s) (scrubbed s) ≡ take (28 + body_length t) (scrubbed t)
scrub_alike s t y z a =
    let plains : take 24 s ++ clean_body s ≡ take 24 t ++ clean_body t = rw (a.header, alike_body s t a y) in
    scrub_bytes s y ∙ ap (λ (p : List ℕ). p ++ bytes_of 4 (sum8 p)) plains ∙ sym (scrub_bytes t z)

-- four bytes that hold less than 256
three_zeros : (s : List ℕ) → 3 ≤ length s → be 4 0 s < 256 → take 3 s ≡ 0 ∷ 0 ∷ 0 ∷ []
unfolding numeral
three_zeros [] h l = absurd (omega arith)
three_zeros (a ∷ []) h l = absurd (omega arith)
three_zeros (a ∷ b ∷ []) h l = absurd (omega arith)
three_zeros (a ∷ b ∷ c ∷ t) h l =
    let x : a ≡ 0 = omega arith in
    let y : b ≡ 0 = omega arith in
    let w : c ≡ 0 = omega arith in
    rw (x, y, w)

-- WHAT THE CODE LEAVES AND ANSWERS, in its own numbers
module _ (d : List ℕ) (z : (read_of d).number ≡ 0) where
  pub answer_as : (n : ℕ) → n ≡ body_length d → answer 0 ((28 + n) ∷ []) ≡ scrub_answer d
  unfolding scrub_answer
  answer_as n q = rw (eq-eqb (read_of d).number 0 z, q)

  -- of a frame that reads, told its own type and length: it is there, its length suits, CheckSum's
  -- last byte is its sum, and as one of that type it is scrubbed
  module _ (k : Kind) (n : ℕ) (p : k ≡ kind_of (msg_type d)) (q : n ≡ body_length d) where
    pub read_there : 28 + n ≤ length d
    read_there = rw q (good d z).whole.there

    pub read_suits : suits k n ≡ true
    read_suits = rw (p, q) (fits _ _ (good d z).whole.measured).suit

    pub read_sum : be 1 (27 + n) d ≡ sum8 (take (24 + n) d)
    read_sum =
        let at : 27 + body_length d ≡ 24 + body_length d + 3 = omega arith in
        rw (q, at) (last_byte 3 (24 + body_length d) (sum8 (plain d)) d (good d z).sum (sum8_below (plain d)))

    -- the three bytes before it are 0
    pub read_small : SmallSum (24 + n) d
    read_small =
        let at : 24 + body_length d + 0 ≡ 24 + body_length d = omega arith in
        let small : be 4 0 (drop (24 + body_length d) d) < 256 = rw (numeral_drop 256 4 (24 + body_length d) 0 d, at, (good d z).sum) (sum8_below (plain d)) in
        rw q (three_zeros (drop (24 + body_length d) d) (rw (length-drop (24 + body_length d) d) (omega (arith, (good d z).whole.there))) small)

    pub read_scrubs : scrubbed_as k n d ≡ scrubbed d
    read_scrubs = rw (p, q) (sym (scrubs d z))

-- a refusal leaves the buffer as it was
pub refused_kept : (d e : List ℕ) (x : Result ℕ Refusal) → Refuses x → written_paper x ≡ scrub_answer d → e ≡ scrubbed d → e ≡ d
refused_kept d e x r p q =
    ⊎_elim (λ (z : (read_of d).number ≡ 0). absurd (refusal_pos r.0 (one_number (ap written_paper (sym r.1) ∙ p ∙ sym (answer_as d z (body_length d) refl))))
    )
    (λ (ne : (read_of d).number ≡ 0 → ⊥). q ∙ refused_same d ne)
    (same (read_of d).number 0)

-- FOR EVERY BUFFER, its frame accepted or not

pub length_always : (s : List ℕ) → length (scrubbed s) ≡ length s
length_always s =
    ⊎_elim (λ (z : (read_of s).number ≡ 0). scrub_length s z) (λ (ne : (read_of s).number ≡ 0 → ⊥). ap length (refused_same s ne)) (same (read_of s).number 0)

pub again_always : (s : List ℕ) → scrubbed (scrubbed s) ≡ scrubbed s
again_always s =
    ⊎_elim (λ (z : (read_of s).number ≡ 0). scrub_again s z) (λ (ne : (read_of s).number ≡ 0 → ⊥). ap scrubbed (refused_same s ne)) (same (read_of s).number 0)

-- scrubbing answers reading's number: 0, or the refusal passed on
pub scrub_number : (s : List ℕ) → (scrub_answer s).number ≡ (read_of s).number
scrub_number s =
    ⊎_elim (λ (z : (read_of s).number ≡ 0). one_number (sym (answer_as s z (body_length s) refl)) ∙ sym z)
    (λ (ne : (read_of s).number ≡ 0 → ⊥). one_number (sym (answer_refused s ne)))
    (same (read_of s).number 0)

-- the view of a scrubbed frame is the view of the original
pub scrub_view : (s : List ℕ) → (read_of s).number ≡ 0 → view_of (kind_of (msg_type (scrubbed s))) (body (scrubbed s)) ≡ view_of (kind_of (msg_type s)) (body s)
scrub_view s z =
    let e = scrub_message s z in
    ap (λ (m : Message). view_of (kind_of m.type) m.content) e
    ∙ sym (view_same (kind_of (msg_type s)) (body s) (clean_body s) (agrees s z))
