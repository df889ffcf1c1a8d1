-- Demand 2's round trips, byte for byte, over the message with its body; and frame law 2: a frame
-- depends on its own bytes alone.
use Rattle.std.specs.Prelude.{ℕ, ◌+◌, ◌<◌, ◌≤◌, ◌^◌, ◌≡◌, refl, take, drop}
use Rattle.std.proofs.Common.{sym, ◌∙◌, length-append, take_at, drop_at}
use Rattle.std.proofs.Math.Path.{ap}
use mathlib.Core.List.{List, [], ◌∷◌, ◌++◌, append_assoc, append-nil}
use native.Mathlib.Omega.{arith}
use Rattle.std.proofs.Math.Nat.{add-zero}
use Rattle.std.proofs.Math.ListN.{length}
use Rattle.std.proofs.Math.Seq.{take-add}
use Rattle.terms.specs.Paper.{answer, one_number}
use Rattle.octets.specs.Octets.{be, bytes_of, sum8, Bytes}
use Rattle.octets.specs.Numerals.{be_front, numeral_skip, numeral_behind, numeral_below, bytes_of_be, length_digits}
use Rattle.octets.specs.Sums.{sum8_below}
use Rattle.rules.specs.Table.{kind_of}
use Rattle.rules.specs.Outcomes.{measure_same, judge_same}
use Rattle.frame_spec.specs.Frame.{msg_type, sending_time, msg_seq_num, body_length, body, plain, check_sum, read_of, body_read}
use Rattle.frame_spec.specs.Outcomes.{Good, good, good_reads}
use Rattle.frame_spec.specs.Measures.{fits}
use Rattle.frame_spec.specs.Places.{body_length_lem, body_of}
use Rattle.frame_spec.specs.Write.{Message, message_of, plain_of, frame_of, write_of, left_of}
use Rattle.octets.specs.Overlays.{laid_front, drop_laid, take_front}
use Rattle.frame_spec.specs.WriteLaws.{Sound, fit, left_laid, write_done, plain_length, frame_length}

-- the numbers of a message fit their widths
pub record Widths (m : Message) : Type 0 where
  pub type : m.type < 256 ^ 4
  pub time : m.time < 256 ^ 8
  pub seq : m.seq < 256 ^ 8

-- READING WHAT WAS WRITTEN

module _ (m : Message) (rest : List ℕ) where
  behind : List ℕ
  behind = bytes_of 4 (sum8 (plain_of m)) ++ rest

  -- the frame, part by part
  parts : frame_of m ++ rest ≡ bytes_of 4 m.type ++ (bytes_of 8 m.time ++ (bytes_of 8 m.seq ++ (bytes_of 4 (length m.content) ++ (m.content ++ behind))))
  unfolding frame_of plain_of behind
  parts = simp append_assoc

  whole : frame_of m ++ rest ≡ plain_of m ++ behind
  unfolding frame_of behind
  whole = simp append_assoc

  head : List ℕ
  head = ((bytes_of 4 m.type ++ bytes_of 8 m.time) ++ bytes_of 8 m.seq) ++ bytes_of 4 (length m.content)

  head_length : length head ≡ 24
  unfolding head
  head_length = simp (length-append, length_digits)

  split : frame_of m ++ rest ≡ head ++ (m.content ++ behind)
  unfolding frame_of plain_of behind head
  split = simp append_assoc

  module _ (w : Widths m) (s : Sound m) where
    small : length m.content ≤ 8164
    small = (fits _ _ s.measured).small

    at_type : msg_type (frame_of m ++ rest) ≡ m.type
    at_type = rw parts (be_front 4 m.type _ w.type)

    at_time : sending_time (frame_of m ++ rest) ≡ m.time
    at_time = rw parts (numeral_skip 256 8 4 0 m.type _ ∙ be_front 8 m.time _ w.time)

    at_seq : msg_seq_num (frame_of m ++ rest) ≡ m.seq
    at_seq = rw parts (numeral_skip 256 8 4 8 m.type _ ∙ numeral_skip 256 8 8 0 m.time _ ∙ be_front 8 m.seq _ w.seq)

    at_length : body_length (frame_of m ++ rest) ≡ length m.content
    at_length =
        rw parts
        (numeral_skip 256 4 4 16 m.type _ ∙ numeral_skip 256 4 8 8 m.time _ ∙ numeral_skip 256 4 8 0 m.seq _
        ∙ be_front 4 (length m.content) _ (omega (arith, small)))

    at_body : body (frame_of m ++ rest) ≡ m.content
    at_body =
        ap (λ (n : ℕ). take n (drop 24 (frame_of m ++ rest))) at_length
        ∙ rw (split, drop_at head (m.content ++ behind) 24 head_length, take_at m.content behind (length m.content) refl)

    at_plain : plain (frame_of m ++ rest) ≡ plain_of m
    at_plain = ap (λ (n : ℕ). take (24 + n) (frame_of m ++ rest)) at_length ∙ rw whole (take_at (plain_of m) behind _ (plain_length m))

    at_sum : check_sum (frame_of m ++ rest) ≡ sum8 (plain_of m)
    unfolding behind
    at_sum =
        let b : be 4 (24 + length m.content + 0) (plain_of m ++ behind) ≡ be 4 0 behind = numeral_behind 256 4 0 (24 + length m.content) (plain_of m) behind (plain_length m) in
        ap (λ (n : ℕ). be 4 (24 + n) (frame_of m ++ rest)) at_length
        ∙ rw whole ((rw add-zero at b) ∙ be_front 4 (sum8 (plain_of m)) rest (omega (arith, sum8_below (plain_of m))))

    long : 28 + length m.content ≤ length (frame_of m ++ rest)
    long = simp (length-append, frame_length) (omega arith)

    pub written_good : Good (frame_of m ++ rest)
    written_good =
        record {
          whole = record {
            header = omega (arith, long);
            measured = measure_same _ _ _ _ (ap kind_of at_type) at_length ∙ s.measured;
            there = rw at_length long;
          };
          sum = at_sum ∙ ap sum8 (sym at_plain);
          fine = judge_same _ _ _ _ _ _ (ap kind_of at_type) at_time at_body ∙ s.fine;
        }

    -- reading what was written, with any bytes behind it, gives the same message
    pub read_written : read_of (frame_of m ++ rest) ≡ answer 0 (m.type ∷ m.time ∷ m.seq ∷ length m.content ∷ [])
    read_written = good_reads _ written_good ∙ rw (at_type, at_time, at_seq, at_length)

    pub message_written : message_of (frame_of m ++ rest) ≡ m
    message_written = rw (at_type, at_time, at_seq, at_body)

-- WRITING WHAT WAS READ

-- the header and the body of a frame, written anew
plain_again : (s : List ℕ) → Bytes s → 28 + body_length s ≤ length s → plain_of (message_of s) ≡ plain s
unfolding plain_of
plain_again s b l =
    rw (body_length_lem s l, bytes_of_be 4 0 s b (omega arith), bytes_of_be 8 4 s b (omega arith), bytes_of_be 8 12 s b (omega arith), bytes_of_be 4 20 s b (omega arith))
    (rw (← take-add 4 8 s, ← take-add 12 8 s, ← take-add 20 4 s, ← take-add 24 (body_length s) s))

module _ (s : List ℕ) (b : Bytes s) (z : (read_of s).number ≡ 0) where
  -- writing what was read gives the same bytes
  pub written_read : frame_of (message_of s) ≡ take (28 + body_length s) s
  unfolding frame_of
  written_read =
      let g = good s z in
      let p = plain_again s b g.whole.there in
      let k : 24 + body_length s + 4 ≡ 28 + body_length s = omega arith in
      rw (p, ← g.sum, bytes_of_be 4 (24 + body_length s) s b (omega (arith, g.whole.there)), ← take-add (24 + body_length s) 4 s, k)

  pub read_widths : Widths (message_of s)
  read_widths = record { type = numeral_below 256 4 0 s b; time = numeral_below 256 8 4 s b; seq = numeral_below 256 8 12 s b }

  -- a message that was read may be written
  pub read_sound : Sound (message_of s)
  read_sound =
      let g = good s z in
      record { measured = measure_same _ _ _ _ refl (body_length_lem s g.whole.there) ∙ g.whole.measured; fine = g.fine }

  -- and wherever there is room for it, writing it answers its length
  pub write_read : (room : ℕ) → 28 + body_length s ≤ room → write_of (message_of s) room ≡ answer 0 ((28 + body_length s) ∷ [])
  write_read room l =
      let e = body_length_lem s (good s z).whole.there in
      write_done (message_of s) room read_sound.measured read_sound.fine (rw e l) ∙ ap (λ (n : ℕ). answer 0 ((28 + n) ∷ [])) e

  -- LAW 2: an accepted frame depends on its own bytes alone, whatever follows them, and also
  -- when cut to them
  pub own_bytes : (rest : List ℕ) → read_of (take (28 + body_length s) s ++ rest) ≡ read_of s
  own_bytes rest =
      let e = body_length_lem s (good s z).whole.there in
      rw (← written_read) (read_written (message_of s) rest read_widths read_sound ∙ rw e (sym (good_reads s (good s z))))

  pub own_cut : read_of (take (28 + body_length s) s) ≡ read_of s
  own_cut = ap read_of (sym (append-nil (take (28 + body_length s) s))) ∙ own_bytes []

-- AS THE CODE HAS IT: what `write` leaves, `read_at` and `body_at` read

-- bytes beyond the written ones stay
pub write_beyond : (m : Message) (out : List ℕ) → (write_of m (length out)).number ≡ 0 → drop (28 + length m.content) (left_of m out) ≡ drop (28 + length m.content) out
write_beyond m out z =
    let l : length (frame_of m) ≡ 28 + length m.content = frame_length m in
    let f : 0 + length (frame_of m) ≡ 28 + length m.content = omega arith in
    let h : 0 + length (frame_of m) ≤ length out = omega (arith, (fit m (length out) z).there) in
    rw (left_laid m out z) (rw f at (drop_laid 0 (frame_of m) out h))

-- reading the buffer that a message was written into gives the message, with its body
module _ (m : Message) (out : List ℕ) (w : Widths m) (z : (write_of m (length out)).number ≡ 0) where
  left_is : left_of m out ≡ frame_of m ++ drop (length (frame_of m)) out
  left_is = left_laid m out z ∙ laid_front (frame_of m) out

  pub write_then_read : read_of (left_of m out) ≡ answer 0 (m.type ∷ m.time ∷ m.seq ∷ length m.content ∷ [])
  write_then_read = rw left_is (read_written m (drop (length (frame_of m)) out) w (fit m (length out) z).sound)

  pub write_then_body : body_read (left_of m out) ≡ m.content
  write_then_body =
      let e : message_of (left_of m out) ≡ m = rw left_is (message_written m (drop (length (frame_of m)) out) w (fit m (length out) z).sound) in
      body_of (left_of m out) (one_number write_then_read) ∙ ap (λ (x : Message). x.content) e

-- writing what was read into a buffer leaves there the bytes that were read
pub read_then_write : (s out : List ℕ) → Bytes s → (read_of s).number ≡ 0 → 28 + body_length s ≤ length out → take (28 + body_length s) (left_of (message_of s) out) ≡ take (28 + body_length s) s
read_then_write s out b z h =
    let e : length (frame_of (message_of s)) ≡ 28 + body_length s = frame_length (message_of s) ∙ ap (λ (n : ℕ). 28 + n) (body_length_lem s (good s z).whole.there) in
    rw (left_laid (message_of s) out (one_number (write_read s b z (length out) h)))
    (take_front (28 + body_length s) (frame_of (message_of s)) out e ∙ written_read s b z)
