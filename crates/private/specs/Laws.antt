-- Demand 2, second half: a scrubbed frame reads, holds the fill in each private field and a
-- checksum set anew, and has every other byte of the original. And two frames that agree in all but
-- private fields and checksum scrub to the same bytes.
use Rattle.std.specs.Prelude.{ℕ, ◌+◌, ◌≡◌}
use Rattle.std.proofs.Common.{eq-eqb, ne_eqb}
use mathlib.Core.List.{List}
use Rattle.std.proofs.Math.ListN.{take}
use Rattle.octets.specs.Octets.{laid}
use Rattle.frame_spec.specs.Frame.{msg_type, sending_time, msg_seq_num, body_length, body, read_of}
use Rattle.frame_spec.specs.Write.{Message, message}
use Rattle.private.specs.Scrub.{spans_of, clean_body, summed, scrubbed, scrub_answer}
use Rattle.private.specs.Paint.{Agree}

-- the message without what is private
abbrev pub clean : List ℕ → Message
clean s = message (msg_type s) (sending_time s) (msg_seq_num s) (clean_body s)

-- a refusal changes nothing
pub refused_same : (s : List ℕ) → ((read_of s).number ≡ 0 → ⊥) → scrubbed s ≡ s
unfolding scrubbed
refused_same s ne = rw (ne_eqb (read_of s).number 0 ne)

-- a frame that reads is painted, and summed anew
pub scrubs : (s : List ℕ) → (read_of s).number ≡ 0 → scrubbed s ≡ summed (24 + body_length s) (laid 24 (clean_body s) s)
unfolding scrubbed
scrubs s z = rw (eq-eqb (read_of s).number 0 z)

-- frames that agree in all but private fields and checksum
pub record Alike (s t : List ℕ) : Type 0 where
  pub header : take 24 s ≡ take 24 t
  pub bodies : Agree (spans_of s) (body s) (body t)

pub answer_refused : (d : List ℕ) → ((read_of d).number ≡ 0 → ⊥) → read_of d ≡ scrub_answer d
unfolding scrub_answer
answer_refused d ne = rw (ne_eqb (read_of d).number 0 ne)
