-- A record put is read back, and a record read is put as it stood.
use Rattle.std.specs.Prelude.{ℕ, ◌+◌, ◌≤◌, ◌≡◌, refl, List, ◌++◌, take}
use Rattle.std.proofs.Common.{sym, ◌∙◌, append_assoc, add-zero, arith, length-take-le, take-add, drop-drop, le-leb}
use Rattle.std.proofs.Math.Path.{ap}
use Rattle.std.proofs.Math.ListN.{length, drop}
use Rattle.octets.specs.Octets.{be, bytes_of, laid, Bytes}
use Rattle.octets.specs.Numerals.{numeral_append, numeral_behind, bytes_of_be}
use Rattle.octets.specs.Papers.{laid_if_room, laid_there}
use Rattle.record.specs.declared.Record.{Record}
use Rattle.record.specs.Record.{first_half, second_half, record_of, record_at}
use Rattle.record.specs.RecordLaws.{length_record}
use Rattle.record.specs.Fields.{Fits, Stands, fields_stand}

-- READ OF PUT

-- the record of the bytes themselves
pub read_back : (r : Record) → Fits r → record_at 0 (record_of r) ≡ r
unfolding record_at
read_back r f =
    let s : Stands r (record_of r) = fields_stand r f in
    rw (s.place, s.msg_type_holds, s.answer, s.seq, s.tick, s.channel, s.body_len, s.floor, s.top)

module _ (at : ℕ) (bs d : List ℕ) (long : length bs ≡ 64) (room : at + 64 ≤ length d) where
  -- a number among bytes that were laid
  within : (n k : ℕ) → k + n ≤ 64 → be n (at + k) (laid at bs d) ≡ be n k bs
  unfolding laid
  within n k h =
      numeral_behind 256 n k at (take at d) (bs ++ drop (at + length bs) d) (length-take-le at d (omega arith))
      ∙ numeral_append 256 n k bs (drop (at + length bs) d) (omega arith)

  record_laid : record_at at (laid at bs d) ≡ record_at 0 bs
  unfolding record_at
  record_laid =
      let p : be 8 at (laid at bs d) ≡ be 8 0 bs = ap (λ (q : ℕ). be 8 q (laid at bs d)) (sym (add-zero at)) ∙ within 8 0 (omega arith) in
      rw (p, within 4 8 (omega arith), within 4 12 (omega arith), within 8 16 (omega arith), within 8 24 (omega arith), within 2 32 (omega arith), within 4 36 (omega arith), within 8 40 (omega arith), within 8 48 (omega arith))

-- where there is room, what `put` leaves reads as the record that was put
pub back : (at : ℕ) (r : Record) (d : List ℕ) → Fits r → at + 64 ≤ length d → record_at at (laid_if_room at (record_of r) d) ≡ r
back at r d f h =
    rw (laid_there at 64 (record_of r) d (length_record r) (le-leb (at + 64) (length d) h))
    (record_laid at (record_of r) d (length_record r) h ∙ read_back r f)

-- so two records of the same 64 bytes are one, and a line is told by its 64 bytes
pub one_record : (q r : Record) → Fits q → Fits r → record_of q ≡ record_of r → q ≡ r
one_record q r f g e = sym (read_back q f) ∙ ap (record_at 0) e ∙ read_back r g

-- PUT OF READ

-- the n bytes from a place on, and the m behind them
joined : (s : List ℕ) (at n m next : ℕ) (c : List ℕ) → at + n ≡ next → take n (drop at s) ++ (take m (drop next s) ++ c) ≡ take (n + m) (drop at s) ++ c
joined s at n m next c e = rw (take-add n m (drop at s), drop-drop n at s, e) (sym (append_assoc (take n (drop at s)) (take m (drop next s)) c))

-- the bytes that stood there, with zeros in the zero fields
pub again : (at : ℕ) (s : List ℕ) → Bytes s → at + 64 ≤ length s → record_of (record_at at s) ≡ take 34 (drop at s) ++ (bytes_of 2 0 ++ (take 20 (drop (at + 36) s) ++ bytes_of 8 0))
unfolding record_of record_at first_half second_half
again at s b h =
    simp append_assoc
    (rw (bytes_of_be 8 at s b (omega arith), bytes_of_be 4 (at + 8) s b (omega arith), bytes_of_be 4 (at + 12) s b (omega arith), bytes_of_be 8 (at + 16) s b (omega arith), bytes_of_be 8 (at + 24) s b (omega arith), bytes_of_be 2 (at + 32) s b (omega arith), bytes_of_be 4 (at + 36) s b (omega arith), bytes_of_be 8 (at + 40) s b (omega arith), bytes_of_be 8 (at + 48) s b (omega arith))
    (joined s at 8 4 (at + 8) _ refl ∙ joined s at 12 4 (at + 12) _ refl ∙ joined s at 16 8 (at + 16) _ refl ∙ joined s at 24 8 (at + 24) _ refl ∙ joined s at 32 2 (at + 32) _ refl
    ∙ ap (λ (t : List ℕ). take 34 (drop at s) ++ (bytes_of 2 0 ++ t)) (joined s (at + 36) 4 8 (at + 40) _ (omega arith) ∙ joined s (at + 36) 12 8 (at + 48) _ (omega arith))))
