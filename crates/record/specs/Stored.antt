-- A row of bytes laid part by part, each just behind the one before.
use Rattle.std.specs.Prelude.{ℕ, ◌+◌, ◌-◌, ◌≤◌, ◌≡◌, List, [], ◌∷◌, ◌++◌, length, take, set}
use Rattle.std.proofs.Common.{sym, ap, ◌∙◌, arith, length-append, le-leb, take_all}
use Rattle.terms.specs.Paper.{Paper}
use Rattle.octets.specs.Octets.{bytes_of, laid}
use Rattle.octets.specs.Numerals.{length_digits}
use Rattle.octets.specs.Overlays.{length_laid, laid_append, laid_one, take_front}
use Rattle.octets.specs.Std.{part_laid}
use borrow.Rule.Slice.PartMut.{put_mid}
use Rattle.octets.specs.Papers.{room_for, laid_if_room, laid_there}

-- e is d with the bytes bs laid over it from the place at on, within d, and behind them is the
-- place `behind`
pub record Stored (at : ℕ) (bs d e : List ℕ) (behind : ℕ) : Type 0 where
  pub whole : e ≡ laid at bs d
  pub ends : behind ≡ at + length bs
  pub room : behind ≤ length d

module _ {at behind : ℕ} {bs d e : List ℕ} where
  pub stored_length : Stored at bs d e behind → length e ≡ length d
  stored_length s = ap length s.whole ∙ length_laid at bs d (omega (arith, s.ends, s.room))

  -- a part, and the next behind it
  pub stored_both : {cs f : List ℕ} {end : ℕ} → Stored at bs d e behind → Stored behind cs e f end → Stored at (bs ++ cs) d f end
  stored_both {cs} {f} {end} s t =
      record {
        whole = t.whole ∙ rw (s.whole, s.ends) (sym (laid_append at bs cs d (omega (arith, s.ends, s.room))));
        ends = simp length-append (omega (arith, s.ends, t.ends));
        room = omega (arith, t.room, stored_length s);
      }

-- what was laid where there is room
pub stored : (at n : ℕ) (bs d e : List ℕ) → length bs ≡ n → at + n ≤ length d → e ≡ laid_if_room at bs d → Stored at bs d e (at + n)
stored at n bs d e l h q =
    record { whole = q ∙ laid_there at n bs d l (le-leb (at + n) (length d) h); ends = omega arith; room = h }

pub stored_field : (at n v : ℕ) (d e : List ℕ) → at + n ≤ length d → e ≡ laid_if_room at (bytes_of n v) d → Stored at (bytes_of n v) d e (at + n)
stored_field at n v d e h q = stored at n (bytes_of n v) d e (length_digits 256 n v) h q

-- one byte
pub stored_byte : (at b : ℕ) (d : List ℕ) → at + 1 ≤ length d → Stored at (b ∷ []) d (set d at b) (at + 1)
stored_byte at b d h = record { whole = sym (laid_one at b d (omega arith)); ends = omega arith; room = h }

-- what was copied over a part
pub stored_copied : (at end : ℕ) (bs d new : List ℕ) → new ≡ bs → end ≡ at + length bs → end ≤ length d → Stored at bs d (put_mid at (end - at) d new) end
stored_copied at end bs d new e l h =
    record { whole = rw e (part_laid at (end - at) d bs (omega arith)); ends = l; room = h }

-- LAID ON

-- laid at the front, they stand there; and so they are laid on from there, their number with them
module _ {bs d e : List ℕ} {n : ℕ} (s : Stored 0 bs d e n) where
  pub stored_front : take n e ≡ bs
  stored_front = rw s.whole (take_front n bs d (omega (arith, s.ends)))

  pub room_on : (at len : ℕ) (p : Paper) → p ≡ room_for at (length (take n e)) len → p ≡ room_for at (length bs) len
  room_on at len p h = h ∙ ap (λ (s : List ℕ). room_for at (length s) len) stored_front

  pub laid_on : (at : ℕ) (out left : List ℕ) → left ≡ laid_if_room at (take n e) out → left ≡ laid_if_room at bs out
  laid_on at out left h = rw stored_front at h

  -- where they fill what they were laid over, all of it is laid on
  module _ (full : length d ≡ n) where
    stored_whole : e ≡ bs
    stored_whole = sym (take_all n e (omega (arith, full, stored_length s))) ∙ stored_front

    pub room_whole : (at len : ℕ) (p : Paper) → p ≡ room_for at (length e) len → p ≡ room_for at n len
    room_whole at len p h = let l : length e ≡ n = omega (arith, full, stored_length s) in rw l at h

    pub laid_whole : (at : ℕ) (out left : List ℕ) → left ≡ laid_if_room at e out → left ≡ laid_if_room at bs out
    laid_whole at out left h = rw stored_whole at h
