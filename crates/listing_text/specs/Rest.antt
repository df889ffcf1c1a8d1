-- The lines still to be laid once those of the first k records are: the loops go by them.
use Prim.Native.Nat.{ℕ, suc, ◌+◌, ◌*◌, ◌/◌, ◌-◌, ◌≤◌, ◌<◌}
use Rattle.std.specs.Prelude.{◌≡◌, refl, Bool, false, List, [], ◌++◌, leb}
use Rattle.std.proofs.Common.{sym, ap, ◌∙◌, ⊎_elim, zero-add, le-leb}
use native.Mathlib.Omega.{arith}
use Rattle.std.proofs.Math.ListN.{length, length-append}
use Rattle.std.proofs.lemmas.Bool.{lt-leb}
use Rattle.terms.specs.Cases.{less}
use Rattle.octets.specs.Octets.{laid}
use Rattle.octets.specs.Overlays.{laid_append, laid_none, room_test}
use Rattle.record.specs.Record.{record_at}
use Rattle.listing_text.specs.declared.Summary.{Summary}
use Rattle.listing_text.specs.Columns.{Room}
use Rattle.listing_text.specs.Text.{line_of, summary_of}
use Rattle.record.specs.Stored.{Stored, stored_length}
use Rattle.listing_text.specs.Whole.{records_from, records_in, lines_of, lines_in, listing_of}

module _ (s : List ℕ) where
  -- the lines from record k on
  unfoldable pub rest_of : ℕ → List ℕ
  rest_of k = lines_of (records_from k (length s / 64 - k) s)

  pub rest_first : rest_of 0 ≡ lines_in s
  unfolding rest_of records_in
  rest_first = let e : length s / 64 - 0 ≡ length s / 64 = omega arith in rw e

  pub rest_step : (k : ℕ) → k < length s / 64 → rest_of k ≡ line_of (record_at (64 * k) s) ++ rest_of (k + 1)
  unfolding rest_of lines_of records_from
  rest_step k h = let e : length s / 64 - k ≡ suc (length s / 64 - (k + 1)) = omega arith in rw e

  pub rest_end : (k : ℕ) → length s / 64 ≤ k → rest_of k ≡ []
  unfolding rest_of lines_of records_from
  rest_end k h = let e : length s / 64 - k ≡ 0 = omega arith in rw e

  rest_length : (k : ℕ) → k < length s / 64 → length (rest_of k) ≡ length (line_of (record_at (64 * k) s)) + length (rest_of (k + 1))
  rest_length k h = rw (rest_step k h) (length-append (line_of (record_at (64 * k) s)) (rest_of (k + 1)))

  -- ROOM for them and m bytes more: a line that does not fit, and one that does

  module _ (m k left n : ℕ) (h : k < length s / 64) (l : n ≡ length (line_of (record_at (64 * k) s))) where
    pub rest_lacks : left < n → leb (length (rest_of k) + m) left ≡ false
    rest_lacks w = lt-leb (length (rest_of k) + m) left (omega (arith, rest_length k h))

    pub rest_fits : n ≤ left → leb (length (rest_of (k + 1)) + m) (left - n) ≡ leb (length (rest_of k) + m) left
    rest_fits w =
        let e : (length (rest_of (k + 1)) + m) + n ≡ length (rest_of k) + m = omega (arith, rest_length k h) in
        room_test left (length (rest_of (k + 1)) + m) n w ∙ ap (λ (x : ℕ). leb x left) e

  -- LAYING: before record k, with the place behind the lines laid; d₀ is what stood there at first

  pub record Going (d₀ d : List ℕ) (k at : ℕ) : Type 0 where
    pub ends : at + length (rest_of k) ≡ length (lines_in s)
    pub long : length d ≡ length d₀
    pub same : laid at (rest_of k) d ≡ laid 0 (lines_in s) d₀

  pub going_first : (d : List ℕ) → Going d d 0 0
  going_first d = record { ends = rw (rest_first) (zero-add (length (lines_in s))); long = refl; same = rw rest_first }

  module _ {d₀ d : List ℕ} {k at : ℕ} (g : Going d₀ d k at) (r : length (lines_in s) ≤ length d₀) where
    pub line_room : k < length s / 64 → Room at (line_of (record_at (64 * k) s)) d
    line_room h = record { fits = omega (arith, g.ends, g.long, rest_length k h) }

    pub going_end : length s / 64 ≤ k → Stored 0 (lines_in s) d₀ d at
    going_end h =
        let none : length (rest_of k) ≡ 0 = ap length (rest_end k h) in
        record {
          whole = laid_none at (rest_of k) d (laid 0 (lines_in s) d₀) (rest_end k h) g.same;
          ends = omega (arith, g.ends, none);
          room = omega (arith, g.ends, none);
        }

  module _ {d₀ d e : List ℕ} {k at next : ℕ} (g : Going d₀ d k at) where
    pub going_on : k < length s / 64 → Stored at (line_of (record_at (64 * k) s)) d e next → Going d₀ e (k + 1) next
    going_on h t =
        let room : at + length (line_of (record_at (64 * k) s)) ≤ length d = omega (arith, t.ends, t.room) in
        record {
          ends = omega (arith, g.ends, t.ends, rest_length k h);
          long = stored_length t ∙ g.long;
          same =
              rw (t.whole, t.ends) (sym (laid_append at (line_of (record_at (64 * k) s)) (rest_of (k + 1)) d room)
              ∙ ap (λ (x : List ℕ). laid at x d) (sym (rest_step k h)) ∙ g.same);
        }

-- ROOM for so many lines, however long, and m bytes more
pub room_roomy : (room k m : ℕ) → m ≤ room → leb k ((room - m) / 127) ≡ leb (127 * k + m) room
room_roomy room k m h =
    ⊎_elim (λ (l : (room - m) / 127 < k). lt-leb k ((room - m) / 127) l ∙ sym (lt-leb (127 * k + m) room (omega arith)))
    (λ (l : k ≤ (room - m) / 127). le-leb k ((room - m) / 127) l ∙ sym (le-leb (127 * k + m) room (omega arith)))
    (less ((room - m) / 127) k)

-- THE WHOLE LISTING: the lines and the last line

module _ (s : List ℕ) (last : Summary) where
  listing_length : length (listing_of s last) ≡ length (lines_in s) + length (summary_of last)
  unfolding listing_of
  listing_length = length-append (lines_in s) (summary_of last)

  pub listing_fits : (n room : ℕ) (r : Bool) → r ≡ leb (length (lines_in s) + n) room → n ≡ length (summary_of last) → r ≡ leb (length (listing_of s last)) room
  listing_fits n room r h e = h ∙ ap (λ (m : ℕ). leb m room) (ap (λ (x : ℕ). length (lines_in s) + x) e ∙ sym listing_length)

  pub lines_room : (n : ℕ) → length (listing_of s last) ≤ n → length (lines_in s) ≤ n
  lines_room n h = omega (arith, listing_length)

  pub end_room : {d e : List ℕ} {at : ℕ} → Stored 0 (lines_in s) d e at → length (listing_of s last) ≤ length d → Room at (summary_of last) e
  end_room t h = record { fits = omega (arith, listing_length, t.ends, stored_length t) }
