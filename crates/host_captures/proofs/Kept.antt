-- What a refusal leaves: the words, the records, the listing's text and the cleaned capture's
-- buffer as they were. Assumes nothing.
use Prim.Native.Nat.{ℕ, ◌+◌}
use mathlib.Core.Path.{◌≡◌, refl}
use mathlib.Core.Bool.{true, false}
use mathlib.Core.Logic.{⊎_elim}
use mathlib.Core.List.{List}
use native.Mathlib.Omega.{arith}
use lib.Dec.{eqb, leb}
use lib.ListN.{length}
use Rattle.terms.specs.Paper.{one_number}
use Rattle.terms.specs.Cases.{two}
use Rattle.octets.specs.Papers.{room_for, laid_if_room, room_there, laid_kept}
use Rattle.frame_spec.specs.Frame.{checked}
use Rattle.ledger_spec.specs.Calls.{Ask, Missing}
use Rattle.walk_spec.specs.Walk.{fits_in, walk_answer, walk_leaves}
use Rattle.walk_spec.specs.Answers.{left_kept, answer_done}
use Rattle.clean_spec.specs.Clean as clean
use Rattle.host_words.specs.Calls.{call_told, kept_by_lem}
use Rattle.host_captures.specs.Captures.{walk_words, listed, listing_told, listing_leaves}

-- A WALK

module _ (s d : List ℕ) (z : (walk_answer s (length d)).number ≡ 0 → ⊥) where
  no_room : fits_in s (length d) ≡ false
  no_room = ⊎_elim (λ (t : fits_in s (length d) ≡ true). absurd (z (answer_done s d t))) (λ (f : fits_in s (length d) ≡ false). f) (two (fits_in s (length d)))

  room_8 : (walk_answer s (length d)).number ≡ 8
  unfolding walk_answer
  room_8 = rw no_room

  pub walk_left : walk_leaves s d ≡ d
  walk_left = left_kept s d no_room

  pub walk_kept : (was : List ℕ) → walk_words s (length d) was ≡ was
  unfolding walk_words
  walk_kept was = kept_by_lem _ _ was z (λ (e : (walk_answer s (length d)).number ≡ 12). omega (arith, e, room_8))

-- BUFFERS

pub clean_kept : (s d : List ℕ) → ((clean.clean_answer s (length d)).number ≡ 0 → ⊥) → clean.clean_leaves s d ≡ d
unfolding clean.clean_answer clean.clean_leaves
clean_kept s d z =
    ⊎_elim (λ (t : clean.fits_in s (length d) ≡ true). absurd (z (rw t))) (λ (f : clean.fits_in s (length d) ≡ false). rw f) (two (clean.fits_in s (length d)))

-- bytes laid at the front
pub lines_kept : (bytes text : List ℕ) → ((room_for 0 (length bytes) (length text)).number ≡ 0 → ⊥) → laid_if_room 0 bytes text ≡ text
lines_kept bytes text z =
    ⊎_elim (λ (r : leb (0 + length bytes) (length text) ≡ true). absurd (z (one_number (room_there 0 (length bytes) (length text) r))))
    (λ (f : leb (0 + length bytes) (length text) ≡ false). laid_kept 0 (length bytes) bytes text refl f)
    (two (leb (0 + length bytes) (length text)))

module _ (records : List ℕ) (frames refused : ℕ) (w text : List ℕ) where
  abbrev bytes : List ℕ
  bytes = listed records frames refused w

  pub listing_kept : ((listing_told records frames refused w (length text)).number ≡ 0 → ⊥) → listing_leaves records frames refused w text ≡ text
  unfolding listing_told listing_leaves checked
  listing_kept z =
      ⊎_elim (λ (t : eqb (call_told w (Ask Missing)).number 0 ≡ true).
      rw t (lines_kept bytes text (λ (e : (room_for 0 (length bytes) (length text)).number ≡ 0). z (rw t e))))
      (λ (f : eqb (call_told w (Ask Missing)).number 0 ≡ false). rw f)
      (two (eqb (call_told w (Ask Missing)).number 0))
