-- From what a function that lays bytes answers to what it leaves, and back.
use Rattle.std.specs.Prelude.{ℕ, ◌+◌, ◌≤◌, ◌≡◌, refl, true, false, List, [], ◌∷◌, leb, length}
use Rattle.std.proofs.Common.{sym, ◌∙◌, zero-add, arith, le-leb}
use Rattle.terms.specs.Paper.{answer, refusal}
use Rattle.std.specs.Prelude.{Result, Ok}
use Rattle.terms.specs.declared.Refusal.{Refusal}
use Rattle.octets.specs.Papers.{written_paper, room_for, laid_if_room, room_there, room_lacks, laid_there, laid_kept}
use Rattle.listing_text.specs.Columns.{as_many}
use Rattle.record.specs.Stored.{Stored, stored}

-- where there is room
module _ {at : ℕ} {bs d e : List ℕ} {w : Result ℕ Refusal} (h : at + length bs ≤ length d) (p : written_paper w ≡ room_for at (length bs) (length d)) where
  pub answered : (m : ℕ) → w ≡ Ok m → e ≡ laid_if_room at bs d → Stored at bs d e (at + m)
  answered m t q =
      let l : m ≡ length bs = as_many at (length bs) (length d) w h p m t in
      stored at m bs d e (sym l) (omega arith) q

-- at the front: without room, and laid
module _ (bs d : List ℕ) where
  pub front_lacks : leb (length bs) (length d) ≡ false → (refusal 8 ≡ room_for 0 (length bs) (length d)) × (d ≡ laid_if_room 0 bs d)
  front_lacks f =
      let g : leb (0 + length bs) (length d) ≡ false = rw (zero-add (length bs)) f in
      (sym (room_lacks 0 (length bs) (length d) g), sym (laid_kept 0 (length bs) bs d refl g))

  pub front_laid : {e : List ℕ} {n : ℕ} → Stored 0 bs d e n → (answer 0 (n ∷ []) ≡ room_for 0 (length bs) (length d)) × (e ≡ laid_if_room 0 bs d)
  front_laid {e} {n} s =
      let l : n ≡ length bs = omega (arith, s.ends) in
      let t : leb (0 + length bs) (length d) ≡ true = le-leb (0 + length bs) (length d) (omega (arith, s.ends, s.room)) in
      (rw l (sym (room_there 0 (length bs) (length d) t)), s.whole ∙ sym (laid_there 0 (length bs) bs d refl t))
