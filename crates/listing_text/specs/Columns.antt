-- How many digits a number has at most; a number laid as text where there is room for them: it
-- is laid whole; and room for two parts, one behind the other.
use Rattle.std.specs.Prelude.{ℕ, ◌+◌, ◌<◌, ◌≤◌, ◌^◌, ◌≡◌, List, [], ◌∷◌, ◌++◌, length, get_or}
use Rattle.std.proofs.Common.{sym, ap, ◌∙◌, arith, length-append, le-leb}
use Rattle.terms.specs.Paper.{Paper, answer}
use Rattle.std.specs.Prelude.{Result, Ok}
use Rattle.terms.specs.declared.Refusal.{Refusal}
use Rattle.octets.specs.Papers.{written_paper, written_one, Refuses, room_for, room_there}
use Rattle.digits.specs.Digits.{width_of}
use Rattle.digits.specs.Widths.{width_of_lem, width_most}
use Rattle.record.specs.Stored.{Stored, stored_length}

pub few_digits : (w v : ℕ) → 1 ≤ w → v < 10 ^ 20 → v < 10 ^ w → width_of v ≤ w
few_digits w v p h k = width_most w (width_of_lem v h) p k

module _ (at n len : ℕ) (w : Result ℕ Refusal) (h : at + n ≤ len) (p : written_paper w ≡ room_for at n len) where
  all_written : written_paper w ≡ answer 0 (n ∷ [])
  all_written = p ∙ room_there at n len (le-leb (at + n) len h)

  pub not_refused : Refuses w → ⊥
  not_refused r = omega (arith, ap (λ (y : Paper). length y.values) (ap written_paper (sym r.1) ∙ all_written))

  pub all_ok : w ≡ Ok n
  all_ok = written_one w (Ok n) all_written

  pub as_many : (m : ℕ) → w ≡ Ok m → m ≡ n
  as_many m e = ap (λ (y : Paper). get_or y.values 0 0) (ap written_paper (sym e) ∙ all_written)

-- d has room for bs from the place at on
pub record Room (at : ℕ) (bs d : List ℕ) : Type 0 where
  pub fits : at + length bs ≤ length d

-- room for two parts: for the first, and behind it for the second
module _ {at : ℕ} {bs d : List ℕ} where
  pub room_first : (cs : List ℕ) → Room at (bs ++ cs) d → Room at bs d
  room_first cs h = record { fits = omega (arith, h.fits, length-append bs cs) }

  pub room_behind : {cs e : List ℕ} {behind : ℕ} → Stored at bs d e behind → Room at (bs ++ cs) d → Room behind cs e
  room_behind {cs} {e} {behind} s h = record { fits = omega (arith, h.fits, length-append bs cs, s.ends, stored_length s) }
