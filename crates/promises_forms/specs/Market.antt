-- Document 02, CR 10, for what the functions on market files may answer by their promises
-- (`market::check`, `market_values::values` and `written`): which numbers there are, and when each
-- call gives which. `given_40` to `given_47` of `market_spec` say it of the check, number by
-- number.
use Rattle.std.specs.Prelude.{ℕ, ◌<◌, ◌≤◌, ◌≡◌, refl, ◌⊎◌, ◌↔◌, List, length}
use Rattle.std.proofs.Common.{inl, inr, ⊎_elim, arith}
use Rattle.terms.specs.Paper.{Paper}
use Rattle.terms.specs.Cases.{less}
use Rattle.market_spec.specs.File.{fault, fine, fault_of}
use Rattle.market_spec.specs.Told.{Told, at_place, refused}
use Rattle.market_spec.specs.Walk.{Finding, large, header_wrong, header_cut, type_wrong, type_cut, column_wrong, line_cut_short, mark_wrong, trailer_cut, left_over_lem, count_wrong, sum_wrong, sound, finding_told}
use Rattle.market_spec.proofs.Walk.{found}
use Rattle.market_spec.specs.Sound.{values_of, file_of}
use Rattle.market_spec.specs.FileBytes.{values_bytes, values_answer, values_taken, values_given, written_answer}
use Rattle.market_spec.specs.WrittenAgain.{values_told, taken_fine, values_wrong, values_lack, values_fine, written_wrong, written_large, written_lacks, written_fine}

-- THE CHECK gives 0 or one of "40 [..] 47"
abbrev pub MarketNumber : ℕ → Type 0
MarketNumber n = (n ≡ 0) ⊎ ((40 ≤ n) × (n ≤ 47))

finding_numbered : {s : List ℕ} {p : Paper} → Finding s p → MarketNumber p.number
finding_numbered (large a) = inr (omega arith, omega arith)
finding_numbered (header_wrong a b) = inr (omega arith, omega arith)
finding_numbered (header_cut a b) = inr (omega arith, omega arith)
finding_numbered (type_wrong a b c) = inr (omega arith, omega arith)
finding_numbered (type_cut a b c) = inr (omega arith, omega arith)
finding_numbered (column_wrong a b c d) = inr (omega arith, omega arith)
finding_numbered (line_cut_short a b c d) = inr (omega arith, omega arith)
finding_numbered (mark_wrong a b c d f g) = inr (omega arith, omega arith)
finding_numbered (trailer_cut a b c d f) = inr (omega arith, omega arith)
finding_numbered (left_over_lem a b c d f) = inr (omega arith, omega arith)
finding_numbered (count_wrong a b) = inr (omega arith, omega arith)
finding_numbered (sum_wrong a b c) = inr (omega arith, omega arith)
finding_numbered (sound a b c) = inl refl

pub check_numbered : (s : List ℕ) → MarketNumber (fault_of s).number
check_numbered s = finding_numbered (found s)

-- TAKING VALUES OUT refuses as the check does, and gives 8 of a sound file alone
pub data ValuesGive (room : ℕ) (s : List ℕ) : Paper → Type 0 where
  as_checked : (n q : ℕ) → (n ≡ 0 → ⊥) → fault_of s ≡ fault n q → ValuesGive room s (fault n q)
  no_room : (k : ℕ) → fault_of s ≡ fine k → room < length (values_bytes (values_of s)) → ValuesGive room s (fault 8 0)
  given : (k : ℕ) → fault_of s ≡ fine k → length (values_bytes (values_of s)) ≤ room → ValuesGive room s (fine (length (values_bytes (values_of s))))

values_to : {room : ℕ} {s : List ℕ} {p : Paper} → ValuesGive room s p → values_answer room s ≡ p
values_to {room} {s} (as_checked n q z e) = values_wrong room s n q z e
values_to {room} {s} (no_room k e h) = values_lack room s k e h
values_to {room} {s} (given k e h) = values_fine room s k e h

values_from : (room : ℕ) (s : List ℕ) → Told (fault_of s) → ValuesGive room s (values_answer room s)
values_from room s (refused n q z e) = rw (values_wrong room s n q z e) (as_checked n q z e)
values_from room s (at_place k e) =
    ⊎_elim (λ (h : room < length (values_bytes (values_of s))). rw (values_lack room s k e h) (no_room k e h))
    (λ (h : length (values_bytes (values_of s)) ≤ room). rw (values_fine room s k e h) (given k e h))
    (less room (length (values_bytes (values_of s))))

pub values_exactly : (room : ℕ) (s : List ℕ) (p : Paper) → (values_answer room s ≡ p) ↔ ValuesGive room s p
values_exactly room s p = (λ (e : values_answer room s ≡ p). rw e at (values_from room s (finding_told (found s))), λ (g : ValuesGive room s p). values_to g)

-- WRITING refuses by the values' own faults, then 47 by the file's length, then 8
pub data WrittenGives (room : ℕ) (x : List ℕ) : Paper → Type 0 where
  own_fault : (n q : ℕ) → (n ≡ 0 → ⊥) → values_taken x ≡ fault n q → WrittenGives room x (fault n q)
  too_large : values_taken x ≡ fine 0 → 65536 < length (file_of (values_given x)) → WrittenGives room x (fault 47 0)
  no_room : values_taken x ≡ fine 0 → length (file_of (values_given x)) ≤ 65536 → room < length (file_of (values_given x)) → WrittenGives room x (fault 8 0)
  written : values_taken x ≡ fine 0 → length (file_of (values_given x)) ≤ 65536 → length (file_of (values_given x)) ≤ room → WrittenGives room x (fine (length (file_of (values_given x))))

written_to : {room : ℕ} {x : List ℕ} {p : Paper} → WrittenGives room x p → written_answer room x ≡ p
written_to {room} {x} (own_fault n q z e) = written_wrong room x n q z e
written_to {room} {x} (too_large e h) = written_large room x e h
written_to {room} {x} (no_room e h l) = written_lacks room x e h l
written_to {room} {x} (written e h l) = written_fine room x e h l

written_from : (room : ℕ) (x : List ℕ) → Told (values_taken x) → WrittenGives room x (written_answer room x)
written_from room x (refused n q z e) = rw (written_wrong room x n q z e) (own_fault n q z e)
written_from room x (at_place k d) =
    let e = taken_fine x k d in
    ⊎_elim (λ (h : 65536 < length (file_of (values_given x))). rw (written_large room x e h) (too_large e h))
    (λ (h : length (file_of (values_given x)) ≤ 65536).
    ⊎_elim (λ (l : room < length (file_of (values_given x))). rw (written_lacks room x e h l) (no_room e h l))
    (λ (l : length (file_of (values_given x)) ≤ room). rw (written_fine room x e h l) (written e h l))
    (less room (length (file_of (values_given x)))))
    (less 65536 (length (file_of (values_given x))))

pub written_exactly : (room : ℕ) (x : List ℕ) (p : Paper) → (written_answer room x ≡ p) ↔ WrittenGives room x p
written_exactly room x p = (λ (e : written_answer room x ≡ p). rw e at (written_from room x (values_told x)), λ (g : WrittenGives room x p). written_to g)
