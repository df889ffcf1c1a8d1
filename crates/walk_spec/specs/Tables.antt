-- The table of records in a lent buffer: record k has the 64 bytes from 64 k on, where
-- there is room.
use Rattle.std.specs.Prelude.{ℕ, ◌+◌, ◌*◌, ◌/◌, ◌≤◌, ◌<◌, ◌≡◌, refl, List, [], ◌∷◌, ltb, length}
use Rattle.std.proofs.Common.{sym, ap, ◌∙◌, ⊎_elim, arith, lt-ltb, le-ltb, le-leb}
use Rattle.terms.specs.Paper.{pick}
use Rattle.terms.specs.Cases.{less}
use Rattle.octets.specs.Octets.{laid}
use Rattle.octets.specs.Overlays.{laid_nil, laid_append, length_laid}
use Rattle.octets.specs.Papers.{laid_if_room, laid_there}
use Rattle.record.specs.declared.Record.{Record}
use Rattle.record.specs.Record.{record_of}
use Rattle.record.specs.RecordLaws.{length_record}
use Rattle.walk_laws.specs.Frames.{joined, each_of}
use Rattle.walk_spec.specs.Walk.{table_of}

unfoldable pub noted_at : ℕ → Record → List ℕ → List ℕ
noted_at k r d = pick (ltb k (length d / 64)) (laid (64 * k) (record_of r) d) d

-- these records from number k on, as far as there is room
unfoldable pub written_from : ℕ → List Record → List ℕ → List ℕ
written_from k [] d = d
written_from k (r ∷ rs) d = written_from (k + 1) rs (noted_at k r d)

module _ (k : ℕ) (r : Record) (d : List ℕ) where
  pub noted_fits : k < length d / 64 → noted_at k r d ≡ laid (64 * k) (record_of r) d
  unfolding noted_at
  noted_fits h = rw (lt-ltb k (length d / 64) h)

  pub noted_full : length d / 64 ≤ k → noted_at k r d ≡ d
  unfolding noted_at
  noted_full h = rw (le-ltb k (length d / 64) h)

  room : k < length d / 64 → 64 * k + length (record_of r) ≤ length d
  room h = rw (length_record r) (omega arith)

  -- what laying it leaves
  pub noted_put : (e : List ℕ) → k < length d / 64 → e ≡ laid_if_room (64 * k) (record_of r) d → e ≡ noted_at k r d
  noted_put e h p = p ∙ laid_there (64 * k) 64 (record_of r) d (length_record r) (le-leb (64 * k + 64) (length d) (omega arith)) ∙ sym (noted_fits h)

  pub noted_length : length (noted_at k r d) ≡ length d
  noted_length =
      ⊎_elim (λ (h : k < length d / 64). ap length (noted_fits h) ∙ length_laid (64 * k) (record_of r) d (room h)) (λ (h : length d / 64 ≤ k). ap length (noted_full h))
      (less k (length d / 64))

-- a buffer with no room for one stays as it is
pub written_none : (k : ℕ) (rs : List Record) (d : List ℕ) → length d < 64 → written_from k rs d ≡ d
unfolding written_from
written_none k [] d h = refl
written_none k (r ∷ rs) d h = rw (noted_full k r d (omega arith)) (written_none (k + 1) rs d h)

-- one with room for all has them one behind the other
pub written_all : (k : ℕ) (rs : List Record) (d : List ℕ) → k + length rs ≤ length d / 64 → written_from k rs d ≡ laid (64 * k) (table_of rs) d
unfolding written_from joined each_of
written_all k [] d h = sym (laid_nil (64 * k) d)
written_all k (r ∷ rs) d h =
    let e : 64 * k + 64 ≡ 64 * (k + 1) = omega arith in
    let fits : k < length d / 64 = omega arith in
    let m : length (laid (64 * k) (record_of r) d) ≡ length d = length_laid (64 * k) (record_of r) d (room k r d fits) in
    rw (noted_fits k r d fits, laid_append (64 * k) (record_of r) (table_of rs) d (room k r d fits), length_record r, e)
    (written_all (k + 1) rs (laid (64 * k) (record_of r) d) (rw m (omega arith)))
