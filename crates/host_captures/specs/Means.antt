-- What a host has after reading a record, after cleaning a capture and after asking whether it is
-- clean, in the words of the crates below. No definition of the promises stands here:
-- proofs/Means.antt says of each function that what its promise allows is this. x is the answer,
-- row what is told; a buffer that was lent as d is d' afterwards.
use Rattle.std.specs.Prelude.{ℕ, ◌≤◌, ◌<◌, ◌≡◌, ◌↔◌, List, [], ◌∷◌, length}
use Rattle.octets.specs.Octets.{be, laid}
use Rattle.record.specs.declared.Record.{Record}
use Rattle.record.specs.Record.{record_of}
use Rattle.record.specs.Fields.{Fits}
use Rattle.walk_spec.specs.Walk.{sights, frames_of}
use Rattle.clean_spec.specs.Clean.{clean_of, found_of}
use Rattle.clean_spec.specs.Checks.{First}
use Rattle.host_captures.specs.Captures.{record_numbers}

-- rk_record of the bytes b: document 01's record, each number by its offset, high byte first
pub record HostRecord (b : List ℕ) (x : ℕ) (row : List ℕ) : Type 0 where
  pub given_0 : (x ≡ 0) ↔ (64 ≤ length b)
  pub given_1 : (x ≡ 1) ↔ (length b < 64)
  -- place, MsgType, answer, MsgSeqNum, tick number, channel, BodyLength, floor, top
  pub told : x ≡ 0 → row ≡ be 8 0 b ∷ be 4 8 b ∷ be 4 12 b ∷ be 8 16 b ∷ be 8 24 b ∷ be 2 32 b ∷ be 4 36 b ∷ be 8 40 b ∷ be 8 48 b ∷ []
  -- so of a record that was written it tells that record's numbers
  pub back : (r : Record) → Fits r → b ≡ record_of r → x ≡ 0 → row ≡ record_numbers r

-- rk_clean of the capture c into d, with room for all of it: how many bytes and frames, and how
-- many of these the search found behind damage
pub record HostCleaned (c d : List ℕ) (x : ℕ) (row d' : List ℕ) : Type 0 where
  pub number : x ≡ 0
  pub told : row ≡ length (clean_of c) ∷ frames_of (sights c) ∷ found_of c ∷ []
  pub buffer : d' ≡ laid 0 (clean_of c) d

-- rk_is_clean: 0 and 0 exactly where cleaning changes nothing, else 1 and the first place where
-- the two differ
pub record HostChecked (c : List ℕ) (x : ℕ) (row : List ℕ) : Type 0 where
  pub number : x ≡ 0
  pub clean : (row ≡ 0 ∷ 0 ∷ []) ↔ (clean_of c ≡ c)
  pub changed : (clean_of c ≡ c → ⊥) → (p : ℕ) × ((row ≡ 1 ∷ p ∷ []) × First c (clean_of c) p)
