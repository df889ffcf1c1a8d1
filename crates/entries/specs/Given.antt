-- When each number is given, in document 01's words: conditions over the bytes of a body b, at its
-- offsets. They cite nothing of what they explain. `LengthRule`, `FieldRules` and `EntrySize` are
-- the document's table and field rules.
use Rattle.std.specs.Prelude.{ℕ, zero, suc, ◌+◌, ◌*◌, ◌<◌, ◌≤◌, ◌≡◌, List, length}
use Rattle.octets.specs.Octets.{be}
use Rattle.rules.specs.declared.Kind.TheVariants.{M102}
use Rattle.rules.specs.Rules.{LengthRule, FieldRules, EntrySize}

-- OPENING: "3, 4, 6 as for M102"

-- a body that an M102 frame may carry
pub record MayCarry (b : List ℕ) : Type 0 where
  pub short : length b ≤ 8164
  pub suits : LengthRule M102 (length b)
  pub fields : FieldRules M102 b

abbrev pub Opens0 : List ℕ → Type 0
Opens0 b = MayCarry b

abbrev pub Opens3 : List ℕ → Type 0
Opens3 b = 8164 < length b

abbrev pub Opens4 : List ℕ → Type 0
Opens4 b = (length b ≤ 8164) × (LengthRule M102 (length b) → ⊥)

abbrev pub Opens6 : List ℕ → Type 0
Opens6 b = ((length b ≤ 8164) × LengthRule M102 (length b)) × (FieldRules M102 b → ⊥)

-- the condition of each number; no other is given
abbrev pub OpensWith : ℕ → List ℕ → Type 0
OpensWith zero b = Opens0 b
OpensWith (suc zero) b = ⊥
OpensWith (suc (suc zero)) b = ⊥
OpensWith (suc (suc (suc zero))) b = Opens3 b
OpensWith (suc (suc (suc (suc zero)))) b = Opens4 b
OpensWith (suc (suc (suc (suc (suc zero))))) b = ⊥
OpensWith (suc (suc (suc (suc (suc (suc zero)))))) b = Opens6 b
OpensWith (suc (suc (suc (suc (suc (suc (suc n))))))) b = ⊥

-- A STEP

-- p is "73 + k sizes with k below NoMDEntries"; a size is w bytes, 10 for stream MD001 and else 19
pub record Kth (b : List ℕ) (p k w : ℕ) : Type 0 where
  pub size : EntrySize (be 5 10 b) w
  pub below : k < be 2 71 b
  pub place : p ≡ 73 + k * w

-- 20: the body lacks its fixed part, no entry starts at the place, or that entry is cut off
-- (document 01, Numbers, paragraph 1)
pub data Row20 (b : List ℕ) (p : ℕ) : Type 0 where
  body_below : length b < 73 → Row20 b p
  no_place : ((k w : ℕ) → Kth b p k w → ⊥) → Row20 b p
  passes_end : (k w : ℕ) → Kth b p k w → length b < p + w → Row20 b p

-- none of them: an entry stands at p, whole
pub record Stands (b : List ℕ) (p : ℕ) : Type 0 where
  pub body : 73 ≤ length b
  pub k : ℕ
  pub w : ℕ
  pub kth : Kth b p k w
  pub whole : p + w ≤ length b
