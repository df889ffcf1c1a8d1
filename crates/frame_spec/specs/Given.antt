-- "Given exactly when": for each number that reading, writing and the search give, when it is
-- given. The conditions are document 01's, over bytes at its offsets; none cites the function whose
-- answer it explains.
use Rattle.std.specs.Prelude.{ℕ, zero, suc, ◌+◌, ◌<◌, ◌≤◌, ◌%◌, ◌≡◌, ◌⊎◌, List, length, take, drop}
use Rattle.octets.specs.Octets.{be, sum_of}
use Rattle.calendar.specs.Calendar.{RealTime}
use Rattle.rules.specs.declared.Kind.{Kind}
use Rattle.rules.specs.Rules.{TypeRule, LengthRule, FieldRules}
use Rattle.frame_spec.specs.Write.{Message}

-- READING: each record has the checks passed so far, in document 01's order, for a row k
-- of the table

-- 24 bytes
pub record Header (s : List ℕ) : Type 0 where
  pub header : 24 ≤ length s

-- 2: MsgType in the table
pub record Typed (k : Kind) (s : List ℕ) : Type 0 where
  pub before : Header s
  pub type : TypeRule k (be 4 0 s)

-- 3: a body of at most 8,164 bytes
pub record Short (k : Kind) (s : List ℕ) : Type 0 where
  pub before : Typed k s
  pub short : be 4 20 s ≤ 8164

-- 4: BodyLength suits the type
pub record Suited (k : Kind) (s : List ℕ) : Type 0 where
  pub before : Short k s
  pub suits : LengthRule k (be 4 20 s)

-- whole length: header, body and CheckSum are there
pub record There (k : Kind) (s : List ℕ) : Type 0 where
  pub before : Suited k s
  pub there : 24 + be 4 20 s + 4 ≤ length s

-- 5: CheckSum, "all 32 bits compared", is the one-byte sum of header and body
pub record Summed (k : Kind) (s : List ℕ) : Type 0 where
  pub before : There k s
  pub sum : be 4 (24 + be 4 20 s) s ≡ sum_of (take (24 + be 4 20 s) s) % 256

-- 7, between 5 and 6: SendingTime is a real time (document 02, CR 6)
pub record Timed (k : Kind) (s : List ℕ) : Type 0 where
  pub before : Summed k s
  pub time : RealTime (be 8 4 s)

-- 6: the field rules. This is a frame that meets IS120 0.62 as document 01 sets it out.
pub record Meets (k : Kind) (s : List ℕ) : Type 0 where
  pub before : Timed k s
  pub fields : FieldRules k (take (be 4 20 s) (drop 24 s))

-- each number: the checks before it pass, and its own fails
abbrev pub Reads0 : List ℕ → Type 0
Reads0 s = (k : Kind) × Meets k s

abbrev pub Reads1 : List ℕ → Type 0
Reads1 s = (length s < 24) ⊎ ((k : Kind) × (Suited k s × (length s < 24 + be 4 20 s + 4)))

abbrev pub Reads2 : List ℕ → Type 0
Reads2 s = Header s × ((k : Kind) → TypeRule k (be 4 0 s) → ⊥)

abbrev pub Reads3 : List ℕ → Type 0
Reads3 s = (k : Kind) × (Typed k s × (8164 < be 4 20 s))

abbrev pub Reads4 : List ℕ → Type 0
Reads4 s = (k : Kind) × (Short k s × (LengthRule k (be 4 20 s) → ⊥))

abbrev pub Reads5 : List ℕ → Type 0
Reads5 s = (k : Kind) × (There k s × (be 4 (24 + be 4 20 s) s ≡ sum_of (take (24 + be 4 20 s) s) % 256 → ⊥))

abbrev pub Reads6 : List ℕ → Type 0
Reads6 s = (k : Kind) × (Timed k s × (FieldRules k (take (be 4 20 s) (drop 24 s)) → ⊥))

abbrev pub Reads7 : List ℕ → Type 0
Reads7 s = (k : Kind) × (Summed k s × (RealTime (be 8 4 s) → ⊥))

-- the condition of each number; no other is given
abbrev pub Reads : ℕ → List ℕ → Type 0
Reads zero s = Reads0 s
Reads (suc zero) s = Reads1 s
Reads (suc (suc zero)) s = Reads2 s
Reads (suc (suc (suc zero))) s = Reads3 s
Reads (suc (suc (suc (suc zero)))) s = Reads4 s
Reads (suc (suc (suc (suc (suc zero))))) s = Reads5 s
Reads (suc (suc (suc (suc (suc (suc zero)))))) s = Reads6 s
Reads (suc (suc (suc (suc (suc (suc (suc zero))))))) s = Reads7 s
Reads (suc (suc (suc (suc (suc (suc (suc (suc n)))))))) s = ⊥

-- WRITING a message into so much room: 2, 3, 4, 7, 6, 8

pub record WTyped (k : Kind) (m : Message) : Type 0 where
  pub type : TypeRule k m.type

pub record WShort (k : Kind) (m : Message) : Type 0 where
  pub before : WTyped k m
  pub short : length m.content ≤ 8164

pub record WSuited (k : Kind) (m : Message) : Type 0 where
  pub before : WShort k m
  pub suits : LengthRule k (length m.content)

pub record WTimed (k : Kind) (m : Message) : Type 0 where
  pub before : WSuited k m
  pub time : RealTime m.time

pub record WMeets (k : Kind) (m : Message) : Type 0 where
  pub before : WTimed k m
  pub fields : FieldRules k m.content

abbrev pub Writes0 : Message → ℕ → Type 0
Writes0 m room = (k : Kind) × (WMeets k m × (24 + length m.content + 4 ≤ room))

abbrev pub Writes2 : Message → ℕ → Type 0
Writes2 m room = (k : Kind) → TypeRule k m.type → ⊥

abbrev pub Writes3 : Message → ℕ → Type 0
Writes3 m room = (k : Kind) × (WTyped k m × (8164 < length m.content))

abbrev pub Writes4 : Message → ℕ → Type 0
Writes4 m room = (k : Kind) × (WShort k m × (LengthRule k (length m.content) → ⊥))

abbrev pub Writes6 : Message → ℕ → Type 0
Writes6 m room = (k : Kind) × (WTimed k m × (FieldRules k m.content → ⊥))

abbrev pub Writes7 : Message → ℕ → Type 0
Writes7 m room = (k : Kind) × (WSuited k m × (RealTime m.time → ⊥))

abbrev pub Writes8 : Message → ℕ → Type 0
Writes8 m room = (k : Kind) × (WMeets k m × (room < 24 + length m.content + 4))

abbrev pub Writes : ℕ → Message → ℕ → Type 0
Writes zero m room = Writes0 m room
Writes (suc zero) m room = ⊥
Writes (suc (suc zero)) m room = Writes2 m room
Writes (suc (suc (suc zero))) m room = Writes3 m room
Writes (suc (suc (suc (suc zero)))) m room = Writes4 m room
Writes (suc (suc (suc (suc (suc zero))))) m room = ⊥
Writes (suc (suc (suc (suc (suc (suc zero)))))) m room = Writes6 m room
Writes (suc (suc (suc (suc (suc (suc (suc zero))))))) m room = Writes7 m room
Writes (suc (suc (suc (suc (suc (suc (suc (suc zero)))))))) m room = Writes8 m room
Writes (suc (suc (suc (suc (suc (suc (suc (suc (suc n))))))))) m room = ⊥
