-- "Given exactly when", for reading and writing STEP frames: when each number is given. The
-- conditions are paper 001's and document 02's, over bytes at their places; none cites the function
-- whose answer it explains. A check that bytes to come may still pass is 1; one that none can
-- mend is refused.
use Rattle.std.specs.Prelude.{ℕ, ◌+◌, ◌-◌, ◌%◌, ◌^◌, ◌<◌, ◌≤◌, ◌≡◌, true, false, List, [], ◌∷◌, ◌++◌, length, get_or, take, drop}
use Rattle.octets.specs.Octets.{sum_of}
use Rattle.digits.specs.Digits.{width_of, shown_of}
use Rattle.calendar.specs.Calendar.{RealTime}
use Rattle.step_tags.specs.Table.{among, types}
use Rattle.step_tags.specs.Forms.{is_time, time_of}
use Rattle.step_spec.specs.Pieces.{SOH, pieces}
use Rattle.step_spec.specs.Fields.{begins52}
use Rattle.step_spec.specs.Frame.{begin, length_tag, type_tag, trailer_of}
use Rattle.step_spec.specs.Sound.{piece_at, FieldsSound}

-- the bytes ls stand at the place p of s
abbrev pub At : List ℕ → ℕ → List ℕ → Type 0
At ls p s = drop p s ≡ ls ++ drop (p + length ls) s

-- 23: `8=FIXT.1.1` SOH
abbrev pub Begins : List ℕ → Type 0
Begins s = At begin 0 s

-- 24: `9=`, a length of one to nine digits with no needless zero, SOH
pub record Measures (n : ℕ) (s : List ℕ) : Type 0 where
  pub few : n < 10 ^ 9
  pub text : At (length_tag ++ (shown_of n ++ (SOH ∷ []))) 11 s

-- where a body of n bytes starts and ends
abbrev pub start_of : ℕ → ℕ
start_of n = 14 + width_of n

abbrev pub end_of : ℕ → ℕ
end_of n = start_of n + n

-- 25: a body that has room for it begins `35=`, one of the seven types, SOH
pub record Types (n type : ℕ) (s : List ℕ) : Type 0 where
  pub five : 5 ≤ n
  pub known : among type types ≡ true
  pub text : At (type_tag ++ (type ∷ SOH ∷ [])) (start_of n) s

-- 5: the body is there and ends in SOH, and the trailer behind it has the sum of all
-- bytes before it
pub record Sums (n : ℕ) (s : List ℕ) : Type 0 where
  pub there : end_of n ≤ length s
  pub last : get_or s (end_of n - 1) 0 ≡ SOH
  pub trailer : At (trailer_of (sum_of (take (end_of n) s) % 256)) (end_of n) s

-- the fields behind the type
abbrev pub fields_in : ℕ → List ℕ → List ℕ
fields_in n s = take (n - 5) (drop (start_of n + 5) s)

-- 7: the first piece that begins `52=` has the form of a time, and is none
pub record Unreal (ps : List (List ℕ)) : Type 0 where
  pub at : ℕ
  pub inside : at < length ps
  pub begins : begins52 (piece_at ps at) ≡ true
  pub first : (i : ℕ) → i < at → begins52 (piece_at ps i) ≡ false
  pub shape : is_time (drop 3 (piece_at ps at)) ≡ true
  pub unreal : RealTime (time_of (drop 3 (piece_at ps at))) → ⊥

-- READING: the checks passed so far, in their order

pub record Headed (n : ℕ) (s : List ℕ) : Type 0 where
  pub begins : Begins s
  pub measures : Measures n s

pub record Sized (n : ℕ) (s : List ℕ) : Type 0 where
  pub before : Headed n s
  pub short : end_of n + 7 ≤ 8192

pub record Typed (n type : ℕ) (s : List ℕ) : Type 0 where
  pub before : Sized n s
  pub types : Types n type s

pub record Summed (n type : ℕ) (s : List ℕ) : Type 0 where
  pub before : Typed n type s
  pub sums : Sums n s

pub record Timed (n type : ℕ) (s : List ℕ) : Type 0 where
  pub before : Summed n type s
  pub real : Unreal (pieces (fields_in n s)) → ⊥

-- each number: the checks before it pass, and its own fails for all bytes to come
abbrev pub Given23 : List ℕ → Type 0
Given23 s = (t : List ℕ) → Begins (s ++ t) → ⊥

abbrev pub Given24 : List ℕ → Type 0
Given24 s = Begins s × ((n : ℕ) (t : List ℕ) → Measures n (s ++ t) → ⊥)

abbrev pub Given3 : List ℕ → Type 0
Given3 s = (n : ℕ) × (Headed n s × (8192 < end_of n + 7))

abbrev pub Given25 : List ℕ → Type 0
Given25 s = (n : ℕ) × (Sized n s × ((type : ℕ) (t : List ℕ) → Types n type (s ++ t) → ⊥))

abbrev pub Given5 : List ℕ → Type 0
Given5 s = (n type : ℕ) × (Typed n type s × ((t : List ℕ) → Sums n (s ++ t) → ⊥))

abbrev pub Given7 : List ℕ → Type 0
Given7 s = (n type : ℕ) × (Summed n type s × Unreal (pieces (fields_in n s)))

abbrev pub Given26 : List ℕ → Type 0
Given26 s = (n type : ℕ) × (Timed n type s × (FieldsSound type (fields_in n s) → ⊥))

-- 1: the check in turn does not pass, and would with some bytes behind
pub data Given1 (s : List ℕ) : Type 0 where
  waits_begin : (Begins s → ⊥) → (t : List ℕ) → Begins (s ++ t) → Given1 s
  waits_length : Begins s → ((n : ℕ) → Measures n s → ⊥) → (n : ℕ) (t : List ℕ) → Measures n (s ++ t) → Given1 s
  waits_type : (n : ℕ) → Sized n s → ((type : ℕ) → Types n type s → ⊥) → (type : ℕ) (t : List ℕ) → Types n type (s ++ t) → Given1 s
  waits_sum : (n type : ℕ) → Typed n type s → (Sums n s → ⊥) → (t : List ℕ) → Sums n (s ++ t) → Given1 s

abbrev pub Given0 : List ℕ → Type 0
Given0 s = (n type : ℕ) × (Timed n type s × FieldsSound type (fields_in n s))

-- the numbers that reading gives, and the condition of each; no other is given
pub data Answer : Type 0 where
  n0 : Answer
  n1 : Answer
  n3 : Answer
  n5 : Answer
  n7 : Answer
  n23 : Answer
  n24 : Answer
  n25 : Answer
  n26 : Answer

abbrev pub numeral : Answer → ℕ
numeral n0 = 0
numeral n1 = 1
numeral n3 = 3
numeral n5 = 5
numeral n7 = 7
numeral n23 = 23
numeral n24 = 24
numeral n25 = 25
numeral n26 = 26

abbrev pub Reads : Answer → List ℕ → Type 0
Reads n0 s = Given0 s
Reads n1 s = Given1 s
Reads n3 s = Given3 s
Reads n5 s = Given5 s
Reads n7 s = Given7 s
Reads n23 s = Given23 s
Reads n24 s = Given24 s
Reads n25 s = Given25 s
Reads n26 s = Given26 s

-- WRITING a type and fields into so much room: 3, 25, 7, 26, 8

-- begin string, length field, type, fields and trailer
abbrev pub size_of : List ℕ → ℕ
size_of fs = end_of (length fs + 5) + 7

pub data Writes (r type : ℕ) (fs : List ℕ) (room : ℕ) : Type 0 where
  w_long : r ≡ 3 → 8192 < size_of fs → Writes r type fs room
  w_type : r ≡ 25 → size_of fs ≤ 8192 → among type types ≡ false → Writes r type fs room
  w_time : r ≡ 7 → size_of fs ≤ 8192 → among type types ≡ true → Unreal (pieces fs) → Writes r type fs room
  w_fields : r ≡ 26 → size_of fs ≤ 8192 → among type types ≡ true → (Unreal (pieces fs) → ⊥) → (FieldsSound type fs → ⊥) → Writes r type fs room
  w_room : r ≡ 8 → size_of fs ≤ 8192 → among type types ≡ true → (Unreal (pieces fs) → ⊥) → FieldsSound type fs → room < size_of fs → Writes r type fs room
  w_frame : r ≡ 0 → size_of fs ≤ 8192 → among type types ≡ true → (Unreal (pieces fs) → ⊥) → FieldsSound type fs → size_of fs ≤ room → Writes r type fs room
