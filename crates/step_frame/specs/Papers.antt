-- The answers in the paper's numbers.
use Rattle.std.specs.Prelude.{ℕ, ◌+◌, ◌<◌, ◌≤◌, ◌≡◌, refl, true, false, ◌&&◌, List, [], ◌∷◌, ltb, eqb, length, get_or, ◌⊎◌, ⊤, Option, Some, None, Result, Ok, Err}
use Rattle.std.proofs.Common.{sym, ap, ◌∙◌, arith}
use Rattle.terms.specs.Paper.{Paper, answer, refusal, pick}
use Rattle.step_spec.specs.Pieces.{SOH, until_of}
use Rattle.step_tags.specs.Forms.{fit_row}
use Rattle.step_spec.specs.Fields.{is_field, tag_of, value_of}
use Rattle.step_spec.specs.FieldLaws.{piece}
use Rattle.step_frame.specs.declared.Field.{Field}
use Rattle.step_frame.specs.declared.Fit.{Fit}
use Rattle.step_frame.specs.declared.StepRefusal.{StepRefusal}
use Rattle.step_frame.specs.declared.StepRefusal.TheVariants.{More, Long, Sum, Time, Room, Begin, Length, MsgType, Fields}
use Rattle.step_frame.specs.declared.StepFrame.{StepFrame}
use Rattle.step_frame.specs.declared.Head.{Head}
use Rattle.step_spec.specs.Frame.{body_start, body_length}

-- the place of the first byte b of s
abbrev pub FirstIs : ℕ → List ℕ → Option ℕ → Type 0
FirstIs b s (Some n) = (until_of b s ≡ n) × (n < length s)
FirstIs b s None = until_of b s ≡ length s

-- a field's paper has its tag, the place and the length of its value, and the next place
abbrev pub field_paper : Option Field → Paper
field_paper (Some f) = answer 0 (f.tag ∷ f.value ∷ f.len ∷ f.next ∷ [])
field_paper None = refusal 26

told_field : List ℕ → Option Field
told_field [] = None
told_field (t ∷ vs) = Some (record { tag = t; value = get_or vs 0 0; len = get_or vs 1 0; next = get_or vs 2 0 })

field_told : (r : Option Field) → told_field (field_paper r).values ≡ r
unfolding told_field
field_told (Some f) = refl
field_told None = refl

-- two answers of one paper are one
pub field_one : (x y : Option Field) → field_paper x ≡ field_paper y → x ≡ y
field_one x y e = sym (field_told x) ∙ ap (λ (p : Paper). told_field p.values) e ∙ field_told y

-- the piece at the front of t, which stands behind the place at, is a field, and the row is that of
-- its tag and value
pub record Fitting (at : ℕ) (t : List ℕ) (row next : ℕ) : Type 0 where
  pub found : until_of SOH t < length t
  pub is : is_field (piece t) ≡ true
  pub rows : row ≡ fit_row (tag_of (piece t)) (value_of (piece t))
  pub ends : next ≡ at + until_of SOH t + 1
  pub small : row < 27

-- no field stands at the front of t; or its value is not good, and its row is that of none
abbrev pub FitSays : Option Fit → ℕ → List ℕ → Type 0
FitSays (Some fit) at t = Fitting at t fit.row fit.next
FitSays None at t = ((ltb (until_of SOH t) (length t) && is_field (piece t)) ≡ false)
    ⊎ ((until_of SOH t < length t) × (is_field (piece t) ≡ true) × (fit_row (tag_of (piece t)) (value_of (piece t)) ≡ 27))

-- document 01's and 02's numbers
abbrev pub step_number : StepRefusal → ℕ
step_number More = 1  -- more
step_number Long = 3  -- long
step_number Sum = 5  -- sum
step_number Time = 7  -- time
step_number Room = 8  -- room
step_number Begin = 23  -- begin string
step_number Length = 24  -- length field
step_number MsgType = 25  -- type
step_number Fields = 26  -- fields

pub step_pos : (w : StepRefusal) → step_number w ≡ 0 → ⊥
step_pos More e = omega arith
step_pos Long e = omega arith
step_pos Sum e = omega arith
step_pos Time e = omega arith
step_pos Room e = omega arith
step_pos Begin e = omega arith
step_pos Length e = omega arith
step_pos MsgType e = omega arith
step_pos Fields e = omega arith

abbrev pub check_number : Result ⊤ StepRefusal → ℕ
check_number (Ok _) = 0
check_number (Err w) = step_number w

-- a frame's paper has type, place and length of the fields, and the frame's length
abbrev pub read_paper : Result StepFrame StepRefusal → Paper
read_paper (Ok f) = answer 0 (f.kind ∷ f.place ∷ f.len ∷ f.total ∷ [])
read_paper (Err w) = refusal (step_number w)

-- a body that starts behind the front of s, and its length
pub record Sized (h : Head) (s : List ℕ) : Type 0 where
  pub starts : h.start ≡ body_start s
  pub long : h.len ≡ body_length s
  pub whole : h.start + h.len + 7 ≤ 8192
  pub five : 5 ≤ h.len
  pub there : h.start + 5 ≤ length s

-- what the first checks, which say m together, make of s
abbrev pub HeadSays : Result Head StepRefusal → ℕ → List ℕ → Type 0
HeadSays (Ok h) m s = Sized h s × (m ≡ 0)
HeadSays (Err w) m s = step_number w ≡ m

abbrev pub step_written_paper : Result ℕ StepRefusal → Paper
step_written_paper (Ok n) = answer 0 (n ∷ [])
step_written_paper (Err w) = refusal (step_number w)

-- THE ANSWER FROM ITS PAPER

refusal_told : ℕ → StepRefusal
refusal_told n =
    pick (eqb n 1) More
    (pick (eqb n 3) Long
    (pick (eqb n 5) Sum
    (pick (eqb n 7) Time
    (pick (eqb n 8) Room
    (pick (eqb n 23) Begin
    (pick (eqb n 24) Length
    (pick (eqb n 25) MsgType
    Fields)))))))

refusal_told_lem : (w : StepRefusal) → refusal_told (step_number w) ≡ w
unfolding refusal_told
refusal_told_lem More = refl
refusal_told_lem Long = refl
refusal_told_lem Sum = refl
refusal_told_lem Time = refl
refusal_told_lem Room = refl
refusal_told_lem Begin = refl
refusal_told_lem Length = refl
refusal_told_lem MsgType = refl
refusal_told_lem Fields = refl

told_read : List ℕ → ℕ → Result StepFrame StepRefusal
told_read [] n = Err (refusal_told n)
told_read (k ∷ vs) n = Ok (record { kind = k; place = get_or vs 0 0; len = get_or vs 1 0; total = get_or vs 2 0 })

read_told_lem : (r : Result StepFrame StepRefusal) → told_read (read_paper r).values (read_paper r).number ≡ r
unfolding told_read
read_told_lem (Ok f) = refl
read_told_lem (Err w) = ap Err (refusal_told_lem w)

pub read_one : (x y : Result StepFrame StepRefusal) → read_paper x ≡ read_paper y → x ≡ y
read_one x y e = sym (read_told_lem x) ∙ ap (λ (p : Paper). told_read p.values p.number) e ∙ read_told_lem y

told_written : List ℕ → ℕ → Result ℕ StepRefusal
told_written [] n = Err (refusal_told n)
told_written (k ∷ vs) n = Ok k

written_told : (r : Result ℕ StepRefusal) → told_written (step_written_paper r).values (step_written_paper r).number ≡ r
unfolding told_written
written_told (Ok n) = refl
written_told (Err w) = ap Err (refusal_told_lem w)

pub step_written_one : (x y : Result ℕ StepRefusal) → step_written_paper x ≡ step_written_paper y → x ≡ y
step_written_one x y e = sym (written_told x) ∙ ap (λ (p : Paper). told_written p.values p.number) e ∙ written_told y

-- an answer that is a refusal
abbrev pub StepRefuses : Result ℕ StepRefusal → Type 0
StepRefuses x = (w : StepRefusal) × (x ≡ Err w)
