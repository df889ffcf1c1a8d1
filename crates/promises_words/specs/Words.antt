-- What the promises are said in, in `promises` and the crates beside it.
use Rattle.std.specs.Prelude.{ℕ, ◌≡◌, refl, Bool, true, false, ◌&&◌, ◌||◌, List, leb, Result, Ok, Err}
use contract.Lifetimes.{Lfts}
use borrow.Fn.Kinds.{ParamKind, ResultKind, Dens, res_t, ended_of, Out}
use denote.Triple.Clauses.{AtExit}
use Rattle.terms.specs.Paper.{Paper, pick}
use Rattle.terms.specs.Refusals.{number_of}
use Rattle.terms.specs.declared.Refusal.{Refusal}
use Rattle.terms.specs.declared.Refusal.TheVariants.{More, MsgType, Long, Length, Sum, Field, Time, Room, Place, Range, Repeat, Far, State, Busy, Whole, Unasked, Status, Channel, Closed, Entries, Full, Open, Captures, Sums, Places, Early, Sequence, Over, Again}
use Rattle.terms.specs.Verdicts.{verdict_number}
use Rattle.host_words.specs.Told.{Tells}

-- a list of theorems: naming one that does not stand, or stands unproved, is refused
pub data Named : Type 0 where
  named : Named

-- whatever a function may answer by its promise is told by `what`: its arguments, its answer, what
-- it leaves in lent buffers
abbrev pub Promises : (n : ℕ) (ps : List (ParamKind n)) (r : ResultKind n) → Out n ps r → ((κs : Lfts n) → Dens κs ps → (res_t r κs).Denot → AtExit (ended_of n ps r) κs → Type 0) → Type 0
Promises n ps r post what = (κs : Lfts n) (a : Dens κs ps) (x : (res_t r κs).Denot) (s : AtExit (ended_of n ps r) κs) → post κs a x s → what κs a x s

-- the numbers of document 01's table, 1 to 6, 8 to 18 and 20, and of the requests: 7 (CR 6), 19
-- and 29 (CR 1), 21 and 22 (CR 3), 27 and 28 (CR 11), 30 to 33 (CR 12)
unfoldable pub in_table : ℕ → Bool
in_table n = (leb 1 n && leb n 22) || (leb 27 n && leb n 33)

pub refusal_in_table : (w : Refusal) → in_table (number_of w) ≡ true
unfolding in_table
refusal_in_table More = refl
refusal_in_table MsgType = refl
refusal_in_table Long = refl
refusal_in_table Length = refl
refusal_in_table Sum = refl
refusal_in_table Field = refl
refusal_in_table Time = refl
refusal_in_table Room = refl
refusal_in_table Place = refl
refusal_in_table Range = refl
refusal_in_table Repeat = refl
refusal_in_table Far = refl
refusal_in_table State = refl
refusal_in_table Busy = refl
refusal_in_table Whole = refl
refusal_in_table Unasked = refl
refusal_in_table Status = refl
refusal_in_table Channel = refl
refusal_in_table Closed = refl
refusal_in_table Entries = refl
refusal_in_table Full = refl
refusal_in_table Open = refl
refusal_in_table Captures = refl
refusal_in_table Sums = refl
refusal_in_table Places = refl
refusal_in_table Early = refl
refusal_in_table Sequence = refl
refusal_in_table Over = refl
refusal_in_table Again = refl

-- an answer's number is 0, or one of the table
pub data Numbered : ℕ → Type 0 where
  done : {n : ℕ} → n ≡ 0 → Numbered n
  refused : {n : ℕ} → in_table n ≡ true → Numbered n

-- an answer, whatever it holds: the checks of a message, and every call that refuses
pub verdict_numbered : {T : Type 0} (x : Result T Refusal) → Numbered (verdict_number x)
verdict_numbered (Ok v) = done refl
verdict_numbered (Err w) = refused (refusal_in_table w)

-- a choice between two numbers, and between two papers
pub picked : (b : Bool) (m n : ℕ) → Numbered m → Numbered n → Numbered (pick b m n)
picked true m n p q = p
picked false m n p q = q

pub chosen : (b : Bool) (p q : Paper) → Numbered p.number → Numbered q.number → Numbered (pick b p q).number
chosen true p q h g = h
chosen false p q h g = g

-- so is an answer that a promise of the host allows, where the paper's number is
pub tells_numbered : {p : Paper} {was : List ℕ} {n : ℕ} {row : List ℕ} → Tells p was n row → Numbered p.number → Numbered n
tells_numbered t h = rw t.answered h
