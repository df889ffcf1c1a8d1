-- In an arm the number is known; in the last it is none of the six. Assumes nothing.
use mathlib.Core.Path.{◌≡◌, refl}
use Rattle.terms.specs.Refusals.{number_of}
use Rattle.terms.specs.declared.Refusal.{Refusal}
use Rattle.terms.specs.declared.Refusal.TheVariants as refusal
use Rattle.session_spec.specs.Faults.{Time, fault_numbered}
use Rattle.session.proofs.fault_of.Goals as goal

last : (w : Refusal) → (w ≡ refusal.More → ⊥) → (w ≡ refusal.MsgType → ⊥) → (w ≡ refusal.Long → ⊥) → (w ≡ refusal.Length → ⊥) → (w ≡ refusal.Sum → ⊥) → (w ≡ refusal.Field → ⊥) → Time ≡ fault_numbered (number_of w)
unfolding fault_numbered
last refusal.More a b c d e f = absurd (a refl)
last refusal.MsgType a b c d e f = absurd (b refl)
last refusal.Long a b c d e f = absurd (c refl)
last refusal.Length a b c d e f = absurd (d refl)
last refusal.Sum a b c d e f = absurd (e refl)
last refusal.Field a b c d e f = absurd (f refl)
last refusal.Time a b c d e f = refl
last refusal.Room a b c d e f = refl
last refusal.Place a b c d e f = refl
last refusal.Range a b c d e f = refl
last refusal.Repeat a b c d e f = refl
last refusal.Far a b c d e f = refl
last refusal.State a b c d e f = refl
last refusal.Busy a b c d e f = refl
last refusal.Whole a b c d e f = refl
last refusal.Unasked a b c d e f = refl
last refusal.Status a b c d e f = refl
last refusal.Channel a b c d e f = refl
last refusal.Closed a b c d e f = refl
last refusal.Entries a b c d e f = refl
last refusal.Full a b c d e f = refl
last refusal.Open a b c d e f = refl
last refusal.Captures a b c d e f = refl
last refusal.Sums a b c d e f = refl
last refusal.Places a b c d e f = refl
last refusal.Early a b c d e f = refl
last refusal.Sequence a b c d e f = refl
last refusal.Over a b c d e f = refl
last refusal.Again a b c d e f = refl

pub returns-in-More : goal.returns-in-More
unfolding fault_numbered
returns-in-More c = rw c.in-More.is

pub returns-in-MsgType : goal.returns-in-MsgType
unfolding fault_numbered
returns-in-MsgType c = rw c.in-MsgType.is

pub returns-in-Long : goal.returns-in-Long
unfolding fault_numbered
returns-in-Long c = rw c.in-Long.is

pub returns-in-Length : goal.returns-in-Length
unfolding fault_numbered
returns-in-Length c = rw c.in-Length.is

pub returns-in-Sum : goal.returns-in-Sum
unfolding fault_numbered
returns-in-Sum c = rw c.in-Sum.is

pub returns-in-Field : goal.returns-in-Field
unfolding fault_numbered
returns-in-Field c = rw c.in-Field.is

pub returns-in_default : goal.returns-in_default
returns-in_default c = let d = c.in_default in last c.args.why d.not-More d.not-MsgType d.not-Long d.not-Length d.not-Sum d.not-Field
