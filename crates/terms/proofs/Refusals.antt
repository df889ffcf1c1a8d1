-- Document 01, "What each number says": the number of each refusal, a row a line.
use Rattle.std.specs.Prelude.{ℕ, ◌≡◌, refl, false, List, eqb}
use Rattle.std.proofs.Common.{sym, ap, ◌∙◌}
use Rattle.std.proofs.lemmas.Bool.{eqb-false}
use Rattle.terms.specs.Paper.{Paper, refusal, pick}
use Rattle.terms.specs.declared.Refusal.{Refusal}
use Rattle.terms.specs.declared.Refusal.TheVariants.{More, MsgType, Long, Length, Sum, Field, Time, Room, Place, Range, Repeat, Far, State, Busy, Whole, Unasked, Status, Channel, Closed, Entries, Full, Open, Captures, Sums, Places, Early, Sequence, Over, Again}
use Rattle.terms.specs.Refusals.{number_of, refusal_of, refusal_not_0, told}

pub refusal_back : (w : Refusal) → refusal_of (number_of w) ≡ w
unfolding refusal_of
refusal_back More = refl
refusal_back MsgType = refl
refusal_back Long = refl
refusal_back Length = refl
refusal_back Sum = refl
refusal_back Field = refl
refusal_back Time = refl
refusal_back Room = refl
refusal_back Place = refl
refusal_back Range = refl
refusal_back Repeat = refl
refusal_back Far = refl
refusal_back State = refl
refusal_back Busy = refl
refusal_back Whole = refl
refusal_back Unasked = refl
refusal_back Status = refl
refusal_back Channel = refl
refusal_back Closed = refl
refusal_back Entries = refl
refusal_back Full = refl
refusal_back Open = refl
refusal_back Captures = refl
refusal_back Sums = refl
refusal_back Places = refl
refusal_back Early = refl
refusal_back Sequence = refl
refusal_back Over = refl
refusal_back Again = refl

-- two refusals of one number are one
pub refusal_one : (v w : Refusal) → number_of v ≡ number_of w → v ≡ w
refusal_one v w e = sym (refusal_back v) ∙ ap refusal_of e ∙ refusal_back w

pub told_refused : {A : Type 0} (done : List ℕ → A) (refused : Refusal → A) (w : Refusal) → told done refused (refusal (number_of w)) ≡ refused w
unfolding told
told_refused done refused w = rw (refusal_not_0 w, refusal_back w)
