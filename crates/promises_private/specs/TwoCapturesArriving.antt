-- CR 13 while a capture arrives (CR 1). Two captures that meet the premise are cut at the same
-- places and fed to two streams: call by call the answers, the records and the numbers told are the
-- same, refused calls among them. What waits is not: the bytes that a stream keeps may be private.
use Rattle.std.specs.Prelude.{ℕ, ◌+◌, ◌-◌, ◌<◌, ◌≤◌, min, ◌≡◌, refl, Bool, ◌&&◌, length, take, drop, eqb}
use Rattle.std.proofs.Math.Path.{sym, ap}
use Rattle.std.proofs.Common.{◌∙◌, ⊎_elim, arith, length-append, take-append-drop, length-take, length-drop, length-take-le, drop_at, take-add, take_all}
use mathlib.Core.List.{List, [], ◌∷◌, ◌++◌, append-nil}
use Rattle.std.proofs.Math.Bool.{true, false}
use Rattle.std.proofs.lemmas.List.{take-append-le}
use Rattle.std.proofs.Math.Seq.{take-append-add}
use Rattle.terms.specs.Cases.{less, clash}
use Rattle.ledger_spec.specs.State.{or_else}
use Rattle.ledger_spec.specs.Calls.{fresh}
use Rattle.walk_laws.specs.Walk.{Says, frame, more, bad, Sight, within, noted}
use Rattle.walk_laws.specs.Waits.{Got, halt, behind, ran_of}
use Rattle.walk_laws.specs.WaitLaws.{ran_end, ran_more, ran_frame}
use Rattle.walk_laws.specs.Frames.{joined}
use Rattle.walk_laws.specs.Account as Account
use Rattle.walk_laws.specs.Account.{account_of}
use Rattle.walk_laws.specs.Closing.{ran_below}
use Rattle.reading.specs.declared.Seen.{Seen}
use Rattle.reading.specs.Seen.{seen_of, says_of}
use Rattle.reading.proofs.SeenLaws.{seen_kept, seen_fits}
use Rattle.walk_spec.specs.Walk.{record_by, book_by, sights}
use Rattle.stream_spec.specs.Calls.{Feed, Close, cut_of, closes, share, number_to, answer_for, answer_to, leaves_for, leaves}
use Rattle.stream_spec.specs.Trace.{Asked, Calls, none, ◌▸◌, after, accepted, given, taken, ended}
use Rattle.stream_spec.specs.Words.{wait_at, decided, readings, tallied, number_told}
use Rattle.stream_spec.proofs.Cuttings.{below_records, every_cutting}
use Rattle.promises_private.specs.TwoCaptures.{Pairwise, no_pair, one_pair, TwoCaptures}

-- CUT AT THE SAME PLACES

-- the next m bytes of a capture behind those taken so far, with so much room for records; and the
-- closing call
abbrev pub next_cut : List ℕ → Calls → ℕ → ℕ → Asked
next_cut s calls m room = record { call = Feed (take m (drop (length (taken calls)) s)); room = room }

abbrev pub closing : ℕ → Asked
closing room = record { call = Close; room = room }

-- the calls of two hosts, one by one, refused ones among them: each is lent the next m bytes of its
-- capture; the closing call comes once all are taken
pub data CutAlike (s t : List ℕ) : Calls → Calls → Type 0 where
  no_cut : CutAlike s t none none
  one_cut : {c d : Calls} (m room : ℕ) → CutAlike s t c d → CutAlike s t (c ▸ next_cut s c m room) (d ▸ next_cut t d m room)
  the_end : {c d : Calls} (room : ℕ) → taken c ≡ s → taken d ≡ t → CutAlike s t c d → CutAlike s t (c ▸ closing room) (d ▸ closing room)

-- what a call is answered, how many records it gives among it, and the bytes that it leaves in the
-- buffer lent with it
pub record SameCall (c d : Calls) (a b : Asked) : Type 0 where
  pub same_answer : answer_to (after c) a.call a.room ≡ answer_to (after d) b.call b.room
  pub same_buffer : (buf : List ℕ) → length buf ≡ a.room → leaves (after c) a.call buf ≡ leaves (after d) b.call buf

-- WHAT IS EQUAL after such calls: the records given so far, counts and ledger, how many bytes are
-- taken; and all that the next call tells
pub record SameArriving (s t : List ℕ) (c d : Calls) : Type 0 where
  pub same_given : given c ≡ given d
  pub same_tally : (after c).tally ≡ (after d).tally
  pub same_ended : ended c ≡ ended d
  pub as_many : length (taken c) ≡ length (taken d)
  pub next_cut_holds : (m room : ℕ) → SameCall c d (next_cut s c m room) (next_cut t d m room)
  pub at_end : (room : ℕ) → taken c ≡ s → taken d ≡ t → SameCall c d (closing room) (closing room)

-- THE RUN

abbrev pub got : ℕ → List ℕ → Got Seen
got p s = ran_of seen_of says_of (within 0) p s

pub record Alike (g h : Got Seen) : Type 0 where
  pub seen : g.seen ≡ h.seen
  pub place : g.place ≡ h.place
