-- The calls of a stream that scrubs: what each is answered, the stream after it, and what it leaves
-- in the lent buffer. The state is a stream's (CR 1), of which counts and ledger stay as they are.
use Rattle.std.specs.Prelude.{ℕ, Bool, List, [], ◌∷◌, ◌++◌, eqb, leb, length, get_or, Result, Ok, Err}
use Rattle.std.specs.Result.{result_unwrap_or}
use Rattle.terms.specs.Paper.{Paper, answer, pick}
use Rattle.terms.specs.declared.Refusal.{Refusal}
use Rattle.terms.specs.Refusals.{number_of}
use Rattle.octets.specs.Octets.{laid}
use Rattle.walk_laws.specs.Walk.{Sight}
use Rattle.walk_laws.specs.Waits.{Got, ran_of}
use Rattle.walk_laws.specs.WaitLaws.{mode_of}
use Rattle.stream_spec.specs.declared.Stream.{Stream}
use Rattle.stream_spec.specs.declared.Fed.{Fed}
use Rattle.stream_spec.specs.declared.Tally.{Tally}
use Rattle.stream_spec.specs.State.{head_of}
use Rattle.stream_spec.specs.Calls.{Call, cut_of, closes, behind_of, may_take}
use Rattle.stream_clean_spec.specs.declared.Sums.{Sums}
use Rattle.stream_clean_spec.specs.Wash as Wash
use Rattle.stream_clean_spec.specs.Wash.{Cut, says_by, washed, no_sums, sums_of}

-- ---- what a cut comes to

-- the readings of bytes w, the first of them at the place base, as far as no place waits
abbrev pub got_of : ℕ → Bool → Bool → List ℕ → Got Cut
got_of base seek closing w = ran_of Wash.cut_of (says_by closing) (mode_of seek) base w

-- the readings that the kept bytes and the cut decide
unfoldable pub reads_for : Stream → Bool → List ℕ → List (Sight Cut)
reads_for x closing cut = (got_of x.place x.seeking closing (head_of x.len x.kept ++ cut)).seen

-- their accepted frames, each scrubbed, end to end
abbrev pub washed_for : Stream → Bool → List ℕ → List ℕ
washed_for x closing cut = washed (reads_for x closing cut)

abbrev pub sums_for : Stream → Bool → List ℕ → Sums
sums_for x closing cut = sums_of x.seeking (reads_for x closing cut)

-- the same stream with other counts and another ledger
abbrev pub with_tally : Stream → Tally → Stream
with_tally x t = record { place = x.place; seeking = x.seeking; closed = x.closed; len = x.len; kept = x.kept; tally = t }

-- the stream behind it: CR 1's, but for counts and ledger
unfoldable pub wash_behind : Stream → Bool → List ℕ → Stream
wash_behind x closing cut = with_tally (behind_of x closing cut) x.tally

-- ---- one call, where the buffer has so much room

-- CR 1's refusals first (13, 19, 29), then 8 where the scrubbed frames of this call do
-- not fit
unfoldable pub number_for : Stream → Bool → List ℕ → ℕ → ℕ
number_for x closing cut room =
    pick (eqb (may_take x (length cut)) 0)
    (pick (leb (length (washed_for x closing cut)) room) 0 8)
    (may_take x (length cut))

abbrev pub sums_paper : ℕ → Sums → Paper
sums_paper n s = answer n (s.bytes ∷ s.frames ∷ s.found ∷ s.unjudged ∷ [])

-- the sums that a row of numbers tells
abbrev pub counts_in : List ℕ → Sums
counts_in vs = record { bytes = get_or vs 0 0; frames = get_or vs 1 0; found = get_or vs 2 0; unjudged = get_or vs 3 0 }

-- the number, and what is counted of the frames written
unfoldable pub answer_for : Stream → Bool → List ℕ → ℕ → Paper
answer_for x closing cut room = sums_paper (number_for x closing cut room) (pick (eqb (number_for x closing cut room) 0) (sums_for x closing cut) no_sums)

-- "nothing changes" beside a refusal
unfoldable pub next_for : Stream → Bool → List ℕ → ℕ → Stream
next_for x closing cut room = pick (eqb (number_for x closing cut room) 0) (wash_behind x closing cut) x

unfoldable pub leaves_for : Stream → Bool → List ℕ → List ℕ → List ℕ
leaves_for x closing cut d = pick (eqb (number_for x closing cut (length d)) 0) (laid 0 (washed_for x closing cut) d) d

-- the same by the call
abbrev pub number_to : Stream → Call → ℕ → ℕ
number_to x call room = number_for x (closes call) (cut_of call) room

abbrev pub answer_to : Stream → Call → ℕ → Paper
answer_to x call room = answer_for x (closes call) (cut_of call) room

abbrev pub next_of : Stream → Call → ℕ → Stream
next_of x call room = next_for x (closes call) (cut_of call) room

abbrev pub leaves : Stream → Call → List ℕ → List ℕ
leaves x call d = leaves_for x (closes call) (cut_of call) d

-- ---- the code's answers in numbers

-- number and sums, all 0 beside a refusal
abbrev pub summed_paper : Result Sums Refusal → Paper
summed_paper (Ok s) = sums_paper 0 s
summed_paper (Err w) = sums_paper (number_of w) no_sums

abbrev pub washed_paper : Fed Sums → Paper
washed_paper r = summed_paper r.answer

-- what a call wrote
abbrev pub wrote : Fed Sums → Sums
wrote r = result_unwrap_or r.answer no_sums
