-- A row of calls on a stream just opened, refusals among them; what its calls wrote, counted and
-- took; and the theorem's sentences.
use Rattle.std.specs.Prelude.{ℕ, ◌+◌, ◌≤◌, ◌≡◌, Bool, true, false, ◌&&◌, List, [], ◌∷◌, ◌++◌, eqb, length, take, drop}
use Rattle.terms.specs.Paper.{answer, pick}
use Rattle.ledger_spec.specs.State.{or_else}
use Rattle.walk_laws.specs.Walk.{Sight}
use Rattle.reading.specs.declared.Seen.{Seen}
use Rattle.walk_spec.specs.Walk.{frames_of}
use Rattle.clean_spec.specs.Clean.{clean_in, clean_of, found_in, clean_answer}
use Rattle.stream_spec.specs.declared.Stream.{Stream}
use Rattle.stream_spec.specs.declared.Fed.{Fed}
use Rattle.stream_spec.specs.State.{head_of, sound_of, opened}
use Rattle.stream_spec.specs.Calls.{Call, cut_of, closes}
use Rattle.stream_spec.specs.Trace.{Asked, Calls, none, ◌▸◌}
use Rattle.stream_spec.specs.Words.{wait_at, readings}
use Rattle.stream_clean_spec.specs.declared.Sums.{Sums}
use Rattle.stream_clean_spec.specs.Wash.{unjudged_by, no_sums, plus}
use Rattle.stream_clean_spec.specs.Calls.{washed_for, sums_for, number_to, next_of, wrote}
use Rattle.stream_clean_spec.specs.CallLaws.{Promised}

-- the stream after the calls
abbrev pub after : Calls → Stream
after none = opened
after (calls ▸ a) = next_of (after calls) a.call a.room

-- whether one more call is answered 0
abbrev pub accepted : Calls → Asked → Bool
accepted calls a = eqb (number_to (after calls) a.call a.room) 0

-- the bytes written so far, joined
unfoldable pub written : Calls → List ℕ
written none = []
written (calls ▸ a) = written calls ++ pick (accepted calls a) (washed_for (after calls) (closes a.call) (cut_of a.call)) []

-- what was counted so far, added up
unfoldable pub counted : Calls → Sums
counted none = no_sums
counted (calls ▸ a) = plus (counted calls) (pick (accepted calls a) (sums_for (after calls) (closes a.call) (cut_of a.call)) no_sums)

-- the bytes taken so far: those of the calls not refused, joined
unfoldable pub taken : Calls → List ℕ
taken none = []
taken (calls ▸ a) = taken calls ++ pick (accepted calls a) (cut_of a.call) []

-- whether a closing call was not refused
unfoldable pub ended : Calls → Bool
ended none = false
ended (calls ▸ a) = or_else (ended calls) (accepted calls a && closes a.call)

-- x comes of calls of the code on a stream just opened, each meeting its promise
pub data Row : Calls → Stream → Type 0 where
  opening : {x : Stream} → x ≡ opened → Row none x
  one_more : {calls : Calls} {x : Stream} (call : Call) (d d' : List ℕ) (r : Fed Sums) → Row calls x → Promised x (closes call) (cut_of call) d d' r
      → Row (calls ▸ record { call = call; room = length d }) r.stream

-- what a host then has, if it sets aside what each call says it wrote
abbrev pub heard : {calls : Calls} {x : Stream} → Row calls x → List ℕ
heard (opening e) = []
heard (one_more call d d' r row p) = heard row ++ take (wrote r).bytes d'

-- and has counted, if it adds up what each call returns
abbrev pub heard_counts : {calls : Calls} {x : Stream} → Row calls x → Sums
heard_counts (opening e) = no_sums
heard_counts (one_more call d d' r row p) = plus (heard_counts row) (wrote r)

-- ---- the theorem's sentences

-- M101 frames among these readings: their bodies are passed on unjudged
unfoldable pub unjudged_of : List (Sight Seen) → ℕ
unjudged_of [] = 0
unjudged_of (x ∷ xs) = unjudged_by x.read.msg_type + unjudged_of xs

-- of the readings decided (CR 1's `readings`): before the closing call those up to the first place
-- that waits, then all
pub record Arrives (calls : Calls) : Type 0 where
  -- the bytes written are the decided frames, each scrubbed, end to end
  pub bytes : written calls ≡ clean_in (taken calls) (readings (ended calls) (taken calls))
  -- and they are counted as cleaning counts them
  pub length_told : (counted calls).bytes ≡ length (written calls)
  pub frames : (counted calls).frames ≡ frames_of (readings (ended calls) (taken calls))
  pub found : (counted calls).found ≡ found_in 0 (readings (ended calls) (taken calls))
  pub unjudged : (counted calls).unjudged ≡ unjudged_of (readings (ended calls) (taken calls))
  -- at most 8,191 bytes wait: the last of those taken, from the first place that waits on
  pub few : (after calls).len ≤ 8191
  pub keeps_last : head_of (after calls).len (after calls).kept ≡ drop (after calls).place (taken calls)
  pub stands_there : ended calls ≡ false → (after calls).place ≡ wait_at (taken calls)
  -- the state rules hold, so 13 is never returned
  pub rules : sound_of (after calls) ≡ true
  pub closed : (after calls).closed ≡ ended calls

-- after the closing call: what was written is the cleaned capture, and the counts are those that
-- cleaning it returns, in a buffer that takes it
pub record Cleaned (calls : Calls) : Type 0 where
  pub bytes : written calls ≡ clean_of (taken calls)
  pub told : (room : ℕ) → length (clean_of (taken calls)) ≤ room → answer 0 ((counted calls).bytes ∷ (counted calls).frames ∷ (counted calls).found ∷ []) ≡ clean_answer (taken calls) room
  pub none : (after calls).len ≡ 0
