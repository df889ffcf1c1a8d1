-- A stream whose bytes that wait stand in a lent store: what both stand for, and what is asked of
-- them.
use Rattle.std.specs.Prelude.{ℕ, ◌+◌, ◌-◌, ◌≤◌, ◌≡◌, Bool, true, ◌&&◌, List, ◌++◌, leb, length, take, drop, replicate}
use Rattle.terms.specs.Paper.{pick}
use Rattle.octets.specs.Octets.{laid}
use Rattle.stream_spec.specs.declared.Stream.{Stream}
use Rattle.stream_spec.specs.declared.Fed.{Fed}
use Rattle.stream_spec.specs.State.{last_place, head_of, sound_of}
use Rattle.stream_spec.specs.Run.{RanIs}
use Rattle.stream.specs.declared.Standing.{Standing}
use Rattle.stream.specs.declared.Answered.{Answered}
use Rattle.stream.specs.declared.Ran.{Ran}

-- the stream with this store
abbrev pub whole : Standing → List ℕ → Stream
whole st kept = record { place = st.place; seeking = st.seeking; closed = st.closed; len = st.len; kept = kept; tally = st.tally }

-- a call's answer, with the store that it left
abbrev pub fed_of : {T : Type 0} → Answered T → List ℕ → Fed T
fed_of r kept = record { answer = r.answer; stream = whole r.next kept }

-- the answer told from it
abbrev pub answered_of : {T : Type 0} → Fed T → Answered T
answered_of f = record { answer = f.answer; next = record { place = f.stream.place; seeking = f.stream.seeking; closed = f.stream.closed; len = f.stream.len; tally = f.stream.tally } }

-- a store of n bytes: these, and zeros behind them
abbrev pub store_of : ℕ → List ℕ → List ℕ
store_of n s = s ++ replicate (n - length s) 0

-- a store whose first n bytes are 0 now
abbrev pub blank_to : ℕ → List ℕ → List ℕ
blank_to n kept = laid 0 (replicate n 0) kept

-- a store of so much room has n bytes, and takes of them and m more those from a place on
unfoldable pub has_rest : ℕ → ℕ → ℕ → ℕ → Bool
has_rest room n at m = leb n room && (leb at (n + m) && leb (n + m) (at + room))

-- of the first n bytes of a store and the cut behind them those from a place on are kept, in front
-- of zeros up to n; the store as it was, where it has no such bytes or does not take them
unfoldable pub rest_of : ℕ → ℕ → List ℕ → List ℕ → List ℕ
rest_of n at cut kept = pick (has_rest (length kept) n at (length cut)) (laid 0 (drop at (take n kept ++ cut)) (blank_to n kept)) kept

-- behind a run over n bytes
abbrev pub stands_behind : Standing → Ran → ℕ → Bool → Standing
stands_behind st ran n closing = record { place = st.place + ran.at; seeking = ran.seeking; closed = closing; len = n - ran.at; tally = ran.tally }

-- a run over the bytes that wait and the cut
abbrev pub RanOver : Standing → List ℕ → Bool → List ℕ → Ran → Type 0
RanOver st kept closing cut ran = RanIs (head_of st.len kept ++ cut) st.place st.seeking closing st.tally 0 ran.at ran.seeking ran.count ran.tally

-- the stream keeps the rules, and n bytes more may come
pub record Ready (st : Standing) (kept : List ℕ) (n : ℕ) : Type 0 where
  pub size : length kept ≡ 8191
  pub sound : sound_of (whole st kept) ≡ true
  pub fits : st.place + (st.len + n) ≤ last_place
