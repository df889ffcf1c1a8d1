-- When a call of a stream that scrubs gives 8 and 0. When it gives 13, 19 and 29 is said of every
-- stream (stream_spec, specs/Given.antt).
use Rattle.std.specs.Prelude.{ℕ, ◌+◌, ◌≤◌, ◌<◌, ◌≡◌, false, length}
use Rattle.stream_spec.specs.declared.Stream.{Stream}
use Rattle.stream_spec.specs.State.{last_place, StreamRules}
use Rattle.stream_spec.specs.Calls.{Call, cut_of, closes}
use Rattle.stream_clean_spec.specs.Calls.{washed_for}

-- 8: the scrubbed frames that this call decides do not fit
pub record Given8 (x : Stream) (call : Call) (room : ℕ) : Type 0 where
  pub rules : StreamRules x
  pub unended : x.closed ≡ false
  pub near : x.place + (x.len + length (cut_of call)) ≤ last_place
  pub full : room < length (washed_for x (closes call) (cut_of call))

pub record Given0 (x : Stream) (call : Call) (room : ℕ) : Type 0 where
  pub rules : StreamRules x
  pub unended : x.closed ≡ false
  pub near : x.place + (x.len + length (cut_of call)) ≤ last_place
  pub takes : length (washed_for x (closes call) (cut_of call)) ≤ room
