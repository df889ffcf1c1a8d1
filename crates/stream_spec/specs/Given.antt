-- When a call on any stream, sound or not, is answered 0, 8, 19 or 29: a record for each number.
-- The checks before it in their order pass, and its own fails. proofs/Given.antt proves each by a
-- theorem `given_N`, both ways.
use Rattle.std.specs.Prelude.{ℕ, ◌+◌, ◌*◌, ◌≤◌, ◌<◌, ◌≡◌, true, false, length}
use Rattle.stream_spec.specs.declared.Stream.{Stream}
use Rattle.stream_spec.specs.State.{last_place, StreamRules}
use Rattle.stream_spec.specs.Calls.{Call, cut_of, share}

-- 19: "any call after the closing one"
pub record Given19 (x : Stream) : Type 0 where
  pub rules : StreamRules x
  pub ended : x.closed ≡ true

-- 29: "places would pass 64 bits"; the end is a place too
pub record Given29 (x : Stream) (call : Call) : Type 0 where
  pub rules : StreamRules x
  pub unended : x.closed ≡ false
  pub far : last_place < x.place + (x.len + length (cut_of call))

-- 8: "this call's records don't fit", of 64 bytes each
pub record Given8 (x : Stream) (call : Call) (room : ℕ) : Type 0 where
  pub rules : StreamRules x
  pub unended : x.closed ≡ false
  pub near : x.place + (x.len + length (cut_of call)) ≤ last_place
  pub full : room < 64 * length (share x call)

pub record Given0 (x : Stream) (call : Call) (room : ℕ) : Type 0 where
  pub rules : StreamRules x
  pub unended : x.closed ≡ false
  pub near : x.place + (x.len + length (cut_of call)) ≤ last_place
  pub takes : 64 * length (share x call) ≤ room
