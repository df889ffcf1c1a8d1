-- A run over the bytes that wait, at the front of the lent store, and the cut: what it counts, and
-- what a call comes to that keeps what it leaves. Assumes nothing.
use Prim.Native.Nat.{ℕ, ◌+◌, ◌-◌, ◌≤◌}
use mathlib.Core.Path.{◌≡◌, ◌∙◌}
use mathlib.Core.Bool.{Bool, true}
use mathlib.Core.List.{List, ◌++◌}
use native.Mathlib.Omega.{arith}
use lib.Dec.{leb}
use lib.ListN.{length, take}
use Rattle.stream_spec.specs.State.{head_of}
use Rattle.stream_spec.specs.Calls.{may_take}
use Rattle.stream_spec.specs.Window.{joined_length, dropped}
use Rattle.stream.specs.declared.Standing.{Standing}
use Rattle.stream.specs.Standing.{whole, fed_of, rest_of, Ready}
use Rattle.stream.specs.Pushed.{waiting_is, rest_stands}
use Rattle.stream_clean_spec.specs.declared.Sums.{Sums}
use Rattle.stream_clean_spec.specs.Runs.{RanIs}
use Rattle.stream_clean_spec.specs.Calls.{washed_for}
use Rattle.stream_clean_spec.specs.CallLaws.{Promised, number_0, rest_short, fits_counted, done_call}
use Rattle.std.specs.Prelude.{Ok}

module _ (st : Standing) (kept cut : List ℕ) (r : Ready st kept (length cut)) (closing : Bool) (d d' : List ℕ) (at : ℕ) (b : Bool) (sums : Sums) (z : RanIs (take st.len kept ++ cut) st.place st.seeking closing d d' at b sums) where
  abbrev w : List ℕ
  w = head_of st.len kept ++ cut

  long : length w ≡ st.len + length cut
  long = joined_length st.len kept cut

  ran : RanIs w st.place st.seeking closing d d' at b sums
  ran = rw (← waiting_is st kept cut r) z

  pub ran_inside : at ≤ st.len + length cut
  ran_inside = omega (arith, ran.inside, long)

  pub ran_counted : (room : ℕ) → leb sums.bytes room ≡ leb (length (washed_for (whole st kept) closing cut)) room
  ran_counted room = fits_counted (whole st kept) closing cut d d' at b sums ran room

  pub ran_done : (store : List ℕ) → store ≡ rest_of st.len at cut kept → leb (length (washed_for (whole st kept) closing cut)) (length d) ≡ true → may_take (whole st kept) (length cut) ≡ 0
      → Promised (whole st kept) closing cut d d' (fed_of (record { answer = Ok sums; next = record { place = st.place + at; seeking = b; closed = closing; len = st.len + length cut - at; tally = st.tally } }) store)
  ran_done store e l m =
      let f = e ∙ rest_stands st kept cut r at ran.inside (rest_short (whole st kept) closing cut d d' at b sums ran) in
      done_call (whole st kept) closing cut d d' at b sums ran store (st.len + length cut - at) f (dropped at (st.len + length cut) w long) l (number_0 (whole st kept) closing cut (length d) m l)
