-- What a call's run comes to: the stream behind its cut, how many records there are, and what they
-- leave in the buffer.
use Rattle.std.specs.Prelude.{ℕ, ◌+◌, ◌-◌, ◌/◌, ◌≤◌, ◌<◌, ◌^◌, ◌≡◌, refl, Bool, true, List, ◌++◌, leb, length, take, drop, Ok}
use Rattle.std.proofs.Common.{sym, ap, ◌∙◌, arith, zero-add, length-append, length-drop, length-take-le}
use Rattle.walk_spec.specs.Tables.{written_from}
use Rattle.stream_spec.specs.declared.Stream.{Stream}
use Rattle.stream_spec.specs.declared.Fed.{Fed}
use Rattle.stream_spec.specs.State.{head_of}
use Rattle.stream_spec.specs.StateLaws.{sound_checked}
use Rattle.stream_spec.specs.Calls.{given_of, behind_of, number_for, may_take}
use Rattle.stream_spec.specs.Window.{joined_length, dropped, kept_few, given_is, behind_is}
use Rattle.stream_spec.specs.CutLaws.{head_take}
use Rattle.stream_spec.specs.CallLaws.{Promised, done_with, may_facts}
use Rattle.stream_spec.specs.Answers.{fed_same}
use Rattle.stream.specs.declared.Standing.{Standing}
use Rattle.stream.specs.declared.Ran.{Ran}
use Rattle.stream.specs.Standing.{whole, store_of, rest_of, stands_behind, RanOver, Ready}
use Rattle.stream.specs.StoreLaws.{rest_store}

-- f tells how many records a cut gave, and the stream behind it; the buffer d is d' later
pub record PushedIs (x : Stream) (closing : Bool) (cut d d' : List ℕ) (f : Fed ℕ) : Type 0 where
  pub stream : f.stream ≡ behind_of x closing cut
  pub counted : f.answer ≡ Ok (length (given_of x closing cut))
  pub written : d' ≡ written_from 0 (given_of x closing cut) d

module _ (x : Stream) (closing : Bool) (cut d d' : List ℕ) (f : Fed ℕ) (p : PushedIs x closing cut d d' f) where
  pub done_call : leb (length (given_of x closing cut)) (length d / 64) ≡ true → number_for x closing cut (length d) ≡ 0 → Promised x closing cut d d' f
  done_call l n =
      rw (fed_same f (record { answer = Ok (length (given_of x closing cut)); stream = behind_of x closing cut }) p.counted p.stream)
      (done_with x closing cut d d' _ _ refl refl p.written l n)

-- as many records as the cut gives
pub ran_counted : (st : Standing) (kept : List ℕ) (closing : Bool) (cut : List ℕ) (ran : Ran) → RanOver st kept closing cut ran → ran.count ≡ length (given_of (whole st kept) closing cut)
ran_counted st kept closing cut ran z = z.counted ∙ zero-add _ ∙ ap length (given_is (whole st kept) closing cut (head_of st.len kept ++ cut) refl)

-- A STREAM THAT KEEPS THE RULES, and a cut

pub may_ready : (st : Standing) (kept : List ℕ) (n : ℕ) → length kept ≡ 8191 → may_take (whole st kept) n ≡ 0 → Ready st kept n
may_ready st kept n l z = let f = may_facts (whole st kept) n z in record { size = l; sound = f.0; fits = f.1.1 }

module _ (st : Standing) (kept cut : List ℕ) (r : Ready st kept (length cut)) where
  pub few : st.len ≤ length kept
  few = omega (arith, r.size, (sound_checked (whole st kept) r.sound).few)

  pub waiting_long : length (take st.len kept) ≡ st.len
  waiting_long = length-take-le st.len kept few

  pub waiting_is : take st.len kept ≡ head_of st.len kept
  waiting_is = sym (head_take st.len kept few)

  -- what a run may count on
  pub ready_run : (st.place + length (take st.len kept ++ cut) < 2 ^ 64) × (st.tally.frames + st.tally.refused ≤ st.place)
  ready_run = (omega (arith, length-append (take st.len kept) cut, waiting_long, r.fits), (sound_checked (whole st kept) r.sound).counts)

  -- A RUN over the bytes that wait and the cut
  abbrev w : List ℕ
  w = head_of st.len kept ++ cut

  long : length w ≡ st.len + length cut
  long = joined_length st.len kept cut

  -- what waits behind a place is kept, where it is short enough for the store
  pub rest_stands : (at : ℕ) → at ≤ length w → length (drop at w) ≤ 8191 → rest_of st.len at cut kept ≡ store_of 8191 (drop at w)
  rest_stands at h f = rest_store st.len at cut kept few (sound_checked (whole st kept) r.sound).blank (omega (arith, long, h)) (omega (arith, long, f, length-drop at w, r.size)) ∙ rw r.size

  module _ (closing : Bool) (ran : Ran) (z : RanOver st kept closing cut ran) where
    -- it stops within them
    pub ran_inside : ran.at ≤ st.len + length cut
    ran_inside = omega (arith, long, z.inside)

    -- it and what is kept behind it are the call
    pub ran_pushed : (d d' : List ℕ) (next : List ℕ) → d' ≡ written_from 0 (given_of (whole st kept) closing cut) d → next ≡ rest_of st.len ran.at cut kept
        → PushedIs (whole st kept) closing cut d d' (record { answer = Ok ran.count; stream = whole (stands_behind st ran (st.len + length cut) closing) next })
    ran_pushed d d' next g e =
        record {
          stream = behind_is (whole st kept) closing cut w refl 0 ran.at ran.seeking ran.count ran.tally next (st.len + length cut - ran.at) z (e ∙ rest_stands ran.at z.inside (kept_few _ _ _ _ _ _ _ _ _ _ z)) (dropped ran.at (st.len + length cut) w long);
          counted = ap Ok (ran_counted st kept closing cut ran z);
          written = g;
        }
