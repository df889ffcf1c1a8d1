-- Each answer of a call from the facts that lead to it.
use Rattle.std.specs.Prelude.{ℕ, ◌+◌, ◌-◌, ◌≤◌, ◌≡◌, refl, Bool, true, false, List, ◌++◌, leb, length, drop, replicate, Ok}
use Rattle.std.proofs.Common.{sym, ◌∙◌, arith}
use Rattle.std.proofs.Math.Path.{ap}
use borrow.Author.Tests.{le-leb, leb-true}
use Rattle.terms.specs.declared.Refusal.{Refusal}
use Rattle.terms.specs.Refusals.{number_of, refusal_not_0}
use Rattle.stream_spec.specs.declared.Stream.{Stream}
use Rattle.stream_spec.specs.declared.Fed.{Fed}
use Rattle.stream_spec.specs.State.{head_of, meant_by, value_of}
use Rattle.stream_spec.specs.Calls.{feed_of, behind_of, may_take, refused_by}
use Rattle.stream_clean_spec.specs.declared.Sums.{Sums}
use Rattle.stream_clean_spec.specs.Wash.{sums_of, lays}
use Rattle.stream_clean_spec.specs.Calls.{got_of, reads_for, washed_for, sums_for, wash_behind, number_for, answer_for, next_for, leaves_for, washed_paper}
use Rattle.stream_clean_spec.specs.LayLaws.{washed_length, lays_all}
use Rattle.stream_clean_spec.specs.Runs.{RanIs}
use Rattle.stream_clean_spec.specs.CutLaws.{bounds, washed_short, meant_run, seeking_is}

reads_is : (x : Stream) (closing : Bool) (cut : List ℕ) → reads_for x closing cut ≡ (got_of x.place x.seeking closing (head_of x.len x.kept ++ cut)).seen
unfolding reads_for
reads_is x closing cut = refl

-- THE NUMBER
module _ (x : Stream) (closing : Bool) (cut : List ℕ) where
  -- whether the room takes the frames
  pub fits_roomy : (room : ℕ) → x.len + length cut ≤ room → true ≡ leb (length (washed_for x closing cut)) room
  fits_roomy room h = sym (le-leb (length (washed_for x closing cut)) room (omega (arith, washed_short x closing cut)))

  module _ (room : ℕ) where
    pub number_refused : (why : Refusal) → number_of why ≡ may_take x (length cut) → number_for x closing cut room ≡ number_of why
    unfolding number_for
    number_refused why e = rw (← e, refusal_not_0 why)

    module _ (z : may_take x (length cut) ≡ 0) where
      pub number_8 : leb (length (washed_for x closing cut)) room ≡ false → number_for x closing cut room ≡ 8
      unfolding number_for
      number_8 f = rw (z, f)

      pub number_0 : leb (length (washed_for x closing cut)) room ≡ true → number_for x closing cut room ≡ 0
      unfolding number_for
      number_0 f = rw (z, f)

  -- what the code promises of a call whose answer is r and whose buffer d is d' later
  abbrev pub Promised : List ℕ → List ℕ → Fed Sums → Type 0
  Promised d d' r = (washed_paper r ≡ answer_for x closing cut (length d)) × ((r.stream ≡ next_for x closing cut (length d)) × (d' ≡ leaves_for x closing cut d))

  pub refused_call : (d : List ℕ) (r : Fed Sums) (why : Refusal) → r ≡ refused_by x why → number_for x closing cut (length d) ≡ number_of why → Promised d d r
  unfolding answer_for next_for leaves_for
  refused_call d r why e n = rw (e, n, refusal_not_0 why) (refl, (refl, refl))

-- THE RUN OF A CALL over the kept bytes and the cut, where what it leaves is kept in front of zeros
module _ (x : Stream) (closing : Bool) (cut d d' : List ℕ) (at : ℕ) (b : Bool) (sums : Sums) (z : RanIs (head_of x.len x.kept ++ cut) x.place x.seeking closing d d' at b sums) where
  abbrev w : List ℕ
  w = head_of x.len x.kept ++ cut

  rest : (feed_of closing (meant_by x) cut).stream.kept ≡ drop at w
  rest = (meant_run x closing cut).1.1 ∙ z.kept

  pub rest_short : length (drop at w) ≤ 8191
  unfolding wash_behind behind_of value_of
  rest_short = rw (← rest) (bounds x closing cut).0

  summed_is : sums ≡ sums_for x closing cut
  summed_is = z.summed ∙ ap (sums_of x.seeking) (sym (reads_is x closing cut))

  next_is : (kept : List ℕ) (n : ℕ) → kept ≡ drop at w ++ replicate (8191 - length (drop at w)) 0 → n ≡ length (drop at w)
      → ◌≡◌ {A = Stream} (record { place = x.place + at; seeking = b; closed = closing; len = n; kept = kept; tally = x.tally }) (wash_behind x closing cut)
  unfolding wash_behind behind_of value_of
  next_is kept n f g =
      let m = meant_run x closing cut in
      rw (m.0 ∙ z.mode, m.1.0 ∙ z.place, rest, seeking_is b, f, g)

  -- it counts whether the room takes the frames
  pub fits_counted : (room : ℕ) → leb sums.bytes room ≡ leb (length (washed_for x closing cut)) room
  fits_counted room = ap (λ (n : ℕ). leb n room) (ap (λ (t : Sums). t.bytes) summed_is ∙ washed_length x.seeking (reads_for x closing cut))

  pub done_call : (kept : List ℕ) (n : ℕ) → kept ≡ drop at w ++ replicate (8191 - length (drop at w)) 0 → n ≡ length (drop at w) → leb (length (washed_for x closing cut)) (length d) ≡ true → number_for x closing cut (length d) ≡ 0
      → Promised x closing cut d d' (record { answer = Ok sums; stream = record { place = x.place + at; seeking = b; closed = closing; len = n; kept = kept; tally = x.tally } })
  unfolding answer_for next_for leaves_for
  done_call kept n f g l o =
      let t : d' ≡ lays 0 (reads_for x closing cut) d = z.written ∙ ap (λ r. lays 0 r d) (sym (reads_is x closing cut)) in
      rw (o, summed_is) (refl, (next_is kept n f g, t ∙ lays_all 0 (reads_for x closing cut) d (omega (arith, leb-true (length (washed_for x closing cut)) (length d) l))))
