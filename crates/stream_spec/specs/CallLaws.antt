-- Each answer of a call from the facts that lead to it.
use Rattle.std.specs.Prelude.{ℕ, ◌+◌, ◌*◌, ◌/◌, ◌≤◌, ◌≡◌, refl, Bool, true, false, not, List, ◌++◌, leb, Ok}
use Rattle.std.proofs.Math.Path.{sym}
use Rattle.std.proofs.Common.{ap, ◌∙◌, arith, length-append, ⊎_elim}
use Rattle.std.proofs.Math.ListN.{length}
use borrow.Author.Tests.{le-leb, leb-true}
use Rattle.terms.specs.Paper.{pick}
use Rattle.terms.specs.Cases.{two}
use Rattle.walk_laws.specs.Walk.{frame}
use Rattle.walk_laws.specs.Waits.{ran_of}
use Rattle.walk_laws.specs.WaitLaws.{mode_of}
use Rattle.walk_laws.specs.Seen.{wants, readings_few}
use Rattle.walk_laws.specs.Kept.{seen_short}
use Rattle.walk_laws.specs.Closing.{final_frame}
use Rattle.walk_laws.specs.Account.{account_length}
use Rattle.walk_laws.specs.Cuts as Cuts
use Rattle.reading.specs.Seen.{seen_of, says_of}
use Rattle.reading.proofs.SeenLaws.{seen_fits}
use Rattle.walk_spec.specs.Tables.{written_from, written_all}
use Rattle.stream_spec.specs.declared.Stream.{Stream}
use Rattle.stream_spec.specs.declared.Fed.{Fed}
use Rattle.terms.specs.declared.Refusal.{Refusal}
use Rattle.terms.specs.Refusals.{number_of, refusal_not_0, refusal_pos}
use Rattle.stream_spec.specs.Tally.{record_at, tally_after}
use Rattle.stream_spec.specs.State.{last_place, head_of, meant_by, sound_of}
use Rattle.stream_spec.specs.Run.{says_in}
use Rattle.stream_spec.specs.Window.{length_head}
use Rattle.stream_spec.specs.Calls.{given_of, behind_of, may_take, number_for, answer_for, next_for, leaves_for, fed_paper, refused_by}

-- a frame that is read is 28 bytes or more, and all there, at the closing call or before it
in_fits : (closing : Bool) (s : List ℕ) (n : ℕ) → says_in closing (seen_of s) ≡ frame n → (28 ≤ n) × (n ≤ length s)
in_fits true s n e = seen_fits s n (final_frame (says_of (seen_of s)) n e)
in_fits false s n e = seen_fits s n e

wants_none : (seeking : Bool) (w : List ℕ) → wants (mode_of seeking) ≤ length w
wants_none true w = omega arith
wants_none false w = omega arith

-- what goes before the room
module _ (x : Stream) (n : ℕ) where
  pub may_13 : sound_of x ≡ false → may_take x n ≡ 13
  unfolding may_take
  may_13 s = rw s

  pub may_19 : sound_of x ≡ true → x.closed ≡ true → may_take x n ≡ 19
  unfolding may_take
  may_19 s c = rw (s, c)

  pub may_29 : sound_of x ≡ true → x.closed ≡ false → leb (x.place + (x.len + n)) last_place ≡ false → may_take x n ≡ 29
  unfolding may_take
  may_29 s c f = rw (s, c, f)

  pub may_0 : sound_of x ≡ true → x.closed ≡ false → leb (x.place + (x.len + n)) last_place ≡ true → may_take x n ≡ 0
  unfolding may_take
  may_0 s c f = rw (s, c, f)

  -- where nothing of it refuses
  pub may_facts : may_take x n ≡ 0 → (sound_of x ≡ true) × ((x.closed ≡ false) × (x.place + (x.len + n) ≤ last_place))
  may_facts z =
      ⊎_elim
      (λ (s : sound_of x ≡ true).
      ⊎_elim (λ (c : x.closed ≡ true). absurd (omega (arith, z, may_19 s c)))
      (λ (c : x.closed ≡ false).
      ⊎_elim (λ (f : leb (x.place + (x.len + n)) last_place ≡ true). (s, (c, leb-true _ _ f))) (λ (f : leb (x.place + (x.len + n)) last_place ≡ false). absurd (omega (arith, z, may_29 s c f))) (two (leb (x.place + (x.len + n)) last_place)))
      (two x.closed))
      (λ (s : sound_of x ≡ false). absurd (omega (arith, z, may_13 s)))
      (two (sound_of x))

module _ (x : Stream) (closing : Bool) (cut : List ℕ) where
  -- no more than so many bytes can give
  pub given_few : length (given_of x closing cut) ≤ 2 * ((x.len + length cut) / 29) + 2
  unfolding given_of meant_by Cuts.feed_of
  given_few =
      let w = head_of x.len x.kept ++ cut in
      let l : length w ≡ x.len + length cut = simp (length-append, length_head) in
      let a = account_length record_at tally_after x.tally (ran_of seen_of (says_in closing) (mode_of x.seeking) x.place w).seen in
      let s = seen_short seen_of (says_in closing) (mode_of x.seeking) x.place w in
      let f = readings_few seen_of (says_in closing) (λ t n e. (in_fits closing t n e).0) (λ t n e. (in_fits closing t n e).1) (mode_of x.seeking) x.place w (wants_none x.seeking w) in
      rw (a, sym l) (omega (arith, s, f))

  -- whether the room takes them
  module _ (room : ℕ) where
    pub fits_roomy : leb (2 * ((x.len + length cut) / 29) + 2) (room / 64) ≡ true → true ≡ leb (length (given_of x closing cut)) (room / 64)
    fits_roomy e = sym (le-leb (length (given_of x closing cut)) (room / 64) (omega (arith, given_few, leb-true (2 * ((x.len + length cut) / 29) + 2) (room / 64) e)))

  -- the number
  module _ (room : ℕ) where
    pub number_13 : sound_of x ≡ false → number_for x closing cut room ≡ 13
    unfolding number_for
    number_13 s = rw s

    pub number_19 : sound_of x ≡ true → x.closed ≡ true → number_for x closing cut room ≡ 19
    unfolding number_for
    number_19 s c = rw (s, c)

    module _ (s : sound_of x ≡ true) (c : x.closed ≡ false) where
      pub number_29 : leb (x.place + (x.len + length cut)) last_place ≡ false → number_for x closing cut room ≡ 29
      unfolding number_for
      number_29 f = rw (s, c, f)

      module _ (f : leb (x.place + (x.len + length cut)) last_place ≡ true) where
        by_room : number_for x closing cut room ≡ pick (not (leb (length (given_of x closing cut)) (room / 64))) 8 0
        unfolding number_for
        by_room = rw (s, c, f)

        pub number_8 : leb (length (given_of x closing cut)) (room / 64) ≡ false → number_for x closing cut room ≡ 8
        number_8 l = by_room ∙ ap (λ (b : Bool). pick (not b) 8 0) l

        pub number_0 : leb (length (given_of x closing cut)) (room / 64) ≡ true → number_for x closing cut room ≡ 0
        number_0 l = by_room ∙ ap (λ (b : Bool). pick (not b) 8 0) l

    -- the refusals that go before the room
    pub number_refused : (why : Refusal) → number_of why ≡ may_take x (length cut) → number_for x closing cut room ≡ number_of why
    number_refused why e =
        ⊎_elim
        (λ (s : sound_of x ≡ true).
        ⊎_elim (λ (c : x.closed ≡ true). number_19 s c ∙ sym (e ∙ may_19 x (length cut) s c))
        (λ (c : x.closed ≡ false).
        ⊎_elim (λ (f : leb (x.place + (x.len + length cut)) last_place ≡ true). absurd (refusal_pos why (e ∙ may_0 x (length cut) s c f)))
        (λ (f : leb (x.place + (x.len + length cut)) last_place ≡ false). number_29 s c f ∙ sym (e ∙ may_29 x (length cut) s c f))
        (two (leb (x.place + (x.len + length cut)) last_place)))
        (two x.closed))
        (λ (s : sound_of x ≡ false). number_13 s ∙ sym (e ∙ may_13 x (length cut) s))
        (two (sound_of x))

    -- and the room
    module _ (z : may_take x (length cut) ≡ 0) where
      fits : leb (x.place + (x.len + length cut)) last_place ≡ true
      fits = le-leb _ _ (may_facts x (length cut) z).1.1

      pub room_8 : leb (length (given_of x closing cut)) (room / 64) ≡ false → number_for x closing cut room ≡ 8
      room_8 l = let f = may_facts x (length cut) z in number_8 f.0 f.1.0 fits l

      pub room_0 : leb (length (given_of x closing cut)) (room / 64) ≡ true → number_for x closing cut room ≡ 0
      room_0 l = let f = may_facts x (length cut) z in number_0 f.0 f.1.0 fits l

  -- what the code promises of a call whose answer is r and whose buffer d is d' later
  abbrev pub Promised : List ℕ → List ℕ → Fed ℕ → Type 0
  Promised d d' r = (fed_paper r ≡ answer_for x closing cut (length d)) × ((r.stream ≡ next_for x closing cut (length d)) × (d' ≡ leaves_for x closing cut d))

  pub refused_call : (d : List ℕ) (r : Fed ℕ) (why : Refusal) → r ≡ refused_by x why → number_for x closing cut (length d) ≡ number_of why → Promised d d r
  unfolding answer_for next_for leaves_for
  refused_call d r why e n = rw (e, n, refusal_not_0 why) (refl, (refl, refl))

  pub done_with : (d d' : List ℕ) (count : ℕ) (next : Stream) → count ≡ length (given_of x closing cut) → next ≡ behind_of x closing cut → d' ≡ written_from 0 (given_of x closing cut) d → leb (length (given_of x closing cut)) (length d / 64) ≡ true → number_for x closing cut (length d) ≡ 0
      → Promised d d' (record { answer = Ok count; stream = next })
  unfolding answer_for next_for leaves_for
  done_with d d' count next c e w l n =
      rw (n, c) (refl, (e, w ∙ written_all 0 (given_of x closing cut) d (omega (arith, leb-true (length (given_of x closing cut)) (length d / 64) l))))
