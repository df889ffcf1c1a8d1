-- CR 13 while a capture arrives (CR 1). Two captures that meet the premise are cut at the same
-- places and fed to two streams: call by call the answers, the records and the numbers told are the
-- same, refused calls among them. What waits is not: the bytes that a stream keeps may be private.
use Rattle.std.specs.Prelude.{ℕ, ◌+◌, ◌-◌, ◌<◌, ◌≤◌, min, ◌≡◌, refl, Bool, ◌&&◌, length, take, drop, eqb}
use Rattle.std.proofs.Math.Path.{sym, ap}
use Rattle.std.proofs.Common.{◌∙◌, ⊎_elim, arith, length-append, take-append-drop, length-take, length-drop, length-take-le, drop_at, take-add, take_all}
use mathlib.Core.List.{List, [], ◌∷◌, ◌++◌, append-nil}
use Rattle.std.proofs.Math.Bool.{true, false}
use Rattle.std.proofs.lemmas.List.{take-append-le}
use Rattle.std.proofs.Math.Seq.{take-append-add}
use Rattle.terms.specs.Cases.{less, clash}
use Rattle.ledger_spec.specs.State.{or_else}
use Rattle.ledger_spec.specs.Calls.{fresh}
use Rattle.walk_laws.specs.Walk.{Says, frame, more, bad, Sight, within, noted}
use Rattle.walk_laws.specs.Waits.{Got, halt, behind, ran_of}
use Rattle.walk_laws.specs.WaitLaws.{ran_end, ran_more, ran_frame}
use Rattle.walk_laws.specs.Frames.{joined}
use Rattle.walk_laws.specs.Account as Account
use Rattle.walk_laws.specs.Account.{account_of}
use Rattle.walk_laws.specs.Closing.{ran_below}
use Rattle.reading.specs.declared.Seen.{Seen}
use Rattle.reading.specs.Seen.{seen_of, says_of}
use Rattle.reading.proofs.SeenLaws.{seen_kept, seen_fits}
use Rattle.walk_spec.specs.Walk.{record_by, book_by, sights}
use Rattle.stream_spec.specs.Calls.{Feed, Close, cut_of, closes, share, number_to, answer_for, answer_to, leaves_for, leaves}
use Rattle.stream_spec.specs.Trace.{Asked, Calls, none, ◌▸◌, after, accepted, given, taken, ended}
use Rattle.stream_spec.specs.Words.{wait_at, decided, readings, tallied, number_told}
use Rattle.stream_spec.proofs.Cuttings.{below_records, every_cutting}
use Rattle.promises_private.specs.TwoCaptures.{Pairwise, no_pair, one_pair, TwoCaptures}
use Rattle.promises_private.proofs.TwoCapturesHold.{second_frame, same_seen, first_frame, same_sights, same_long}
use Rattle.promises_private.specs.TwoCapturesArriving.{got, Alike, SameCall, next_cut, closing, no_cut, one_cut, CutAlike, the_end, SameArriving}

-- PROOF

-- A FRONT OF A FRAME WAITS: an answer but 1 would stay when the rest follows, and be the frame's

front_waits : (f : List ℕ) (n : ℕ) → says_of (seen_of f) ≡ frame (length f) → n < length f → says_of (seen_of (take n f)) ≡ more
front_waits f n e l = by (says_of (seen_of (take n f))) refl
  where
    whole : (says_of (seen_of (take n f)) ≡ more → ⊥) → frame (length f) ≡ says_of (seen_of (take n f))
    whole un = sym e ∙ ap (λ (g : List ℕ). says_of (seen_of g)) (sym (take-append-drop n f)) ∙ ap says_of (seen_kept (take n f) (drop n f) un)

    by : (w : Says) → says_of (seen_of (take n f)) ≡ w → says_of (seen_of (take n f)) ≡ more
    by more q = q
    by bad q =
        let un : says_of (seen_of (take n f)) ≡ more → ⊥ = λ r. (let z : ◌≡◌ {A = ℕ} 0 1 = cc in omega arith) in
        let h : frame (length f) ≡ bad = whole un ∙ q in
        absurd (let z : ◌≡◌ {A = ℕ} 0 1 = cc in omega arith)
    by (frame m) q =
        let un : says_of (seen_of (take n f)) ≡ more → ⊥ = λ r. (let z : ◌≡◌ {A = ℕ} 0 1 = cc in omega arith) in
        let h : frame (length f) ≡ frame m = whole un ∙ q in
        let k : length f ≡ m = cc in
        absurd (omega (arith, (seen_fits (take n f) m q).1, length-take-le n f (omega arith)))

-- one frame read, and on behind it
one_read : (p : ℕ) (f t : List ℕ) → says_of (seen_of f) ≡ frame (length f)
    → got p (f ++ t) ≡ behind (record { place = p; read = seen_of f } ∷ []) (got (p + length f) t)
unfolding noted
one_read p f t e =
    let fits = seen_fits f (length f) e in
    let z : p + 0 ≡ p = omega arith in
    let y : 0 + length f ≡ length f = omega arith in
    let un : says_of (seen_of f) ≡ more → ⊥ = λ r. (let h : frame (length f) ≡ more = sym e ∙ r in let z : ◌≡◌ {A = ℕ} 0 1 = cc in omega arith) in
    let k = seen_kept f t un in
    let long : length (f ++ t) ≡ length f + length t = length-append f t in
    let q = ran_frame seen_of says_of false p 0 (f ++ t) (omega (arith, long, fits.0)) (length f) (omega (arith, fits.0)) (omega (arith, long)) (ap says_of k ∙ e) in
    rw (z, y, drop_at f t (length f) refl, k) at q

-- a front of one frame is not read
one_waits : (p n : ℕ) (f t : List ℕ) → says_of (seen_of f) ≡ frame (length f) → n < length f → got p (take n (f ++ t)) ≡ halt (within 0) p (take n f)
one_waits p n f t e l =
    let z : p + 0 ≡ p = omega arith in
    let c : length (take n f) ≡ n = length-take-le n f (omega arith) in
    rw (take-append-le n f t (omega arith))
    (⊎_elim (λ (h : 0 < n). rw z at (ran_more seen_of says_of false p 0 (take n f) (rw c h) (front_waits f n e l)))
    (λ (h : n ≤ 0). let k : n ≡ 0 = omega arith in rw k (rw z at (ran_end seen_of says_of false p 0 [] (omega arith))))
    (less 0 n))

fronts : (p n : ℕ) (fs gs : List (List ℕ)) → Pairwise fs gs → Alike (got p (take n (joined fs))) (got p (take n (joined gs)))
unfolding joined
fronts p n fs gs no_pair = record { seen = refl; place = refl }
fronts p n fs gs (one_pair {f = f} {g = g} {fs = fs'} {gs = gs'} e r) =
    let a = first_frame f g e in
    let b = second_frame f g e in
    let same : length f ≡ length g = e.as_long in
    ⊎_elim
    (λ (l : n < length f). rw (one_waits p n f (joined fs') a l, one_waits p n g (joined gs') b (rw same at l)) (record { seen = refl; place = refl }))
    (λ (l : length f ≤ n).
    let i : length f + (n - length f) ≡ n = omega arith in
    let j : length g + (n - length f) ≡ n = omega arith in
    let u : take n (f ++ joined fs') ≡ f ++ take (n - length f) (joined fs') = ap (λ (k : ℕ). take k (f ++ joined fs')) (sym i) ∙ take-append-add f (joined fs') (n - length f) in
    let v : take n (g ++ joined gs') ≡ g ++ take (n - length f) (joined gs') = ap (λ (k : ℕ). take k (g ++ joined gs')) (sym j) ∙ take-append-add g (joined gs') (n - length f) in
    let ih = fronts (p + length g) (n - length g) fs' gs' r in
    rw (u, v, one_read p f (take (n - length f) (joined fs')) a, one_read p g (take (n - length f) (joined gs')) b, same, same_seen f g e)
    (record { seen = ap (λ (x : List (Sight Seen)). record { place = p; read = seen_of g } ∷ x) ih.seen; place = ih.place }))
    (less n (length f))

-- a front is as long as itself
take_self : (n : ℕ) (u : List ℕ) → take n u ≡ take (length (take n u)) u
take_self n u =
    ⊎_elim (λ (l : n < length u). ap (λ (k : ℕ). take k u) (sym (length-take-le n u (omega arith))))
    (λ (l : length u ≤ n). let e = take_all n u l in e ∙ sym (take_all (length (take n u)) u (rw e (omega arith))))
    (less n (length u))

or_false : (a : Bool) → or_else a false ≡ a
or_false true = refl
or_false false = refl

-- bytes taken, by one more call
module _ (c : Calls) (a : Asked) where
  took : accepted c a ≡ true → taken (c ▸ a) ≡ taken c ++ cut_of a.call
  unfolding taken
  took e = rw e

  left : accepted c a ≡ false → taken (c ▸ a) ≡ taken c
  unfolding taken
  left e = rw (e, append-nil (taken c))

  ends_by : (v : Bool) → accepted c a ≡ v → ended (c ▸ a) ≡ or_else (ended c) (v && closes a.call)
  unfolding ended
  ends_by v e = rw e

-- what one more call is answered and leaves in its buffer, where what was given is the same before
-- it and behind it
module _ (c d : Calls) (a b : Asked) (same : a.room ≡ b.room) (before : given c ≡ given d) (behind-it : given (c ▸ a) ≡ given (d ▸ b)) (number : number_to (after c) a.call a.room ≡ number_to (after d) b.call b.room) where
  gave : (e : Calls) (f : Asked) → accepted e f ≡ true → given (e ▸ f) ≡ given e ++ share (after e) f.call
  unfolding given
  gave e f p = rw p

  share_same : accepted c a ≡ true → accepted d b ≡ true → share (after c) a.call ≡ share (after d) b.call
  share_same p q =
      sym (drop_at (given c) (share (after c) a.call) (length (given d)) (ap length before))
      ∙ ap (drop (length (given d))) (sym (gave c a p) ∙ behind-it ∙ gave d b q)
      ∙ drop_at (given d) (share (after d) b.call) (length (given d)) refl

  answer_by : (v : Bool) → accepted c a ≡ v → accepted d b ≡ v → answer_to (after c) a.call a.room ≡ answer_to (after d) b.call b.room
  unfolding answer_for
  answer_by true p q = rw (p, q, share_same p q, number)
  answer_by false p q = rw (p, q, number)

  buffer_by : (buf : List ℕ) → length buf ≡ a.room → (v : Bool) → accepted c a ≡ v → accepted d b ≡ v → leaves (after c) a.call buf ≡ leaves (after d) b.call buf
  unfolding leaves_for
  buffer_by buf l true p q = rw (l, p) (rw (same, q, share_same p q))
  buffer_by buf l false p q = rw (l, p) (rw (same, q))

  one_call : SameCall c d a b
  one_call =
      let q : accepted d b ≡ accepted c a = ap (λ (n : ℕ). eqb n 0) (sym number) in
      record { same_answer = answer_by (accepted c a) refl q; same_buffer = λ buf l. buffer_by buf l (accepted c a) refl q }

module _ (s t : List ℕ) (long : length s ≡ length t) (whole : sights s ≡ sights t) (cut : (n : ℕ) → Alike (got 0 (take n s)) (got 0 (take n t))) where
  -- the invariant: fronts of the two, equally long; all of them once closed
  record Fronts (c d : Calls) : Type 0 where
    first : taken c ≡ take (length (taken c)) s
    second : taken d ≡ take (length (taken d)) t
    as_many : length (taken c) ≡ length (taken d)
    ends : ended c ≡ ended d
    all_first : ended c ≡ true → taken c ≡ s
    all_second : ended c ≡ true → taken d ≡ t

  same_readings : (n : ℕ) → readings false (take n s) ≡ readings false (take n t)
  unfolding readings
  same_readings n = sym (ran_below seen_of says_of (within 0) 0 (take n s)) ∙ (cut n).seen ∙ ran_below seen_of says_of (within 0) 0 (take n t)

  same_decided : (n : ℕ) → decided false (take n s) ≡ decided false (take n t)
  unfolding decided readings Account.walk_of
  same_decided n =
      sym (below_records (wait_at (take n s)) (fresh 100) (sights (take n s)))
      ∙ ap (λ (xs : List (Sight Seen)). (account_of record_by book_by (fresh 100) xs).records) (same_readings n)
      ∙ below_records (wait_at (take n t)) (fresh 100) (sights (take n t))

  same_closed : decided true s ≡ decided true t
  unfolding decided Account.walk_of
  same_closed = ap (λ (xs : List (Sight Seen)). (account_of record_by book_by (fresh 100) xs).records) whole

  module _ (c d : Calls) (h : Fronts c d) where
    decided_by : (b : Bool) → ended c ≡ b → decided b (taken c) ≡ decided b (taken d)
    decided_by true e = rw (h.all_first e, h.all_second e) same_closed
    decided_by false e =
        ap (decided false) h.first ∙ same_decided (length (taken c)) ∙ ap (λ (n : ℕ). decided false (take n t)) h.as_many ∙ sym (ap (decided false) h.second)

    readings_by : (b : Bool) → ended c ≡ b → readings b (taken c) ≡ readings b (taken d)
    unfolding readings
    readings_by true e = rw (h.all_first e, h.all_second e) whole
    readings_by false e =
        ap (readings false) h.first ∙ same_readings (length (taken c)) ∙ ap (λ (n : ℕ). readings false (take n t)) h.as_many ∙ sym (ap (readings false) h.second)

    given_same : given c ≡ given d
    given_same = (every_cutting c).records ∙ decided_by (ended c) refl ∙ ap (λ (b : Bool). decided b (taken d)) h.ends ∙ sym (every_cutting d).records

    tally_same : (after c).tally ≡ (after d).tally
    tally_same =
        (every_cutting c).tally ∙ ap tallied (readings_by (ended c) refl ∙ ap (λ (b : Bool). readings b (taken d)) h.ends) ∙ sym (every_cutting d).tally

    -- one more cut
    module _ (m room : ℕ) where
      abbrev x : List ℕ
      x = take m (drop (length (taken c)) s)

      abbrev y : List ℕ
      y = take m (drop (length (taken d)) t)

      fed_first : taken c ++ x ≡ take (length (taken c) + m) s
      fed_first = ap (λ (u : List ℕ). u ++ x) h.first ∙ sym (take-add (length (taken c)) m s)

      fed_second : taken d ++ y ≡ take (length (taken d) + m) t
      fed_second = ap (λ (u : List ℕ). u ++ y) h.second ∙ sym (take-add (length (taken d)) m t)

      cut_long : length x ≡ length y
      cut_long = length-take m _ ∙ ap (min m) (length-drop (length (taken c)) s ∙ rw (long, h.as_many) (sym (length-drop (length (taken d)) t))) ∙ sym (length-take m _)

      fed_same : decided false (taken c ++ x) ≡ decided false (taken d ++ y)
      fed_same = ap (decided false) fed_first ∙ same_decided (length (taken c) + m) ∙ ap (λ (n : ℕ). decided false (take (n + m) t)) h.as_many ∙ sym (ap (decided false) fed_second)

      told_same : number_told c (Feed x) room ≡ number_told d (Feed y) room
      unfolding number_told
      told_same =
          let a = h.as_many in
          let e = h.ends in
          let l = cut_long in
          let f = fed_same in
          let g = given_same in
          cc

      number_same : number_to (after c) (Feed x) room ≡ number_to (after d) (Feed y) room
      number_same = (every_cutting c).numbers (Feed x) room ∙ told_same ∙ sym ((every_cutting d).numbers (Feed y) room)

      -- the fronts behind it
      cut_by : (v : Bool) → accepted c (next_cut s c m room) ≡ v → accepted d (next_cut t d m room) ≡ v → Fronts (c ▸ next_cut s c m room) (d ▸ next_cut t d m room)
      cut_by true p q =
          let u : taken (c ▸ next_cut s c m room) ≡ take (length (taken c) + m) s = took c (next_cut s c m room) p ∙ fed_first in
          let w : taken (d ▸ next_cut t d m room) ≡ take (length (taken d) + m) t = took d (next_cut t d m room) q ∙ fed_second in
          let ec : ended (c ▸ next_cut s c m room) ≡ ended c = ends_by c (next_cut s c m room) true p ∙ or_false (ended c) in
          let ed : ended (d ▸ next_cut t d m room) ≡ ended d = ends_by d (next_cut t d m room) true q ∙ or_false (ended d) in
          record {
            first = u ∙ take_self (length (taken c) + m) s ∙ ap (λ (n : ℕ). take n s) (ap length (sym u));
            second = w ∙ take_self (length (taken d) + m) t ∙ ap (λ (n : ℕ). take n t) (ap length (sym w));
            as_many = ap length u ∙ length-take (length (taken c) + m) s ∙ rw (h.as_many, long) (sym (length-take (length (taken d) + m) t)) ∙ ap length (sym w);
            ends = ec ∙ h.ends ∙ sym ed;
            all_first = λ e. u ∙ take_all (length (taken c) + m) s (omega (arith, ap length (h.all_first (sym ec ∙ e))));
            all_second = λ e. w ∙ take_all (length (taken d) + m) t (omega (arith, ap length (h.all_second (sym ec ∙ e))));
          }
      cut_by false p q =
          let u : taken (c ▸ next_cut s c m room) ≡ taken c = left c (next_cut s c m room) p in
          let w : taken (d ▸ next_cut t d m room) ≡ taken d = left d (next_cut t d m room) q in
          let ec : ended (c ▸ next_cut s c m room) ≡ ended c = ends_by c (next_cut s c m room) false p ∙ or_false (ended c) in
          let ed : ended (d ▸ next_cut t d m room) ≡ ended d = ends_by d (next_cut t d m room) false q ∙ or_false (ended d) in
          record {
            first = rw u h.first;
            second = rw w h.second;
            as_many = rw (u, w) h.as_many;
            ends = ec ∙ h.ends ∙ sym ed;
            all_first = λ e. u ∙ h.all_first (sym ec ∙ e);
            all_second = λ e. w ∙ h.all_second (sym ec ∙ e);
          }

      cut_on : Fronts (c ▸ next_cut s c m room) (d ▸ next_cut t d m room)
      cut_on = cut_by (accepted c (next_cut s c m room)) refl (ap (λ (n : ℕ). eqb n 0) (sym number_same))

    -- the closing call, once all bytes are taken
    module _ (room : ℕ) (all : taken c ≡ s) (others : taken d ≡ t) where
      end_same : number_told c Close room ≡ number_told d Close room
      unfolding number_told
      end_same =
          let a = h.as_many in
          let e = h.ends in
          let f : decided true (taken c ++ []) ≡ decided true (taken d ++ []) = rw (append-nil (taken c), append-nil (taken d), all, others) same_closed in
          let g = given_same in
          cc

      closing_same : number_to (after c) Close room ≡ number_to (after d) Close room
      closing_same = (every_cutting c).numbers Close room ∙ end_same ∙ sym ((every_cutting d).numbers Close room)

      stays : (b : Calls) (v : Bool) → accepted b (closing room) ≡ v → taken (b ▸ closing room) ≡ taken b
      stays b true e = took b (closing room) e ∙ append-nil (taken b)
      stays b false e = left b (closing room) e

      end_on : Fronts (c ▸ closing room) (d ▸ closing room)
      end_on =
          let v = accepted c (closing room) in
          let q : accepted d (closing room) ≡ v = ap (λ (n : ℕ). eqb n 0) (sym closing_same) in
          let u : taken (c ▸ closing room) ≡ taken c = stays c v refl in
          let w : taken (d ▸ closing room) ≡ taken d = stays d v q in
          record {
            first = rw u h.first;
            second = rw w h.second;
            as_many = rw (u, w) h.as_many;
            ends = ends_by c (closing room) v refl ∙ rw h.ends (sym (ends_by d (closing room) v q));
            all_first = λ e. u ∙ all;
            all_second = λ e. w ∙ others;
          }

  started : Fronts none none
  unfolding taken ended
  started = record { first = refl; second = refl; as_many = refl; ends = refl; all_first = λ e. absurd (clash e refl); all_second = λ e. absurd (clash e refl) }

  fronts_of : {c d : Calls} → CutAlike s t c d → Fronts c d
  fronts_of no_cut = started
  fronts_of (one_cut {c = c} {d = d} m room r) = cut_on c d (fronts_of r) m room
  fronts_of (the_end {c = c} {d = d} room a b r) = end_on c d (fronts_of r) room a b

  arriving : (c d : Calls) → Fronts c d → SameArriving s t c d
  arriving c d h =
      record {
        same_given = given_same c d h;
        same_tally = tally_same c d h;
        same_ended = h.ends;
        as_many = h.as_many;
        next_cut_holds = λ m room. one_call c d (next_cut s c m room) (next_cut t d m room) refl (given_same c d h) (given_same (c ▸ next_cut s c m room) (d ▸ next_cut t d m room) (cut_on c d h m room)) (number_same c d h m room);
        at_end = λ room a b. one_call c d (closing room) (closing room) refl (given_same c d h) (given_same (c ▸ closing room) (d ▸ closing room) (end_on c d h room a b)) (closing_same c d h room a b);
      }

-- THE THEOREM

cuts : (s t : List ℕ) → TwoCaptures s t → (n : ℕ) → Alike (got 0 (take n s)) (got 0 (take n t))
cuts s t e n = rw (e.first_is, e.second_is) (fronts 0 n e.frames e.others e.pairs)

pub same_while_it_arrives : (s t : List ℕ) → TwoCaptures s t → (c d : Calls) → CutAlike s t c d → SameArriving s t c d
same_while_it_arrives s t e c d r =
    let long = same_long s t e in
    let whole = same_sights s t e in
    arriving s t long whole (cuts s t e) c d (fronts_of s t long whole (cuts s t e) r)
