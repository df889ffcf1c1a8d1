-- Request 9: a number's place is its remainder by 256, places are cleared as the floor passes them,
-- and each call answers as it did with the map that moved and then holds the same numbers: of one
-- call on any state, and of every row of calls from opening on. Assumes nothing.
use mathlib.Core.Path.{◌≡◌, refl, sym, ap, ap₂, ◌∙◌, subst}
use mathlib.Core.Bool.{Bool, true, false, ◌&&◌}
use Prim.Native.Nat.{ℕ, ◌+◌, ◌-◌, ◌/◌, ◌%◌, ◌^◌, ◌≤◌, ◌<◌, max}
use native.Mathlib.Nat.{lt_of_le_of_lt}
use native.Mathlib.Decide.{dec_lt}
use native.Mathlib.Omega.{arith}
use borrow.Author.Tests.{eqb-true, lt-ltb, le-ltb, le-leb, lt-leb}
use lib.Bits.{or_lt}
use lib.Dec.{eqb}
use lib.ListN.{get_or}
use lib.Pow.{pow-lt, shr_le}
use Rattle.terms.specs.Paper.{Paper, pick}
use Rattle.terms.specs.Counters.{tick_of, channel_of}
use Rattle.tick_map.specs.Bits.{Words, bit, is_set, bits_in}
use Rattle.tick_map.specs.declared.Map.{Map}
use Rattle.terms.specs.declared.ChannelNumber.{ChannelNumber}
use Rattle.terms.specs.declared.TickNumber.{TickNumber}
use Rattle.tick_map.proofs.Laws.{run_le}
use Rattle.tick_map.proofs.Digits.{bit_lt, bit_shr, bit_above, bit_ext}
use Rattle.tick_map.proofs.Words.{list_lt, list_bit, value_of_lem, map_of_lem, map_words}
use Rattle.tick_map.proofs.Ring.{rotated_lt}
use Rattle.ledger_spec.specs.State.{Asked, Book, has}
use Rattle.ledger_spec.specs.Calls.{Call, Tick, Announce, Request, Reply, Ask, Renew, offered, marked, passes, taken, reach, covered, leaps, replied, raised, waiting, done, number_to, answer_to, next_of, fresh}
use Rattle.ledger_spec.specs.Trace.{Calls, none, ◌▸◌, after, History, start, ◌▸◌⇒◌}
use Rattle.ledger_spec.specs.Words.{one, answered}
use Rattle.ledger_spec.proofs.Tests.{pick_cases, one_of}
use Rattle.ledger_spec.proofs.Numbers.{tick_done, checked_facts}
use Rattle.ledger_spec.proofs.Steps.{reach_near, covered_lt, leaps_short}
use Rattle.ledger_spec.proofs.Agree.{agrees}
use Rattle.ledger.specs.State.{asked_of, pending_of, book_of, ledger_of, topped, next_by}
use Rattle.ledger.specs.Old.{old_book_of, old_ledger_of}
use Rattle.ledger.specs.Trace.{PromiseBy, Promise, Ran, OldRan, opening, one_more}
use Rattle.ledger.specs.SameMap.{place_set, within, held_now, held_old, SameHeld, OldRuns}
use Rattle.ledger.specs.declared.Ledger.{Ledger}
use Rattle.std.specs.Prelude.{Option}
use Rattle.ledger.specs.declared.Range.{Range}
use Rattle.ledger.proofs.Seam.{pending_of_lem, asked_of_lem, book_of_lem, topped_of, place_bit, done_by, next_kept, next_of_lem}
use Rattle.ledger.proofs.Promised.{ran_by_is_trace}

-- ---- a number's place

place_set_lem : (l : Ledger) → Words l.map.words → (p : ℕ) → p < 256 → is_set (bits_in l.map) p ≡ place_set l p
place_set_lem l w p h = ap (λ (x : ℕ). eqb x 1) (list_bit l.map.words w p h)

-- a number's place is "its remainder by 256": of the numbers that a map has places for, n is held
-- where bit n % 64 of word n % 256 / 64 is set
pub place_is : (l : Ledger) → Words l.map.words → (n : ℕ) → l.floor.0 < n → n ≤ l.floor.0 + 256
    → has (book_of l) n ≡ is_set (get_or l.map.words (n % 256 / 64) 0) (n % 64)
unfolding has book_of
place_is l w n lo hi =
    let h : n % 256 < 256 = omega arith in
    let e : n % 256 % 64 ≡ n % 64 = omega arith in
    simp (lt-leb _ _ lo) (ap (λ (x : ℕ). eqb x 1) (place_bit l w n lo hi) ∙ place_set_lem l w (n % 256) h ∙ ap (is_set (get_or l.map.words (n % 256 / 64) 0)) e)

-- ---- the places of the numbers that the floor passes

book_lt : (l : Ledger) → Words l.map.words → (book_of l).bits < 2 ^ 256
unfolding book_of
book_lt l w = rotated_lt (l.floor.0 + 1) (bits_in l.map) (list_lt l.map.words w)

old_lt : (l : Ledger) → Words l.map.words → (old_book_of l).bits < 2 ^ 256
unfolding old_book_of
old_lt l w = list_lt l.map.words w

marked_lt : (b : Book) (n : ℕ) → b.bits < 2 ^ 256 → n ≤ b.floor + 256 → marked b n < 2 ^ 256
marked_lt b n h l = let i : n - b.floor - 1 < 256 = omega arith in or_lt 256 b.bits (2 ^ (n - b.floor - 1)) h (pow-lt i)

ledger_words : (b : Book) → Words (ledger_of b).map.words
unfolding ledger_of
ledger_words b = map_words _

old_words : (b : Book) → Words (old_ledger_of b).map.words
unfolding old_ledger_of
old_words b = map_words _

-- a call keeps the map within its 256 places, on every state
done_places : (b : Book) (call : Call) → b.bits < 2 ^ 256 → number_to b call ≡ 0 → (done b call).bits < 2 ^ 256
unfolding done taken replied raised waiting
done_places b (Tick channel n) h e = lt_of_le_of_lt (shr_le (marked b n) (passes b n)) (marked_lt b n h (tick_done b channel n e).near)
done_places b (Announce channel n) h e = h
done_places b (Request channel) h e = h
done_places b (Reply channel first status) h e =
    let r = (checked_facts b (Reply channel first status) e (λ q. omega arith) (λ q. omega arith)).rules in
    let near = reach_near b status r in
    lt_of_le_of_lt (shr_le (covered b (reach b status)) (leaps b (reach b status))) (covered_lt b r (reach b status) near.0 near.1)
done_places b (Ask q) h e = h
done_places b Renew h e = h

raised_places : (b : Book) (n : ℕ) → b.bits < 2 ^ 256 → (raised b n).bits < 2 ^ 256
unfolding raised
raised_places b n h = h

pub next_places : (b : Book) (call : Call) → b.bits < 2 ^ 256 → (next_of b call).bits < 2 ^ 256
unfolding next_of
next_places b call h =
    pick_cases (λ (x : Book). x.bits < 2 ^ 256) (eqb (number_to b call) 0) (done b call) (pick (eqb (number_to b call) 12) (raised b (offered call)) b)
    (λ e. done_places b call h (eqb-true _ 0 e))
    (λ e. pick_cases (λ (x : Book). x.bits < 2 ^ 256) (eqb (number_to b call) 12) (raised b (offered call)) b (λ f. raised_places b (offered call) h) (λ f. h))

-- a number that the floor has passed, and the one 256 above it: that one has the place now,
-- and is not held
record Freed (b : Book) (n : ℕ) : Type 0 where
  above : b.floor < n + 256
  not_held : has b (n + 256) ≡ false

never_passed : (f n : ℕ) → f < n → n ≤ f → ⊥
never_passed f n h l = omega arith

freed : (b : Book) (call : Call) → b.bits < 2 ^ 256 → number_to b call ≡ 0 → (n : ℕ) → b.floor < n → n ≤ (done b call).floor → Freed (done b call) n
unfolding done taken replied raised waiting passes has
freed b (Tick channel m) h e n lo hi =
    let k = passes b m in
    let le : k ≤ 256 = run_le 256 (marked b m) in
    let up : b.floor + k < n + 256 = omega arith in
    let i = n + 256 - (b.floor + k) - 1 in
    let far : 256 ≤ k + (n + 256 - (b.floor + k) - 1) = omega arith in
    record {
      above = up;
      not_held = simp (lt-leb _ _ up) (ap (λ (x : ℕ). eqb x 1) (bit_shr (marked b m) k i ∙ bit_above 256 (k + i) (marked_lt b m h (tick_done b channel m e).near) far));
    }
freed b (Announce channel m) h e n lo hi = absurd (never_passed _ _ lo hi)
freed b (Request channel) h e n lo hi = absurd (never_passed _ _ lo hi)
freed b (Reply channel first status) h e n lo hi =
    let r = (checked_facts b (Reply channel first status) e (λ q. omega arith) (λ q. omega arith)).rules in
    let near = reach_near b status r in
    let w = reach b status in
    let k = leaps b w in
    let le : k ≤ 256 = leaps_short b r w near.0 near.1 in
    let up : b.floor + k < n + 256 = omega arith in
    let i = n + 256 - (b.floor + k) - 1 in
    let far : 256 ≤ k + (n + 256 - (b.floor + k) - 1) = omega arith in
    record {
      above = up;
      not_held = simp (lt-leb _ _ up) (ap (λ (x : ℕ). eqb x 1) (bit_shr (covered b w) k i ∙ bit_above 256 (k + i) (covered_lt b r w near.0 near.1) far));
    }
freed b (Ask q) h e n lo hi = absurd (never_passed _ _ lo hi)
freed b Renew h e n lo hi = absurd (never_passed _ _ lo hi)

book_floor : (l : Ledger) → (book_of l).floor ≡ l.floor.0
unfolding book_of
book_floor l = refl

-- places are cleared "as the floor passes them": after a call answered 0 the place of each number
-- that the floor has newly passed is clear
pub passed_cleared : (l next : Ledger) (call : Call) (paper : Paper) → Words l.map.words → Promise l call next paper → answered paper 0 ≡ true
    → (n : ℕ) → l.floor.0 < n → n ≤ next.floor.0 → is_set (get_or next.map.words (n % 256 / 64) 0) (n % 64) ≡ false
unfolding answer_to
passed_cleared l next call paper w p a n lo hi =
    let b = book_of l in
    let e : number_to b call ≡ 0 = eqb-true _ 0 (ap (λ (x : Paper). answered x 0) (sym p.paper_is) ∙ a) in
    let d = done b call in
    let is : next ≡ ledger_of d = p.next_is ∙ done_by book_of ledger_of l call e in
    let same : book_of next ≡ d = ap book_of is ∙ book_of_lem d (done_places b call (book_lt l w) e) in
    let top : next.floor.0 ≡ d.floor = sym (book_floor next) ∙ ap (λ (x : Book). x.floor) same in
    let lo' : b.floor < n = omega (arith, book_floor l) in
    let hi' : n ≤ d.floor = omega arith in
    let f = freed b call (book_lt l w) e n lo' hi' in
    let above : next.floor.0 < n + 256 = omega (arith, f.above) in
    let near : n + 256 ≤ next.floor.0 + 256 = omega arith in
    let word : (n + 256) % 256 / 64 ≡ n % 256 / 64 = omega arith in
    let digit : (n + 256) % 64 ≡ n % 64 = omega arith in
    sym (ap₂ (λ (x y : ℕ). is_set (get_or next.map.words x 0) y) word digit)
    ∙ sym (place_is next (subst (λ (x : Ledger). Words x.map.words) (sym is) (ledger_words d)) (n + 256) above near)
    ∙ ap (λ (x : Book). has x (n + 256)) same ∙ f.not_held

-- ---- the map before request 9

pub old_ledger_of_lem : (l : Ledger) → Words l.map.words → old_ledger_of (old_book_of l) ≡ l
unfolding old_ledger_of old_book_of
old_ledger_of_lem l w =
    ap₂ (λ (m : Map) (p : Option Range). record { channel = l.channel; floor = l.floor; top = l.top; map = m; pending = p }) (sym (map_of_lem l.map w)) (pending_of_lem l.pending)

pub old_book_of_lem : (b : Book) → b.bits < 2 ^ 256 → old_book_of (old_ledger_of b) ≡ b
unfolding old_ledger_of old_book_of
old_book_of_lem b h =
    ap₂ (λ (v : ℕ) (p : Asked). record { channel = b.channel; floor = b.floor; top = b.top; bits = v; pending = p }) (value_of_lem b.bits h) (asked_of_lem b.pending)

pub old_topped_of : (b : Book) (n : ℕ) → topped (old_ledger_of b) (max (old_ledger_of b).top.0 n) ≡ old_ledger_of (raised b n)
unfolding old_ledger_of raised
old_topped_of b n = refl

old_next_of : (l : Ledger) → Words l.map.words → (call : Call) → next_by old_book_of old_ledger_of l call ≡ old_ledger_of (next_of (old_book_of l) call)
unfolding old_book_of old_ledger_of
old_next_of l w call =
    next_kept old_book_of old_ledger_of l call (old_ledger_of_lem l w) (λ n. ap (λ (x : Ledger). topped x (max l.top.0 n)) (sym (old_ledger_of_lem l w)) ∙ old_topped_of (old_book_of l) n)

-- ---- the same numbers held is the same book

within_true : (l : Ledger) (n : ℕ) → l.floor.0 < n → n ≤ l.floor.0 + 256 → within l n ≡ true
within_true l n lo hi = simp (lt-ltb _ _ lo, le-leb _ _ hi)

now_digit : (l : Ledger) → Words l.map.words → (n : ℕ) → l.floor.0 < n → n ≤ l.floor.0 + 256 → held_now l n ≡ is_set (book_of l).bits (n - l.floor.0 - 1)
unfolding held_now
now_digit l w n lo hi =
    let h : n % 256 < 256 = omega arith in
    simp (within_true l n lo hi) (sym (place_set_lem l w (n % 256) h) ∙ sym (ap (λ (x : ℕ). eqb x 1) (place_bit l w n lo hi)))

old_digit : (l : Ledger) → Words l.map.words → (n : ℕ) → l.floor.0 < n → n ≤ l.floor.0 + 256 → held_old l n ≡ is_set (old_book_of l).bits (n - l.floor.0 - 1)
unfolding held_old old_book_of
old_digit l w n lo hi =
    let h : n - l.floor.0 - 1 < 256 = omega arith in
    simp (within_true l n lo hi) (sym (place_set_lem l w (n - l.floor.0 - 1) h))

outside : (l : Ledger) (n : ℕ) → (l.floor.0 < n → n ≤ l.floor.0 + 256 → ⊥) → within l n ≡ false
outside l n f = elim (dec_lt l.floor.0 n) [
  | yes lo ↦ elim (dec_lt (l.floor.0 + 256) n) [
    | yes far ↦ simp (lt-ltb _ _ lo, lt-leb _ _ far)
    | no near ↦ absurd (f lo (omega arith))
  ]
  | no up ↦ below (omega arith)
]
  where
    below : n ≤ l.floor.0 → within l n ≡ false
    below h = simp (le-ltb _ _ h)

five : {c d f g t u m n : ℕ} {p q : Asked} → c ≡ d → f ≡ g → t ≡ u → m ≡ n → p ≡ q
    → ◌≡◌ {A = Book} (record { channel = c; floor = f; top = t; bits = m; pending = p }) (record { channel = d; floor = g; top = u; bits = n; pending = q })
five a b e f g = cc

module _ (now old : Ledger) (w : Words now.map.words) (v : Words old.map.words) where
  pub book_same : book_of now ≡ old_book_of old → SameHeld now old
  unfolding book_of old_book_of held_now held_old
  book_same e =
      let f : now.floor ≡ old.floor = ap (λ (b : Book). tick_of b.floor) e in
      let g : now.floor.0 ≡ old.floor.0 = ap (λ (b : Book). b.floor) e in
      record {
        channel_same = ap (λ (b : Book). channel_of b.channel) e;
        floor_same = f;
        top_same = ap (λ (b : Book). tick_of b.top) e;
        pending_same = sym (pending_of_lem now.pending) ∙ ap (λ (b : Book). pending_of b.pending) e ∙ pending_of_lem old.pending;
        held_same = λ n. elim (dec_lt now.floor.0 n) [
          | yes lo ↦ elim (dec_lt (now.floor.0 + 256) n) [
            | yes far ↦ ap (λ (x : Bool). x && place_set now (n % 256)) (outside now n (λ a b. omega arith)) ∙ sym (ap (λ (x : Bool). x && place_set old (n - old.floor.0 - 1)) (outside old n (λ a b. omega arith)))
            | no near ↦ (
                let hi : n ≤ now.floor.0 + 256 = omega arith in
                let lo' : old.floor.0 < n = omega arith in
                let hi' : n ≤ old.floor.0 + 256 = omega arith in
                now_digit now w n lo hi ∙ ap₂ (λ (b : Book) (x : ℕ). is_set b.bits (n - x - 1)) e g ∙ sym (old_digit old v n lo' hi'))
          ]
          | no up ↦ ap (λ (x : Bool). x && place_set now (n % 256)) (outside now n (λ a b. omega arith)) ∙ sym (ap (λ (x : Bool). x && place_set old (n - old.floor.0 - 1)) (outside old n (λ a b. omega arith)))
        ];
      }

  same_bits : SameHeld now old → (book_of now).bits ≡ (old_book_of old).bits
  same_bits s =
      bit_ext 256 (book_of now).bits (old_book_of old).bits (book_lt now w) (old_lt old v)
      (λ i l.
      let g : now.floor.0 ≡ old.floor.0 = ap (λ (t : TickNumber). t.0) s.floor_same in
      let n = now.floor.0 + 1 + i in
      let lo : now.floor.0 < now.floor.0 + 1 + i = omega arith in
      let hi : now.floor.0 + 1 + i ≤ now.floor.0 + 256 = omega arith in
      let lo' : old.floor.0 < now.floor.0 + 1 + i = omega arith in
      let hi' : now.floor.0 + 1 + i ≤ old.floor.0 + 256 = omega arith in
      let at : now.floor.0 + 1 + i - now.floor.0 - 1 ≡ i = omega arith in
      let at' : now.floor.0 + 1 + i - old.floor.0 - 1 ≡ i = omega arith in
      let t : is_set (book_of now).bits i ≡ is_set (old_book_of old).bits i =
      sym (ap (is_set (book_of now).bits) at) ∙ sym (now_digit now w n lo hi) ∙ s.held_same n ∙ old_digit old v n lo' hi' ∙ ap (is_set (old_book_of old).bits) at' in
      sym (one_of (bit (book_of now).bits i) (bit_lt _ i)) ∙ ap one t ∙ one_of (bit (old_book_of old).bits i) (bit_lt _ i))

  pub same_book : SameHeld now old → book_of now ≡ old_book_of old
  unfolding book_of old_book_of
  same_book s =
      five (ap (λ (c : ChannelNumber). c.0) s.channel_same) (ap (λ (t : TickNumber). t.0) s.floor_same) (ap (λ (t : TickNumber). t.0) s.top_same) (same_bits s)
      (ap asked_of s.pending_same)

-- ---- each call, on every state, sound or not

-- a call answers as with the old map, and then "the same set of numbers" is held
pub one_call_as_old : (now old next oldNext : Ledger) (call : Call) (paper oldPaper : Paper) → Words now.map.words → Words old.map.words → SameHeld now old
    → Promise now call next paper → PromiseBy old_book_of old_ledger_of old call oldNext oldPaper → (paper ≡ oldPaper) × SameHeld next oldNext
one_call_as_old now old next oldNext call paper oldPaper w v s p q =
    let e = same_book now old w v s in
    let b = next_of (book_of now) call in
    let b_lt = next_places (book_of now) call (book_lt now w) in
    let nw : next ≡ ledger_of b = p.next_is ∙ next_of_lem now w call in
    let is : oldNext ≡ old_ledger_of b = q.next_is ∙ old_next_of old v call ∙ ap (λ (x : Book). old_ledger_of (next_of x call)) (sym e) in (
      p.paper_is ∙ ap (λ (x : Book). answer_to x call) e ∙ sym q.paper_is,
      book_same next oldNext
          (subst (λ (x : Ledger). Words x.map.words) (sym nw) (ledger_words b))
          (subst (λ (x : Ledger). Words x.map.words) (sym is) (old_words b))
          (ap book_of nw ∙ book_of_lem b b_lt ∙ sym (ap old_book_of is ∙ old_book_of_lem b b_lt)),
    )

-- ---- every row of calls on a channel that opens

-- a ledger that calls reach has four words of 64 bits: so `place_is`, `passed_cleared` and
-- `one_call_as_old` hold of it
pub ran_words : (channel : ℕ) → channel ≤ 9999 → {calls : Calls} {l : Ledger} {h : History} → Ran channel calls l h → Words l.map.words
ran_words channel small {calls} r =
    subst (λ (x : Ledger). Words x.map.words) (sym (ran_by_is_trace book_of ledger_of book_of_lem topped_of channel small r).0) (ledger_words (after channel calls))

-- calls answer as with the old map
pub answers_as_old : (channel : ℕ) → channel ≤ 9999 → {calls : Calls} {now old : Ledger} {h g : History} → Ran channel calls now h → OldRan channel calls old g → h ≡ g
answers_as_old channel small r q =
    (ran_by_is_trace book_of ledger_of book_of_lem topped_of channel small r).1 ∙ sym (ran_by_is_trace old_book_of old_ledger_of old_book_of_lem old_topped_of channel small q).1

-- and "the same set of numbers" is held, in every state that calls reach
pub holds_as_old : (channel : ℕ) → channel ≤ 9999 → {calls : Calls} {now old : Ledger} {h g : History} → Ran channel calls now h → OldRan channel calls old g → SameHeld now old
holds_as_old channel small {calls} {now} {old} r q =
    let b = after channel calls in
    let b_lt = (agrees channel small calls).rules.places in
    let p = (ran_by_is_trace book_of ledger_of book_of_lem topped_of channel small r).0 in
    let o = (ran_by_is_trace old_book_of old_ledger_of old_book_of_lem old_topped_of channel small q).0 in
    book_same now old
    (subst (λ (x : Ledger). Words x.map.words) (sym p) (ledger_words b))
    (subst (λ (x : Ledger). Words x.map.words) (sym o) (old_words b))
    (ap book_of p ∙ book_of_lem b b_lt ∙ sym (ap old_book_of o ∙ old_book_of_lem b b_lt))

-- and every row of calls ran then: the two theorems above are not about nothing
pub old_runs : (channel : ℕ) (calls : Calls) → OldRuns channel calls
old_runs channel none = record { ledger = old_ledger_of (fresh channel); history = start; ran = opening refl }
old_runs channel (calls ▸ call) =
    let r = old_runs channel calls in
    record {
      ledger = next_by old_book_of old_ledger_of r.ledger call;
      history = r.history ▸ call ⇒ answer_to (old_book_of r.ledger) call;
      ran = one_more call r.ran (record { paper_is = refl; next_is = refl });
    }
