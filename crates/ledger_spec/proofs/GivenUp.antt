-- Request 7: each sentence of specs/GivenUp.antt, for every row of calls. The book after the calls
-- agrees with the history, and a reply answered 0 does what `gives_in`, `gives_out`, `hands_in` and
-- `hands_out` of Steps.antt say. Assumes nothing.
use mathlib.Core.Path.{◌≡◌, refl, sym, ap, ap₂, ◌∙◌}
use mathlib.Core.Logic.{◌⊎◌, inl, inr, ◌↔◌}
use mathlib.Core.Bool.{Bool, true, false, ◌&&◌, not}
use mathlib.Core.List.{[], ◌∷◌}
use Prim.Native.Nat.{ℕ, zero, suc, ◌+◌, ◌-◌, ◌/◌, ◌%◌, ◌^◌, ◌≤◌, ◌<◌}
use native.Mathlib.Nat.{add-zero, div-one, mod-one}
use native.Mathlib.Decide.{dec_le}
use native.Mathlib.Omega.{arith}
use borrow.Author.Tests.{not-false, ne_eqb, eqb-true, le-leb, lt-ltb, leb-true}
use lib.Bits.{or_zero_r}
use lib.Dec.{eqb, leb, ltb}
use Rattle.terms.specs.Cases.{clash}
use Rattle.terms.specs.Paper.{Paper, answer, refusal, pick}
use Rattle.tick_map.specs.Bits.{bit, run}
use Rattle.tick_map.proofs.Digits.{run_passed}
use Rattle.ledger_spec.specs.State.{Asked, nothing, range, Book, or_else, largest, has, StateRules}
use Rattle.ledger_spec.specs.Calls.{Call, Tick, Request, Reply, starts_at, reply_status, number_to, own_number, last_of, reach, leaps, covered, gave_up, handed, replied, waiting, done, values_of, answer_at, next_at, answer_to, next_of}
use Rattle.ledger_spec.specs.Trace.{Calls, none, ◌▸◌, after, History, trace}
use Rattle.ledger_spec.specs.Words.{value_at, answered, received, in_set, gives_up, given_up, settled, numbers, named_by, is_in, pending, floor_of}
use Rattle.ledger_spec.specs.GivenUp.{reply, InRange, NamesApart, FloorStands, Late, OnlyClears, then, AsksNoMore}
use Rattle.ledger_spec.proofs.Tests.{both, false_of, skip}
use Rattle.ledger_spec.proofs.Rows.{or_true, or_false, or_right, or_left, in_numbers, in_chosen}
use Rattle.ledger_spec.proofs.Rules.{has_below, above_floor}
use Rattle.ledger_spec.proofs.Numbers.{checked_facts}
use Rattle.ledger_spec.proofs.Steps.{reach_near, gives_in, gives_facts, hands_in, hands_out, leaps_cover, leaps_short, replied_has, replied_below, replied_floor, step}
use Rattle.ledger_spec.proofs.Agree.{Agrees, has_is, high_has, agrees}
use Rattle.ledger_spec.proofs.Demand3.{settled_is, floor_of_lem, next_neither, delivered_high}
use Rattle.ledger_spec.proofs.Given.{starts_fact}
use Rattle.ledger_spec.proofs.Answers.{answers, keeps}

-- ---- the floor

-- after every call, ticks included
pub floor_stands : (channel : ℕ) → channel ≤ 9999 → (calls : Calls) → FloorStands (trace channel calls) (after channel calls)
unfolding settled
floor_stands channel small calls =
    let h = trace channel calls in
    let b = after channel calls in
    let a = agrees channel small calls in
    record {
      floor_is = sym (floor_of_lem h channel b a);
      all_settled = λ n p q. settled_is h channel b a n p ∙ has_below b n q;
      next_received_not = or_left (received h (b.floor + 1)) (given_up h (b.floor + 1)) (next_neither h channel b a);
      next_given_not = or_right (received h (b.floor + 1)) (given_up h (b.floor + 1)) (next_neither h channel b a);
    }

-- no number is ever both
pub never_both : (channel : ℕ) → channel ≤ 9999 → (calls : Calls) (n : ℕ) → received (trace channel calls) n ≡ true → given_up (trace channel calls) n ≡ false
never_both channel small calls n e = (agrees channel small calls).never_both n e

-- ---- late ticks

pub late_is_11 : (channel : ℕ) → channel ≤ 9999 → (calls : Calls) (n : ℕ) → given_up (trace channel calls) n ≡ true → Late (after channel calls) channel n
unfolding settled
late_is_11 channel small calls n g =
    let h = trace channel calls in
    let b = after channel calls in
    let a = agrees channel small calls in
    let lo : 1 ≤ n = above n g in
    let up : n ≤ largest = omega (arith, a.given_low n g, a.rules.low, a.rules.top_small) in
    let e : settled h n ≡ true = ap (or_else (received h n)) g ∙ or_true (received h n) in
    let is : answer_to b (Tick channel n) ≡ refusal 11 = ((answers channel small calls).tick n).repeat_11 lo up e in
    record {
      answer_11 = is;
      same = (keeps b (Tick channel n)).same (ap (λ (p : Paper). answered p 0) is) (ap (λ (p : Paper). answered p 12) is);
    }
  where
    above : (m : ℕ) → given_up (trace channel calls) m ≡ true → 1 ≤ m
    above zero e = absurd (clash e (agrees channel small calls).zero_given)
    above (suc m) e = omega arith

-- ---- a reply answered 0

-- the pending range that it answers
record Answered (b : Book) (channel first status : ℕ) : Type 0 where
  last : ℕ
  own_request : b.pending ≡ range first last
  paper : answer_to b (Reply channel first status) ≡ answer 0 ((b.floor + 1) ∷ gave_up b (reach b status) ∷ handed b (reach b status) ∷ [])
  next : next_of b (Reply channel first status) ≡ replied b (reach b status)

number_0 : (b : Book) (call : Call) → answered (answer_to b call) 0 ≡ true → number_to b call ≡ 0
unfolding answer_to
number_0 b call e = eqb-true (number_to b call) 0 e

reply_done : (b : Book) (channel first status : ℕ) → number_to b (Reply channel first status) ≡ 0 → Answered b channel first status
unfolding own_number answer_to next_of values_of done
reply_done b channel first status z =
    let c = checked_facts b (Reply channel first status) z (λ q. omega arith) (λ q. omega arith) in
    let s = skip (not (reply_status status)) 17 (pick (not (starts_at b.pending first)) 16 0) c.own (λ q. omega arith) in
    let t = skip (not (starts_at b.pending first)) 16 0 s.1 (λ q. omega arith) in
    let u = starts_fact b.pending first (not-false _ t.0) in
    record {
      last = u.last;
      own_request = u.is;
      paper = ap (answer_at b (Reply channel first status)) z;
      next = ap (next_at b (Reply channel first status)) z;
    }

reach_4 : (b : Book) (first last : ℕ) → b.pending ≡ range first last → reach b 4 ≡ last - b.floor
unfolding reach
reach_4 b first last e = ap (λ (p : Asked). last_of p - b.floor) e

reach_other : (b : Book) (status : ℕ) → eqb status 4 ≡ false → reach b status ≡ 0
unfolding reach
reach_other b status e = simp e

module _ (h : History) (channel : ℕ) (b : Book) (a : Agrees h channel b) (first status : ℕ) (done_0 : answered (answer_to b (Reply channel first status)) 0 ≡ true) where
  near : (reach b status ≤ b.top - b.floor) × (reach b status ≤ 256)
  near = reach_near b status a.rules

  facts : Answered b channel first status
  facts = reply_done b channel first status (number_0 b (Reply channel first status) done_0)

  gives_is : (n : ℕ) → gives_up (Reply channel first status) (answer_to b (Reply channel first status)) n ≡ in_set (b.floor + 1) (gave_up b (reach b status)) n
  gives_is n = ap (λ (p : Paper). gives_up (Reply channel first status) p n) facts.paper

  -- the numbers named for delivery: those that the floor passes, and that were held
  named_is : (n : ℕ) → is_in n (named_by (Reply channel first status) (answer_to b (Reply channel first status)))
      ≡ in_set (b.floor + 1) (handed b (reach b status)) n && (leb (b.floor + 1) n && ltb n (b.floor + 1 + 256))
  unfolding named_by
  named_is n =
      ap (λ (p : Paper). is_in n (named_by (Reply channel first status) p)) facts.paper
      ∙ in_chosen (in_set (b.floor + 1) (handed b (reach b status))) n (numbers (b.floor + 1) 256)
      ∙ ap (in_set (b.floor + 1) (handed b (reach b status)) n &&◌) (in_numbers n (b.floor + 1) 256)

  named_facts : (n : ℕ) → is_in n (named_by (Reply channel first status) (answer_to b (Reply channel first status))) ≡ true
      → (b.floor < n) × (n ≤ b.floor + leaps b (reach b status)) × (has b n ≡ true)
  named_facts n e =
      let p = both (in_set (b.floor + 1) (handed b (reach b status)) n) _ (sym (named_is n) ∙ e) in
      let q = both (leb (b.floor + 1) n) _ p.1 in
      let lo : b.floor + 1 ≤ n = leb-true _ _ q.0 in
      elim (dec_le n (b.floor + leaps b (reach b status))) [
        | yes u ↦ (omega arith, u, sym (hands_in b a.rules (reach b status) near.0 near.1 n (omega arith) u) ∙ p.0)
        | no u ↦ absurd (clash p.0 (hands_out b a.rules (reach b status) near.0 near.1 n (omega arith)))
      ]

  named_test : (n : ℕ) → b.floor < n → n ≤ b.floor + leaps b (reach b status) → has b n ≡ true
      → is_in n (named_by (Reply channel first status) (answer_to b (Reply channel first status))) ≡ true
  named_test n l u e =
      let lo : b.floor + 1 ≤ n = omega arith in
      let up : n < b.floor + 1 + 256 = omega (arith, leaps_short b a.rules (reach b status) near.0 near.1) in
      named_is n ∙ ap₂ (λ (x y : Bool). x && y) (hands_in b a.rules (reach b status) near.0 near.1 n l u ∙ e)
      (ap₂ (λ (x y : Bool). x && y) (le-leb _ _ lo) (lt-ltb _ _ up))

  gives_had_not : (n : ℕ) → gives_up (Reply channel first status) (answer_to b (Reply channel first status)) n ≡ true
      → (b.floor < n) × (n ≤ b.floor + reach b status) × (has b n ≡ false)
  gives_had_not n e =
      let f = gives_facts b a.rules (reach b status) near.0 near.1 n (sym (gives_is n) ∙ e) in
      (above_floor b n f.0, f.1, f.0)

  apart : (next : History) → floor_of next ≡ b.floor + leaps b (reach b status)
      → NamesApart h next (Reply channel first status) (answer_to b (Reply channel first status))
  apart next f =
      let g = floor_of_lem h channel b a in
      let cover = leaps_cover b a.rules (reach b status) near.0 near.1 in
      record {
        split = λ n l u. parts n (omega arith) (omega arith) (has b n) refl;
        no_other = λ n e. other n e g cover;
        apart = λ n e. false_of _ (λ q. clash (named_facts n e).2 (gives_had_not n q).2);
        passed_received = λ n e. high_has h channel b a n (named_facts n e).0 ∙ (named_facts n e).2;
        passed_anew = λ n e. delivered_high h channel b a n (named_facts n e).0;
      }
    where
      parts : (n : ℕ) → b.floor < n → n ≤ b.floor + leaps b (reach b status) → (t : Bool) → has b n ≡ t
          → (gives_up (Reply channel first status) (answer_to b (Reply channel first status)) n ≡ true)
          ⊎ (is_in n (named_by (Reply channel first status) (answer_to b (Reply channel first status))) ≡ true)
      parts n l u true e = inr (named_test n l u e)
      parts n l u false e =
          inl (gives_is n ∙ sym (or_false _) ∙ ap (or_else (in_set (b.floor + 1) (gave_up b (reach b status)) n)) (sym e)
          ∙ sym (replied_has b a.rules (reach b status) near.0 near.1 n) ∙ replied_below b a.rules (reach b status) near.0 near.1 n u)

      other : (n : ℕ) → (gives_up (Reply channel first status) (answer_to b (Reply channel first status)) n ≡ true)
          ⊎ (is_in n (named_by (Reply channel first status) (answer_to b (Reply channel first status))) ≡ true)
          → floor_of h ≡ b.floor → reach b status ≤ leaps b (reach b status) → (floor_of h < n) × (n ≤ floor_of next)
      other n (inl e) g c = let q = gives_had_not n e in let x = q.0 in let y = q.1 in (omega arith, omega arith)
      other n (inr e) g c = let q = named_facts n e in let x = q.0 in let y = q.1 in (omega arith, omega arith)

-- the numbers from the old floor + 1 to the new floor are split in two
pub names_apart : (channel : ℕ) → channel ≤ 9999 → (calls : Calls) (first status : ℕ) → answered (reply channel calls first status) 0 ≡ true
    → NamesApart (trace channel calls) (trace channel (calls ▸ Reply channel first status)) (Reply channel first status) (reply channel calls first status)
names_apart channel small calls first status e =
    let b = after channel calls in
    let a = agrees channel small calls in
    apart (trace channel calls) channel b a first status e (trace channel (calls ▸ Reply channel first status))
    (floor_of_lem _ channel _ (agrees channel small (calls ▸ Reply channel first status)) ∙ ap (λ (x : Book). x.floor) (facts (trace channel calls) channel b a first status e).next ∙ replied_floor b (reach b status))

-- a reply of status 4 gives up exactly what lies in the pending range and was not received
module _ (h : History) (channel : ℕ) (b : Book) (a : Agrees h channel b) (first : ℕ) (done_0 : answered (answer_to b (Reply channel first 4)) 0 ≡ true) where
  given_fact : (n : ℕ) → gives_up (Reply channel first 4) (answer_to b (Reply channel first 4)) n ≡ true → InRange h n
  given_fact n e =
      let f = facts h channel b a first 4 done_0 in
      let g = gives_had_not h channel b a first 4 done_0 n e in
      let x = g.0 in
      let y = g.1 in
      let rules = a.rules.range_right first f.last f.own_request in
      record {
        first = first;
        last = f.last;
        is_pending_holds = sym a.pending_is ∙ f.own_request;
        from = omega (arith, rules.starts_low);
        to = omega (arith, reach_4 b first f.last f.own_request);
        not_received = high_has h channel b a n x ∙ g.2;
      }

  given_test : (n : ℕ) → InRange h n → gives_up (Reply channel first 4) (answer_to b (Reply channel first 4)) n ≡ true
  given_test n i =
      let p : b.pending ≡ range i.first i.last = a.pending_is ∙ i.is_pending_holds in
      let rules = a.rules.range_right i.first i.last p in
      let lo : 1 ≤ n = omega (arith, rules.starts, i.from) in
      let new : has b n ≡ false = has_is h channel b a n lo ∙ ap₂ or_else i.not_received (a.range_apart i.first i.last n p i.from) in
      let l = above_floor b n new in
      let near = reach_near b 4 a.rules in
      gives_is h channel b a first 4 done_0 n
      ∙ gives_in b a.rules (reach b 4) near.0 near.1 n l (omega (arith, reach_4 b i.first i.last p, i.to)) ∙ ap not new

pub gives_up_exactly : (channel : ℕ) → channel ≤ 9999 → (calls : Calls) (first : ℕ) → answered (reply channel calls first 4) 0 ≡ true
    → (n : ℕ) → (gives_up (Reply channel first 4) (reply channel calls first 4) n ≡ true) ↔ InRange (trace channel calls) n
gives_up_exactly channel small calls first e n =
    let a = agrees channel small calls in
    (given_fact (trace channel calls) channel (after channel calls) a first e n, given_test (trace channel calls) channel (after channel calls) a first e n)

-- ---- another status only clears

covered_0 : (b : Book) → covered b 0 ≡ b.bits
covered_0 b = or_zero_r b.bits

leaps_0 : (b : Book) → StateRules b → leaps b 0 ≡ 0
unfolding leaps
leaps_0 b r = ap (run 256) (covered_0 b) ∙ elim (dec_le 1 (run 256 b.bits)) [ yes h ↦ absurd (never (run_passed 256 b.bits 0 h)) | no h ↦ omega arith ]
  where
    never : bit b.bits 0 ≡ 1 → ⊥
    never e = omega (arith, r.next_not_held)

pub replied_0 : (b : Book) → StateRules b → replied b 0 ≡ waiting b nothing
unfolding replied waiting
replied_0 b r =
    ap₂ (λ (k m : ℕ). record { channel = b.channel; floor = b.floor + k; top = b.top; bits = m / 2 ^ k; pending = nothing }) (leaps_0 b r) (covered_0 b)
    ∙ ap₂ (λ (f m : ℕ). record { channel = b.channel; floor = f; top = b.top; bits = m; pending = nothing }) (add-zero b.floor) (div-one b.bits)

pub values_0 : (b : Book) → StateRules b → (gave_up b 0 ≡ 0) × (handed b 0 ≡ 0)
unfolding gave_up handed
values_0 b r = (omega arith, ap (λ (k : ℕ). b.bits % 2 ^ k) (leaps_0 b r) ∙ mod-one b.bits)

-- status 3 "only clears", and so does every status but 4: both sets are empty, and nothing but the
-- pending request changes
pub only_4_gives_up : (b : Book) (channel first status : ℕ) → StateRules b → answered (answer_to b (Reply channel first status)) 0 ≡ true → (status ≡ 4 → ⊥)
    → OnlyClears b (answer_to b (Reply channel first status)) (next_of b (Reply channel first status))
only_4_gives_up b channel first status r e other =
    let f = reply_done b channel first status (number_0 b (Reply channel first status) e) in
    let z = reach_other b status (ne_eqb status 4 other) in
    let v = values_0 b r in
    record {
      no_sets = f.paper ∙ ap (λ (w : ℕ). answer 0 ((b.floor + 1) ∷ gave_up b w ∷ handed b w ∷ [])) z ∙ ap₂ (λ (x y : ℕ). answer 0 ((b.floor + 1) ∷ x ∷ y ∷ [])) v.0 v.1;
      cleared = f.next ∙ ap (replied b) z ∙ replied_0 b r;
    }

-- ---- no later request asks for the range again

-- a call never lowers the floor
floor_rises : (channel : ℕ) → channel ≤ 9999 → (calls more : Calls) → (after channel calls).floor ≤ (after channel (then calls more)).floor
floor_rises channel small calls none = omega arith
floor_rises channel small calls (more ▸ call) =
    let a = agrees channel small (then calls more) in
    let s = step (after channel (then calls more)) call a.rules in
    omega (arith, floor_rises channel small calls more, s.floor_is)

-- a request that is granted starts above the floor
request_first : (b : Book) (channel : ℕ) → answered (answer_to b (Request channel)) 0 ≡ true → value_at (answer_to b (Request channel)) 0 ≡ b.floor + 1
unfolding answer_to values_of
request_first b channel e = ap (λ (k : ℕ). value_at (answer_at b (Request channel) k) 0) (eqb-true (number_to b (Request channel)) 0 e)

pub asks_no_more : (channel : ℕ) → channel ≤ 9999 → (calls : Calls) (first : ℕ) → answered (reply channel calls first 4) 0 ≡ true → (more : Calls)
    → AsksNoMore (trace channel calls) (answer_to (after channel (then (calls ▸ Reply channel first 4) more)) (Request channel))
asks_no_more channel small calls first e more = record { asks_not = λ x y n p u g v. never x y n p u g v }
  where
    never : (x y n : ℕ) → pending (trace channel calls) ≡ range x y → n ≤ y
        → answered (answer_to (after channel (then (calls ▸ Reply channel first 4) more)) (Request channel)) 0 ≡ true
        → value_at (answer_to (after channel (then (calls ▸ Reply channel first 4) more)) (Request channel)) 0 ≤ n → ⊥
    never x y n p u g v =
        let b = after channel calls in
        let a = agrees channel small calls in
        let f = facts (trace channel calls) channel b a first 4 e in
        let q : b.pending ≡ range x y = a.pending_is ∙ p in
        let near = reach_near b 4 a.rules in
        let w = reach_4 b x y q in
        let c = leaps_cover b a.rules (reach b 4) near.0 near.1 in
        let k : (next_of b (Reply channel first 4)).floor ≡ b.floor + leaps b (reach b 4) = ap (λ (z : Book). z.floor) f.next ∙ replied_floor b (reach b 4) in
        let h = floor_rises channel small (calls ▸ Reply channel first 4) more in
        let s = request_first (after channel (then (calls ▸ Reply channel first 4) more)) channel g in
        omega (arith)
