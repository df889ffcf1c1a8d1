-- When each number is given, both ways, for every state. A row of checks answers m where those
-- before pass and the one of m fails; each test of the row is the fact that the document names.
-- Assumes nothing.
use mathlib.Core.Path.{◌≡◌, refl, sym, ap, ◌∙◌}
use mathlib.Core.Logic.{◌⊎◌, inl, inr, ⊎_elim, ◌↔◌}
use mathlib.Core.Bool.{Bool, true, false, ◌&&◌, not}
use Prim.Native.Nat.{ℕ, zero, suc, ◌+◌, ◌≤◌, ◌<◌}
use native.Mathlib.Decide.{dec_le}
use native.Mathlib.Omega.{arith}
use borrow.Author.Tests.{not-false, eq-eqb, le-leb, lt-leb, lt-ltb, eqb-true, leb-true, ltb-true, not-true, ltb-false, eqb-false, le-ltb, ne_eqb}
use lib.Dec.{eqb, leb, ltb}
use Rattle.terms.specs.Cases.{two, clash}
use Rattle.terms.specs.Paper.{pick}
use Rattle.ledger_spec.specs.State.{Asked, nothing, range, Book, or_else, largest, has, sound_of, StateRules}
use Rattle.ledger_spec.specs.Calls.{Call, Tick, Announce, Request, Reply, Ask, Missing, Held, Between, Renew, tick_number, reply_status, is_pending, starts_at, elsewhere, own_number, checked_of, number_to, open_number}
use Rattle.ledger_spec.specs.Given.{Own, HeldAt, SettledAt, MissingAt, StatusRight, Given18, Given10Tick, Given10Announcement, Given10Between, Given11, Given12, Given14, Given15, Given17, Given16, FineBetween, Fine, Given0}
use Rattle.ledger_spec.proofs.Tests.{true_of, false_of, both, and_false, pick_cases, skip, hit}
use Rattle.ledger_spec.proofs.Rules.{has_below, has_above, rules_facts, rules_test, broken_test}
use Rattle.ledger_spec.proofs.Numbers.{checked_facts, checked_test, numbered}
use Rattle.ledger_spec.proofs.Demand3.{first_clear, nothing_pending}

-- no number of a row is m
never : (t : Bool) (k rest m : ℕ) → (k ≡ m → ⊥) → (rest ≡ m → ⊥) → pick t k rest ≡ m → ⊥
never true k rest m p q e = p e
never false k rest m p q e = q e

-- ---- each test and its fact

pub own_test : (b : Book) (call : Call) → Own b call → elsewhere b call ≡ false
own_test b (Tick channel n) e = ap not (eq-eqb channel b.channel e)
own_test b (Announce channel n) e = ap not (eq-eqb channel b.channel e)
own_test b (Request channel) e = ap not (eq-eqb channel b.channel e)
own_test b (Reply channel first status) e = ap not (eq-eqb channel b.channel e)
own_test b (Ask Missing) e = refl
own_test b (Ask Held) e = refl
own_test b (Ask (Between channel a z)) e = ap not (eq-eqb channel b.channel e)
own_test b Renew e = refl

pub own_fact : (b : Book) (call : Call) → elsewhere b call ≡ false → Own b call
own_fact b (Tick channel n) e = eqb-true channel b.channel (not-false _ e)
own_fact b (Announce channel n) e = eqb-true channel b.channel (not-false _ e)
own_fact b (Request channel) e = eqb-true channel b.channel (not-false _ e)
own_fact b (Reply channel first status) e = eqb-true channel b.channel (not-false _ e)
own_fact b (Ask Missing) e = tt
own_fact b (Ask Held) e = tt
own_fact b (Ask (Between channel a z)) e = eqb-true channel b.channel (not-false _ e)
own_fact b Renew e = tt

pub tick_test : (n : ℕ) → 1 ≤ n → n ≤ largest → tick_number n ≡ true
tick_test n p q = simp (le-leb _ _ p, le-leb _ _ q)

bad_tick_test : (n : ℕ) → (n ≡ 0) ⊎ (largest < n) → tick_number n ≡ false
bad_tick_test n (inl e) = let h : n < 1 = omega arith in simp (lt-leb _ _ h)
bad_tick_test n (inr h) = simp (lt-leb _ _ h) (and_false (leb 1 n))

bad_tick_fact : (n : ℕ) → tick_number n ≡ false → (n ≡ 0) ⊎ (largest < n)
bad_tick_fact zero e = inl refl
bad_tick_fact (suc n) e = elim (dec_le (suc n) largest) [
  | yes h ↦ absurd (clash (tick_test (suc n) (omega arith) h) e)
  | no h ↦ inr (omega arith)
]

pub settled_test : (b : Book) (n : ℕ) → SettledAt b n → has b n ≡ true
settled_test b n (inl h) = has_below b n h
settled_test b n (inr h) = has_above b n h.above ∙ ap (λ (d : ℕ). eqb d 1) h.set

pub settled_fact : (b : Book) (n : ℕ) → has b n ≡ true → SettledAt b n
settled_fact b n e = elim (dec_le n b.floor) [ yes h ↦ inl h | no h ↦ inr (above (omega arith)) ]
  where
    above : b.floor < n → HeldAt b n
    above l = record { above = l; set = eqb-true _ 1 (sym (has_above b n l) ∙ e) }

pub status_test : (s : ℕ) → StatusRight s → reply_status s ≡ true
status_test s (inl h) = simp (le-leb _ _ h.0, le-leb _ _ h.1)
status_test s (inr e) = simp (eq-eqb s 99 e) (always (leb 1 s && leb s 5))
  where
    always : (t : Bool) → or_else t true ≡ true
    always true = refl
    always false = refl

status_fact : (s : ℕ) → reply_status s ≡ true → StatusRight s
status_fact s e = told (leb 1 s && leb s 5) refl
  where
    told : (t : Bool) → leb 1 s && leb s 5 ≡ t → StatusRight s
    told true q = let p = both (leb 1 s) (leb s 5) q in inl (leb-true _ _ p.0, leb-true _ _ p.1)
    told false q = inr (eqb-true s 99 (sym (ap (λ (t : Bool). or_else t (eqb s 99)) q) ∙ e))

pub starts_test : (p : Asked) (first last : ℕ) → p ≡ range first last → starts_at p first ≡ true
starts_test p first last e = ap (λ (x : Asked). starts_at x first) e ∙ eq-eqb first first refl

pub record Starts (p : Asked) (first : ℕ) : Type 0 where
  pub last : ℕ
  pub is : p ≡ range first last

pub starts_fact : (p : Asked) (first : ℕ) → starts_at p first ≡ true → Starts p first
starts_fact nothing first e = absurd (clash e refl)
starts_fact (range x y) first e = record { last = y; is = ap (λ (z : ℕ). range z y) (eqb-true x first e) }

-- nothing is missing exactly where the top is the floor: floor + 1 is never held
whole_fact : (b : Book) → b.top ≡ b.floor → (n : ℕ) → MissingAt b n → ⊥
whole_fact b e n m = m.not_settled (inl (omega (arith, m.low)))

next_missing : (b : Book) → StateRules b → (b.top ≡ b.floor → ⊥) → MissingAt b (b.floor + 1)
next_missing b r g =
    record { above = omega arith; low = above_floor; not_settled = λ q. clash (settled_test b (b.floor + 1) q) (first_clear b r) }
  where
    above_floor : b.floor + 1 ≤ b.top
    above_floor = elim (dec_le b.top b.floor) [ yes h ↦ absurd (g (omega (arith, r.low))) | no h ↦ omega arith ]

whole_test : (b : Book) → StateRules b → ((n : ℕ) → MissingAt b n → ⊥) → b.top ≡ b.floor
whole_test b r f = elim (dec_le b.top b.floor) [
  | yes h ↦ omega (arith, r.low)
  | no h ↦ absurd (f (b.floor + 1) (next_missing b r (λ e. h (omega arith))))
]

-- ---- 13 and 18, for every call

-- a call's own number is neither
abbrev proper : ℕ → Bool
proper k = not (or_else (eqb k 13) (eqb k 18))

own_proper : (b : Book) (call : Call) → proper (own_number b call) ≡ true
unfolding own_number
own_proper b (Tick channel n) =
    pick_cases (λ k. proper k ≡ true) (not (tick_number n)) 10 (pick (has b n) 11 (pick (ltb (b.floor + 256) n) 12 0)) (λ e. refl)
    (λ e. pick_cases (λ k. proper k ≡ true) (has b n) 11 (pick (ltb (b.floor + 256) n) 12 0) (λ g. refl)
    (λ g. pick_cases (λ k. proper k ≡ true) (ltb (b.floor + 256) n) 12 0 (λ f. refl) (λ f. refl)))
own_proper b (Announce channel n) = pick_cases (λ k. proper k ≡ true) (ltb largest n) 10 0 (λ e. refl) (λ e. refl)
own_proper b (Request channel) =
    pick_cases (λ k. proper k ≡ true) (is_pending b.pending) 14 (pick (eqb b.top b.floor) 15 0) (λ e. refl)
    (λ e. pick_cases (λ k. proper k ≡ true) (eqb b.top b.floor) 15 0 (λ g. refl) (λ g. refl))
own_proper b (Reply channel first status) =
    pick_cases (λ k. proper k ≡ true) (not (reply_status status)) 17 (pick (not (starts_at b.pending first)) 16 0) (λ e. refl)
    (λ e. pick_cases (λ k. proper k ≡ true) (not (starts_at b.pending first)) 16 0 (λ g. refl) (λ g. refl))
own_proper b (Ask Missing) = refl
own_proper b (Ask Held) = refl
own_proper b (Ask (Between channel a z)) = pick_cases (λ k. proper k ≡ true) (not (tick_number a && tick_number z)) 10 0 (λ e. refl) (λ e. refl)
own_proper b Renew = refl

own_not : (b : Book) (call : Call) (m : ℕ) → proper m ≡ false → own_number b call ≡ m → ⊥
own_not b call m p e = clash (ap proper (sym e) ∙ own_proper b call) p

pub given_13 : (b : Book) (call : Call) → (number_to b call ≡ 13) ↔ (StateRules b → ⊥)
unfolding number_to checked_of
given_13 b call = (λ e r. broken e r, λ n. simp (broken_test b n))
  where
    broken : pick (not (sound_of b)) 13 (pick (elsewhere b call) 18 (own_number b call)) ≡ 13 → StateRules b → ⊥
    broken e r =
        let t = hit (not (sound_of b)) 13 (pick (elsewhere b call) 18 (own_number b call)) e (never (elsewhere b call) 18 (own_number b call) 13 (λ q. omega arith) (own_not b call 13 refl)) in
        clash (rules_test b r) (not-true _ t)

pub given_18 : (b : Book) (call : Call) → (number_to b call ≡ 18) ↔ Given18 b call
unfolding number_to checked_of
given_18 b call = (λ e. other e, λ g. simp (rules_test b g.rules, true_of (elsewhere b call) (λ h. g.other (own_fact b call h))))
  where
    other : pick (not (sound_of b)) 13 (pick (elsewhere b call) 18 (own_number b call)) ≡ 18 → Given18 b call
    other e =
        let s = skip (not (sound_of b)) 13 (pick (elsewhere b call) 18 (own_number b call)) e (λ q. omega arith) in
        let t = hit (elsewhere b call) 18 (own_number b call) s.1 (own_not b call 18 refl) in
        record { rules = rules_facts b (not-false _ s.0); other = λ o. clash t (own_test b call o) }

-- ---- a tick

tick_near : (b : Book) (n m : ℕ) → (12 ≡ m → ⊥) → (0 ≡ m → ⊥) → pick (ltb (b.floor + 256) n) 12 0 ≡ m → ⊥
tick_near b n m p q = never (ltb (b.floor + 256) n) 12 0 m p q

pub given_10_tick : (b : Book) (channel n : ℕ) → (number_to b (Tick channel n) ≡ 10) ↔ Given10Tick b channel n
unfolding own_number
given_10_tick b channel n = (λ e. to e, λ g. from g)
  where
    to : number_to b (Tick channel n) ≡ 10 → Given10Tick b channel n
    to e =
        let c = checked_facts b (Tick channel n) e (λ q. omega arith) (λ q. omega arith) in
        let t = hit (not (tick_number n)) 10 (pick (has b n) 11 (pick (ltb (b.floor + 256) n) 12 0)) c.own
        (never (has b n) 11 (pick (ltb (b.floor + 256) n) 12 0) 10 (λ q. omega arith) (tick_near b n 10 (λ q. omega arith) (λ q. omega arith))) in
        record { rules = c.rules; own = own_fact b (Tick channel n) c.here; number = bad_tick_fact n (not-true _ t) }

    from : Given10Tick b channel n → number_to b (Tick channel n) ≡ 10
    from g = checked_test b (Tick channel n) g.rules (own_test b (Tick channel n) g.own) ∙ simp (bad_tick_test n g.number)

pub given_11 : (b : Book) (channel n : ℕ) → (number_to b (Tick channel n) ≡ 11) ↔ Given11 b channel n
unfolding own_number
given_11 b channel n = (λ e. to e, λ g. from g)
  where
    to : number_to b (Tick channel n) ≡ 11 → Given11 b channel n
    to e =
        let c = checked_facts b (Tick channel n) e (λ q. omega arith) (λ q. omega arith) in
        let s = skip (not (tick_number n)) 10 (pick (has b n) 11 (pick (ltb (b.floor + 256) n) 12 0)) c.own (λ q. omega arith) in
        let t = hit (has b n) 11 (pick (ltb (b.floor + 256) n) 12 0) s.1 (tick_near b n 11 (λ q. omega arith) (λ q. omega arith)) in
        let h = numbered n (not-false _ s.0) in
        record { rules = c.rules; own = own_fact b (Tick channel n) c.here; above = h.0; digits = h.1; repeat = settled_fact b n t }

    from : Given11 b channel n → number_to b (Tick channel n) ≡ 11
    from g =
        checked_test b (Tick channel n) g.rules (own_test b (Tick channel n) g.own)
        ∙ simp (tick_test n g.above g.digits, settled_test b n g.repeat)

pub given_12 : (b : Book) (channel n : ℕ) → (number_to b (Tick channel n) ≡ 12) ↔ Given12 b channel n
unfolding own_number
given_12 b channel n = (λ e. to e, λ g. from g)
  where
    to : number_to b (Tick channel n) ≡ 12 → Given12 b channel n
    to e =
        let c = checked_facts b (Tick channel n) e (λ q. omega arith) (λ q. omega arith) in
        let s = skip (not (tick_number n)) 10 (pick (has b n) 11 (pick (ltb (b.floor + 256) n) 12 0)) c.own (λ q. omega arith) in
        let t = skip (has b n) 11 (pick (ltb (b.floor + 256) n) 12 0) s.1 (λ q. omega arith) in
        let u = hit (ltb (b.floor + 256) n) 12 0 t.1 (λ q. omega arith) in
        let h = numbered n (not-false _ s.0) in
        record {
          rules = c.rules;
          own = own_fact b (Tick channel n) c.here;
          above = h.0;
          digits = h.1;
          no_repeat = λ q. clash (settled_test b n q) t.0;
          far = ltb-true _ _ u;
        }

    from : Given12 b channel n → number_to b (Tick channel n) ≡ 12
    from g =
        checked_test b (Tick channel n) g.rules (own_test b (Tick channel n) g.own)
        ∙ simp (tick_test n g.above g.digits, false_of (has b n) (λ e. g.no_repeat (settled_fact b n e)), lt-ltb _ _ g.far)

-- ---- an announcement, and opening

pub given_10_announcement : (b : Book) (channel n : ℕ) → (number_to b (Announce channel n) ≡ 10) ↔ Given10Announcement b channel n
unfolding own_number
given_10_announcement b channel n = (λ e. to e, λ g. from g)
  where
    to : number_to b (Announce channel n) ≡ 10 → Given10Announcement b channel n
    to e =
        let c = checked_facts b (Announce channel n) e (λ q. omega arith) (λ q. omega arith) in
        let t = hit (ltb largest n) 10 0 c.own (λ q. omega arith) in
        record { rules = c.rules; own = own_fact b (Announce channel n) c.here; number = ltb-true _ _ t }

    from : Given10Announcement b channel n → number_to b (Announce channel n) ≡ 10
    from g = checked_test b (Announce channel n) g.rules (own_test b (Announce channel n) g.own) ∙ simp (lt-ltb _ _ g.number)

pub given_10_opening : (channel : ℕ) → (open_number channel ≡ 10) ↔ (9999 < channel)
given_10_opening channel = (λ e. ltb-true _ _ (hit (ltb 9999 channel) 10 0 e (λ q. omega arith)), λ h. simp (lt-ltb _ _ h))

-- ---- a request

pub given_14 : (b : Book) (channel : ℕ) → (number_to b (Request channel) ≡ 14) ↔ Given14 b channel
unfolding own_number
given_14 b channel = (λ e. to e, λ g. from g)
  where
    range_of : (p : Asked) → is_pending p ≡ true → StateRules b → Own b (Request channel) → b.pending ≡ p → Given14 b channel
    range_of nothing e r o q = absurd (clash e refl)
    range_of (range x y) e r o q = record { rules = r; own = o; first = x; last = y; busy = q }

    to : number_to b (Request channel) ≡ 14 → Given14 b channel
    to e =
        let c = checked_facts b (Request channel) e (λ q. omega arith) (λ q. omega arith) in
        let t = hit (is_pending b.pending) 14 (pick (eqb b.top b.floor) 15 0) c.own
        (never (eqb b.top b.floor) 15 0 14 (λ q. omega arith) (λ q. omega arith)) in
        range_of b.pending t c.rules (own_fact b (Request channel) c.here) refl

    from : Given14 b channel → number_to b (Request channel) ≡ 14
    from g = checked_test b (Request channel) g.rules (own_test b (Request channel) g.own) ∙ simp g.busy

pub given_15 : (b : Book) (channel : ℕ) → (number_to b (Request channel) ≡ 15) ↔ Given15 b channel
unfolding own_number
given_15 b channel = (λ e. to e, λ g. from g)
  where
    to : number_to b (Request channel) ≡ 15 → Given15 b channel
    to e =
        let c = checked_facts b (Request channel) e (λ q. omega arith) (λ q. omega arith) in
        let s = skip (is_pending b.pending) 14 (pick (eqb b.top b.floor) 15 0) c.own (λ q. omega arith) in
        let t = hit (eqb b.top b.floor) 15 0 s.1 (λ q. omega arith) in
        record {
          rules = c.rules;
          own = own_fact b (Request channel) c.here;
          free = nothing_pending _ s.0;
          whole = whole_fact b (eqb-true _ _ t);
        }

    from : Given15 b channel → number_to b (Request channel) ≡ 15
    from g =
        checked_test b (Request channel) g.rules (own_test b (Request channel) g.own)
        ∙ simp (g.free, eq-eqb _ _ (whole_test b g.rules g.whole))

-- ---- a reply

pub given_17 : (b : Book) (channel first status : ℕ) → (number_to b (Reply channel first status) ≡ 17) ↔ Given17 b channel first status
unfolding own_number
given_17 b channel first status = (λ e. to e, λ g. from g)
  where
    to : number_to b (Reply channel first status) ≡ 17 → Given17 b channel first status
    to e =
        let c = checked_facts b (Reply channel first status) e (λ q. omega arith) (λ q. omega arith) in
        let t = hit (not (reply_status status)) 17 (pick (not (starts_at b.pending first)) 16 0) c.own
        (never (not (starts_at b.pending first)) 16 0 17 (λ q. omega arith) (λ q. omega arith)) in
        record { rules = c.rules; own = own_fact b (Reply channel first status) c.here; wrong = λ q. clash (status_test status q) (not-true _ t) }

    from : Given17 b channel first status → number_to b (Reply channel first status) ≡ 17
    from g =
        checked_test b (Reply channel first status) g.rules (own_test b (Reply channel first status) g.own)
        ∙ simp (false_of (reply_status status) (λ e. g.wrong (status_fact status e)))

pub given_16 : (b : Book) (channel first status : ℕ) → (number_to b (Reply channel first status) ≡ 16) ↔ Given16 b channel first status
unfolding own_number
given_16 b channel first status = (λ e. to e, λ g. from g)
  where
    to : number_to b (Reply channel first status) ≡ 16 → Given16 b channel first status
    to e =
        let c = checked_facts b (Reply channel first status) e (λ q. omega arith) (λ q. omega arith) in
        let s = skip (not (reply_status status)) 17 (pick (not (starts_at b.pending first)) 16 0) c.own (λ q. omega arith) in
        let t = hit (not (starts_at b.pending first)) 16 0 s.1 (λ q. omega arith) in
        record {
          rules = c.rules;
          own = own_fact b (Reply channel first status) c.here;
          right = status_fact status (not-false _ s.0);
          unasked = λ last q. clash (starts_test b.pending first last q) (not-true _ t);
        }

    from : Given16 b channel first status → number_to b (Reply channel first status) ≡ 16
    from g =
        checked_test b (Reply channel first status) g.rules (own_test b (Reply channel first status) g.own)
        ∙ simp (status_test status g.right, false_of (starts_at b.pending first) (λ e. let s = starts_fact b.pending first e in g.unasked s.last s.is))

-- ---- 10 of a span

bad_span_test : (a z : ℕ) → ((a ≡ 0) ⊎ (largest < a)) ⊎ ((z ≡ 0) ⊎ (largest < z)) → tick_number a && tick_number z ≡ false
bad_span_test a z (inl h) = ap (λ (x : Bool). x && tick_number z) (bad_tick_test a h)
bad_span_test a z (inr h) = ap (λ (x : Bool). tick_number a && x) (bad_tick_test z h) ∙ and_false (tick_number a)

bad_span_fact : (a z : ℕ) → tick_number a && tick_number z ≡ false → ((a ≡ 0) ⊎ (largest < a)) ⊎ ((z ≡ 0) ⊎ (largest < z))
bad_span_fact a z e =
    ⊎_elim (λ (t : tick_number a ≡ true). inr (bad_tick_fact z (sym (ap (λ (x : Bool). x && tick_number z) t) ∙ e))) (λ (f : tick_number a ≡ false). inl (bad_tick_fact a f)) (two (tick_number a))

span_right : (a z : ℕ) → tick_number a && tick_number z ≡ true → FineBetween a z
span_right a z e =
    let t = both (tick_number a) (tick_number z) e in
    let x = numbered a t.0 in
    let y = numbered z t.1 in
    record { from_above = x.0; from_digits = x.1; to_above = y.0; to_digits = y.1 }

pub span_wrong : (a z : ℕ) → (FineBetween a z → ⊥) → ((a ≡ 0) ⊎ (largest < a)) ⊎ ((z ≡ 0) ⊎ (largest < z))
span_wrong a z n = bad_span_fact a z (false_of (tick_number a && tick_number z) (λ e. n (span_right a z e)))

pub given_10_between : (b : Book) (channel a z : ℕ) → (number_to b (Ask (Between channel a z)) ≡ 10) ↔ Given10Between b channel a z
unfolding own_number
given_10_between b channel a z = (λ e. to e, λ g. from g)
  where
    to : number_to b (Ask (Between channel a z)) ≡ 10 → Given10Between b channel a z
    to e =
        let c = checked_facts b (Ask (Between channel a z)) e (λ q. omega arith) (λ q. omega arith) in
        let t = hit (not (tick_number a && tick_number z)) 10 0 c.own (λ q. omega arith) in
        record { rules = c.rules; own = own_fact b (Ask (Between channel a z)) c.here; number = bad_span_fact a z (not-true _ t) }

    from : Given10Between b channel a z → number_to b (Ask (Between channel a z)) ≡ 10
    from g = checked_test b (Ask (Between channel a z)) g.rules (own_test b (Ask (Between channel a z)) g.own) ∙ simp (bad_span_test a z g.number)

-- ---- 0

pub fine_fact : (b : Book) (call : Call) → StateRules b → own_number b call ≡ 0 → Fine b call
unfolding own_number
fine_fact b (Tick channel n) r e =
    let s = skip (not (tick_number n)) 10 (pick (has b n) 11 (pick (ltb (b.floor + 256) n) 12 0)) e (λ q. omega arith) in
    let t = skip (has b n) 11 (pick (ltb (b.floor + 256) n) 12 0) s.1 (λ q. omega arith) in
    let u = skip (ltb (b.floor + 256) n) 12 0 t.1 (λ q. omega arith) in
    let h = numbered n (not-false _ s.0) in
    record { above = h.0; digits = h.1; no_repeat = λ q. clash (settled_test b n q) t.0; near = ltb-false _ _ u.0 }
fine_fact b (Announce channel n) r e = ltb-false _ _ (skip (ltb largest n) 10 0 e (λ q. omega arith)).0
fine_fact b (Request channel) r e =
    let s = skip (is_pending b.pending) 14 (pick (eqb b.top b.floor) 15 0) e (λ q. omega arith) in
    let t = skip (eqb b.top b.floor) 15 0 s.1 (λ q. omega arith) in
    record { free = nothing_pending _ s.0; number = b.floor + 1; is_missing = next_missing b r (eqb-false _ _ t.0) }
fine_fact b (Reply channel first status) r e =
    let s = skip (not (reply_status status)) 17 (pick (not (starts_at b.pending first)) 16 0) e (λ q. omega arith) in
    let t = skip (not (starts_at b.pending first)) 16 0 s.1 (λ q. omega arith) in
    let u = starts_fact b.pending first (not-false _ t.0) in
    record { right = status_fact status (not-false _ s.0); last = u.last; own_request = u.is }
fine_fact b (Ask Missing) r e = tt
fine_fact b (Ask Held) r e = tt
fine_fact b (Ask (Between channel a z)) r e =
    let s = skip (not (tick_number a && tick_number z)) 10 0 e (λ q. omega arith) in
    span_right a z (not-false _ s.0)
fine_fact b Renew r e = tt

pub fine_test : (b : Book) (call : Call) → Fine b call → own_number b call ≡ 0
unfolding own_number
fine_test b (Tick channel n) f =
    simp (tick_test n f.above f.digits, false_of (has b n) (λ e. f.no_repeat (settled_fact b n e)), le-ltb _ _ f.near)
fine_test b (Announce channel n) f = simp (le-ltb _ _ f)
fine_test b (Request channel) f = simp (f.free, ne_eqb _ _ (λ e. whole_fact b e f.number f.is_missing))
fine_test b (Reply channel first status) f = simp (status_test status f.right, starts_test b.pending first f.last f.own_request)
fine_test b (Ask Missing) f = refl
fine_test b (Ask Held) f = refl
fine_test b (Ask (Between channel a z)) f = simp (tick_test a f.from_above f.from_digits, tick_test z f.to_above f.to_digits)
fine_test b Renew f = refl
