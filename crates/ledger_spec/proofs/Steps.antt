-- What one call does to a sound book, told in the words of demand 3: `Step`. The invariant of every
-- row of calls is built from it. A refusal leaves all as it was; a taken tick is received, and the
-- floor passes the run of held numbers above it; a reply of status 4 gives up what is missing of
-- the pending range, and the floor passes it and the run behind it. Assumes nothing.
use mathlib.Core.Path.{◌≡◌, refl, sym, ap, ap₂, ◌∙◌, subst}
use mathlib.Core.Logic.{◌⊎◌, inl, inr}
use mathlib.Core.Bool.{Bool, true, false, ◌&&◌, not}
use mathlib.Core.List.{List, [], ◌∷◌, ◌++◌}
use Prim.Native.Nat.{ℕ, suc, ◌+◌, ◌-◌, ◌/◌, ◌%◌, ◌^◌, ◌≤◌, ◌<◌, max}
use native.Mathlib.Nat.{add-zero, zero-add, le_refl, max-zero, lt_of_le_of_lt, lt_of_lt_of_le, mod-lt}
use native.Mathlib.Decide.{dec_lt, dec_le}
use native.Mathlib.Omega.{arith}
use borrow.Author.Tests.{not-false, eq-eqb, ne_eqb, eqb-true, eqb-false, le-leb, lt-leb, ltb-false, not-true}
use lib.Bits.{or_lt}
use lib.Count.{count_trailing_zeros}
use lib.Dec.{eqb, leb, ltb}
use lib.Pow.{pow-lt, pow_pos, pow_mono, shr_le, shr_lt}
use Rattle.terms.specs.Cases.{clash}
use Rattle.terms.specs.Paper.{Paper, answer, pick}
use Rattle.tick_map.specs.Bits.{bit, is_set, run}
use Rattle.tick_map.proofs.Laws.{run_le}
use Rattle.tick_map.proofs.Ring.{bit_mod}
use Rattle.tick_map.proofs.Digits.{bit_lt, bit_or_lem, bit_shr, bit_zero, bit_above, bit_set_same, bit_set_other, run_passed, run_stopped, trailing_stopped}
use Rattle.ledger_spec.specs.State.{Asked, nothing, range, Book, or_else, largest, has, sound_of, RangeRules, StateRules}
use Rattle.ledger_spec.specs.Calls.{Call, Tick, Announce, Request, Reply, Question, Missing, Held, Between, Ask, Renew, tick_number, reply_status, is_pending, starts_at, elsewhere, own_number, checked_of, number_to, marked, passes, moved, taken, last_of, reach, covered, leaps, gave_up, handed, replied, raised, waiting, asked, done, next_at, values_of, beside, answer_at, answer_to, next_of, fresh, open_of}
use Rattle.ledger_spec.specs.Words.{receives, in_set, gives_up, numbers, chosen, named_by, offers, still_pending, one, ticks, count}
use Rattle.ledger_spec.proofs.Tests.{pick_cases}
use Rattle.ledger_spec.proofs.Rows.{or_true, or_false, or_not, append_nil, numbers_join, chosen_ext, chosen_all, chosen_none, chosen_append, count_one, count_ext}
use Rattle.ledger_spec.proofs.Masks.{mask_bit, bit_not, flip}
use Rattle.ledger_spec.proofs.Rules.{has_below, has_above, none_beyond, bits_top, rules_test, above_floor}
use Rattle.ledger_spec.proofs.Numbers.{numbered}

pub record Step (b : Book) (call : Call) (next : Book) (a : Paper) : Type 0 where
  pub rules : StateRules next
  pub channel_same : next.channel ≡ b.channel
  pub settles : (n : ℕ) → has next (suc n) ≡ or_else (receives call a (suc n)) (or_else (gives_up call a (suc n)) (has b (suc n)))
  pub anew : (n : ℕ) → or_else (receives call a n) (gives_up call a n) ≡ true → has b n ≡ false
  pub not_both : (n : ℕ) → receives call a n ≡ true → gives_up call a n ≡ false
  pub zero_received : receives call a 0 ≡ false
  pub zero_given : gives_up call a 0 ≡ false
  pub given_low : (n : ℕ) → gives_up call a n ≡ true → n ≤ next.floor
  pub top_is : next.top ≡ max b.top (offers call a)
  pub passed : ℕ
  pub floor_is : next.floor ≡ b.floor + passed
  pub names : named_by call a ≡ chosen (λ n. or_else (receives call a n) (has b n)) (numbers (b.floor + 1) passed)
  pub pending_is : next.pending ≡ still_pending call a b.pending
  pub range_anew : (x y n : ℕ) → next.pending ≡ range x y → (gives_up call a n ≡ false) × ((b.pending ≡ range x y) ⊎ (b.floor < x))
  pub once : (old : ℕ → Bool) → ((n : ℕ) → receives call a n ≡ true → old n ≡ false)
      → count (λ n. or_else (receives call a n) (old n)) next.top ≡ ticks call a + count old next.top

-- a call that marks nothing, gives nothing up, hands out nothing and leaves floor and map
quiet : (b : Book) (call : Call) (next : Book) (a : Paper) → StateRules next → next.channel ≡ b.channel → next.floor ≡ b.floor → next.bits ≡ b.bits
    → ((n : ℕ) → receives call a n ≡ false) → ((n : ℕ) → gives_up call a n ≡ false) → next.top ≡ max b.top (offers call a) → named_by call a ≡ []
    → next.pending ≡ still_pending call a b.pending → ((x y : ℕ) → next.pending ≡ range x y → (b.pending ≡ range x y) ⊎ (b.floor < x)) → ticks call a ≡ 0
    → Step b call next a
unfolding has numbers chosen
quiet b call next a r c f v n u t h p q k =
    record {
      rules = r;
      channel_same = c;
      settles = λ x. ap₂ (λ (y z : ℕ). or_else (leb (suc x) y) (is_set z (suc x - y - 1))) f v ∙ sym (ap₂ (λ (s t : Bool). or_else s (or_else t (has b (suc x)))) (n (suc x)) (u (suc x)));
      anew = λ x e. absurd (clash e (ap₂ or_else (n x) (u x)));
      not_both = λ x e. u x;
      zero_received = n 0;
      zero_given = u 0;
      given_low = λ x e. absurd (clash e (u x));
      top_is = t;
      passed = 0;
      floor_is = f ∙ sym (add-zero _);
      names = h;
      pending_is = p;
      range_anew = λ x y z e. (u z, q x y e);
      once = λ old g. count_ext (λ x. or_else (receives call a x) (old x)) old next.top (λ x l m. ap (λ (s : Bool). or_else s (old x)) (n x)) ∙ sym (ap (λ (x : ℕ). x + count old next.top) k ∙ zero-add _);
    }

-- ======== A refusal

module _ (k : ℕ) (refused : eqb k 0 ≡ false) where
  refused_receives : (call : Call) (n : ℕ) → receives call (answer k (beside call)) n ≡ false
  refused_receives (Tick c m) n = ap (λ (t : Bool). t && eqb n m) refused
  refused_receives (Announce c m) n = refl
  refused_receives (Request c) n = refl
  refused_receives (Reply c f s) n = refl
  refused_receives (Ask q) n = refl
  refused_receives Renew n = refl

  refused_gives : (call : Call) (n : ℕ) → gives_up call (answer k (beside call)) n ≡ false
  refused_gives (Tick c m) n = refl
  refused_gives (Announce c m) n = refl
  refused_gives (Request c) n = refl
  refused_gives (Reply c f s) n = simp refused
  refused_gives (Ask q) n = refl
  refused_gives Renew n = refl

  refused_names : (call : Call) → named_by call (answer k (beside call)) ≡ []
  unfolding named_by
  refused_names (Tick c m) = simp refused
  refused_names (Announce c m) = refl
  refused_names (Request c) = refl
  refused_names (Reply c f s) = simp refused
  refused_names (Ask q) = refl
  refused_names Renew = refl

  refused_pending : (call : Call) (was : Asked) → was ≡ still_pending call (answer k (beside call)) was
  unfolding still_pending
  refused_pending (Tick c m) was = refl
  refused_pending (Announce c m) was = refl
  refused_pending (Request c) was = simp refused
  refused_pending (Reply c f s) was = simp refused
  refused_pending (Ask q) was = refl
  refused_pending Renew was = simp refused

  refused_ticks : (call : Call) → ticks call (answer k (beside call)) ≡ 0
  unfolding ticks
  refused_ticks (Tick c m) = ap one refused
  refused_ticks (Announce c m) = refl
  refused_ticks (Request c) = refl
  refused_ticks (Reply c f s) = refl
  refused_ticks (Ask q) = refl
  refused_ticks Renew = refl

  -- a refusal that leaves the book as it was
  stays : (b : Book) (call : Call) → StateRules b → offers call (answer k (beside call)) ≤ b.top → Step b call b (answer k (beside call))
  stays b call r h =
      quiet b call b (answer k (beside call)) r refl refl refl (refused_receives call) (refused_gives call) (omega arith) (refused_names call) (refused_pending call b.pending) (λ x y e. inl e) (refused_ticks call)

other_channel : (b : Book) (call : Call) → offers call (answer 18 (beside call)) ≤ b.top
unfolding offers
other_channel b (Tick c n) = omega arith
other_channel b (Announce c n) = omega arith
other_channel b (Request c) = omega arith
other_channel b (Reply c f s) = omega arith
other_channel b (Ask q) = omega arith
other_channel b Renew = omega arith

-- ======== The rules of the next book

-- a pending request stays within the rules when floor and top rise
range_kept : (p : Asked) (f t f' t' : ℕ) → f ≤ f' → t ≤ t' → ((x y : ℕ) → p ≡ range x y → RangeRules x y f t) → (x y : ℕ) → p ≡ range x y → RangeRules x y f' t'
range_kept p f t f' t' u v g x y e =
    let r = g x y e in
    record { starts = r.starts; starts_low = omega arith; ends = r.ends; ends_low = omega arith; short = r.short }

raised_rules : (b : Book) (n : ℕ) → StateRules b → n ≤ largest → StateRules (raised b n)
unfolding raised has
raised_rules b n r h =
    record {
      channel_small = r.channel_small;
      low = omega (arith, r.low);
      top_small = omega (arith, r.top_small);
      places = r.places;
      next_not_held = r.next_not_held;
      none_above = λ x p. r.none_above x (omega arith);
      range_right = range_kept b.pending _ _ _ _ (le_refl _) (omega arith) r.range_right;
    }

waiting_rules : (b : Book) (p : Asked) → StateRules b → ((x y : ℕ) → p ≡ range x y → RangeRules x y b.floor b.top) → StateRules (waiting b p)
unfolding waiting has
waiting_rules b p r g =
    record {
      channel_small = r.channel_small;
      low = r.low;
      top_small = r.top_small;
      places = r.places;
      next_not_held = r.next_not_held;
      none_above = r.none_above;
      range_right = g;
    }

pub never_range : (x y : ℕ) → nothing ≡ range x y → ⊥
never_range x y e = let z : ◌≡◌ {A = ℕ} 0 1 = cc in omega arith

pub fresh_rules : (channel : ℕ) → channel ≤ 9999 → StateRules (fresh channel)
unfolding fresh
fresh_rules channel h =
    record {
      channel_small = h;
      low = omega arith;
      top_small = omega arith;
      places = pow_pos 256;
      next_not_held = bit_zero 0;
      none_above = none_beyond (fresh channel) (omega arith) (pow_pos 0);
      range_right = λ x y e. absurd (never_range x y e);
    }

-- ======== The floor moves over a run of the map

module _ (b : Book) (k m t : ℕ) (p : Asked) (r : StateRules b) (is : k ≡ run 256 m) (places : m < 2 ^ 256) (rise : b.top ≤ t) (span : m < 2 ^ (t - b.floor)) where
  run_passes : (i : ℕ) → i < k → bit m i ≡ 1
  run_passes i h = run_passed 256 m i (omega arith)

  -- the floor passes none above the top
  moved_span : k ≤ t - b.floor
  moved_span = elim (dec_le k (t - b.floor)) [ yes h ↦ h | no g ↦ absurd (never (omega arith)) ]
    where
      never : t - b.floor < k → ⊥
      never h =
          let x : bit m (t - b.floor) ≡ 1 = run_passes (t - b.floor) h in
          let y : bit m (t - b.floor) ≡ 0 = bit_above (t - b.floor) (t - b.floor) span (le_refl _) in
          omega arith

  rest_lt : m / 2 ^ k < 2 ^ (t - (b.floor + k))
  rest_lt =
      let e : t - (b.floor + k) + k ≡ t - b.floor = omega (arith, moved_span) in
      shr_lt (t - (b.floor + k)) k (subst (λ (x : ℕ). m < 2 ^ x) (sym e) span)

  stop : bit m k ≡ 0
  stop = ap (bit m) is ∙ elim (dec_lt (run 256 m) 256) [ yes h ↦ run_stopped 256 m h | no h ↦ bit_above 256 (run 256 m) places (omega arith) ]

  moved_rules : t ≤ largest → ((x y : ℕ) → p ≡ range x y → RangeRules x y (b.floor + k) t) → StateRules (moved b k m t p)
  moved_rules digits g =
      record {
        channel_small = r.channel_small;
        low = omega (arith, moved_span, r.low);
        top_small = digits;
        places = lt_of_le_of_lt (shr_le m k) places;
        next_not_held = bit_shr m k 0 ∙ ap (bit m) (add-zero k) ∙ stop;
        none_above = none_beyond (moved b k m t p) (omega (arith, moved_span, r.low)) rest_lt;
        range_right = g;
      }

  -- up to the new floor all are settled, and those above the old one were a run of places
  moved_below : (x : ℕ) → x ≤ b.floor + k → has (moved b k m t p) x ≡ true
  moved_below x h = has_below (moved b k m t p) x h

  -- above it each place has moved down by as many as were passed
  moved_above : (x : ℕ) → b.floor < x → has (moved b k m t p) x ≡ is_set m (x - b.floor - 1)
  moved_above x l = elim (dec_le x (b.floor + k)) [
    | yes q ↦ moved_below x q ∙ sym (ap (λ (d : ℕ). eqb d 1) (run_passes (x - b.floor - 1) (omega arith)))
    | no q ↦ (
        let i : k + (x - (b.floor + k) - 1) ≡ x - b.floor - 1 = omega arith in
        has_above (moved b k m t p) x (omega arith) ∙ ap (λ (d : ℕ). eqb d 1) (bit_shr m k (x - (b.floor + k) - 1) ∙ ap (bit m) i))
  ]

-- ======== A tick that is taken

-- the span of the known numbers above the floor holds all digits
span_lt : (b : Book) (n : ℕ) → StateRules b → b.floor < n → marked b n < 2 ^ (max b.top n - b.floor)
span_lt b n r lo =
    let a : b.top - b.floor ≤ max b.top n - b.floor = omega arith in
    let i : n - b.floor - 1 < max b.top n - b.floor = omega arith in
    or_lt (max b.top n - b.floor) b.bits (2 ^ (n - b.floor - 1)) (lt_of_lt_of_le (bits_top b r) (pow_mono a)) (pow-lt i)

module _ (b : Book) (n : ℕ) (r : StateRules b) (lo : b.floor < n) (near : n ≤ b.floor + 256) where
  marked_lt : marked b n < 2 ^ 256
  marked_lt = let h : n - b.floor - 1 < 256 = omega arith in or_lt 256 b.bits (2 ^ (n - b.floor - 1)) r.places (pow-lt h)

  taken_rules : n ≤ largest → StateRules (taken b n)
  unfolding taken passes
  taken_rules digits =
      moved_rules b _ (marked b n) (max b.top n) b.pending r refl marked_lt (omega arith) (span_lt b n r lo) (omega (arith, r.top_small))
      (range_kept b.pending _ _ _ _ (omega arith) (omega arith) r.range_right)

  -- a number above the floor, by its digit
  marked_at : (x : ℕ) → b.floor < x → is_set (marked b n) (x - b.floor - 1) ≡ or_else (eqb x n) (is_set b.bits (x - b.floor - 1))
  marked_at x h = elim (dec_le x n) [
    | yes p ↦ elim (dec_le n x) [
      | yes q ↦ same (omega arith)
      | no q ↦ other (λ e. q (omega arith))
    ]
    | no p ↦ other (λ e. p (omega arith))
  ]
    where
      same : x ≡ n → is_set (marked b n) (x - b.floor - 1) ≡ or_else (eqb x n) (is_set b.bits (x - b.floor - 1))
      same e =
          ap (λ (y : ℕ). is_set (marked b n) (y - b.floor - 1)) e ∙ ap (λ (d : ℕ). eqb d 1) (bit_set_same b.bits (n - b.floor - 1))
          ∙ ap (λ (t : Bool). or_else t (is_set b.bits (x - b.floor - 1))) (sym (eq-eqb x n e))

      other : (x ≡ n → ⊥) → is_set (marked b n) (x - b.floor - 1) ≡ or_else (eqb x n) (is_set b.bits (x - b.floor - 1))
      other g =
          let ne : x - b.floor - 1 ≡ n - b.floor - 1 → ⊥ = λ e. g (omega arith) in
          ap (λ (d : ℕ). eqb d 1) (bit_set_other b.bits (n - b.floor - 1) (x - b.floor - 1) ne)
          ∙ ap (λ (t : Bool). or_else t (is_set b.bits (x - b.floor - 1))) (sym (ne_eqb x n g))

  passed_has : (x : ℕ) → x ≤ b.floor + passes b n → has (taken b n) x ≡ true
  unfolding taken
  passed_has x h = has_below (taken b n) x h

  above_has : (x : ℕ) → b.floor < x → has (taken b n) x ≡ is_set (marked b n) (x - b.floor - 1)
  unfolding taken passes
  above_has x l = moved_above b _ (marked b n) (max b.top n) b.pending r refl marked_lt (omega arith) (span_lt b n r lo) x l

  -- the numbers settled after the tick are those before it, and n
  taken_has : (x : ℕ) → has (taken b n) x ≡ or_else (eqb x n) (has b x)
  taken_has x = elim (dec_le x b.floor) [
    | yes p ↦ passed_has x (omega arith) ∙ sym (ap₂ or_else (ne_eqb x n (λ e. omega arith)) (has_below b x p))
    | no p ↦ above (omega arith)
  ]
    where
      above : b.floor < x → has (taken b n) x ≡ or_else (eqb x n) (has b x)
      above l = above_has x l ∙ marked_at x l ∙ ap (or_else (eqb x n)) (sym (has_above b x l))

taken_step : (b : Book) (channel n : ℕ) → StateRules b → 1 ≤ n → n ≤ largest → has b n ≡ false → n ≤ b.floor + 256
    → Step b (Tick channel n) (taken b n) (answer 0 ((b.floor + 1) ∷ passes b n ∷ []))
unfolding taken offers named_by still_pending ticks
taken_step b channel n r above digits new near =
    let lo = above_floor b n new in
    record {
      rules = taken_rules b n r lo near digits;
      channel_same = refl;
      settles = λ x. taken_has b n r lo near (suc x);
      anew = λ x e. ap (has b) (eqb-true x n (sym (or_false (eqb x n)) ∙ e)) ∙ new;
      not_both = λ x e. refl;
      zero_received = ne_eqb 0 n (λ e. omega arith);
      zero_given = refl;
      given_low = λ x e. absurd (clash e refl);
      top_is = refl;
      passed = passes b n;
      floor_is = refl;
      names = sym (chosen_all (λ x. or_else (eqb x n) (has b x)) (b.floor + 1) (passes b n) (λ x p q. sym (taken_has b n r lo near x) ∙ passed_has b n r lo near x (omega arith)));
      pending_is = refl;
      range_anew = λ x y z e. (refl, inl e);
      once = λ old g. count_one old n (max b.top n) above (omega arith) (g n (eq-eqb n n refl));
    }

-- ======== The other calls, where they are answered 0 (and a tick answered 12)

far_step : (b : Book) (channel n : ℕ) → StateRules b → n ≤ largest → Step b (Tick channel n) (raised b n) (answer 12 [])
unfolding raised offers named_by still_pending ticks
far_step b channel n r digits = quiet b (Tick channel n) (raised b n) (answer 12 []) (raised_rules b n r digits) refl refl refl (λ x. refl) (λ x. refl) refl refl refl (λ x y e. inl e) refl

announce_step : (b : Book) (channel n : ℕ) → StateRules b → n ≤ largest → Step b (Announce channel n) (raised b n) (answer 0 [])
unfolding raised offers named_by still_pending ticks
announce_step b channel n r digits = quiet b (Announce channel n) (raised b n) (answer 0 []) (raised_rules b n r digits) refl refl refl (λ x. refl) (λ x. refl) refl refl refl (λ x y e. inl e) refl

-- what is asked for: some number, none above the top, at most 200
pub record Asks (b : Book) (k : ℕ) : Type 0 where
  pub some : 1 ≤ k
  pub low : k ≤ b.top - b.floor
  pub short : k ≤ 200

pub asks : (b : Book) → StateRules b → (b.top ≡ b.floor → ⊥) → Asks b (asked b)
unfolding asked
asks b r g =
    let t : 1 ≤ count_trailing_zeros 256 b.bits = elim (dec_le 1 (count_trailing_zeros 256 b.bits)) [ yes h ↦ h | no h ↦ absurd (never (omega arith)) ] in
    let d : 1 ≤ b.top - b.floor = some_above r.low in
    record { some = omega arith; low = omega arith; short = omega arith }
  where
    never : count_trailing_zeros 256 b.bits ≡ 0 → ⊥
    never e =
        let p : bit b.bits (count_trailing_zeros 256 b.bits) ≡ 1 = trailing_stopped 256 b.bits (omega arith) in
        let q : bit b.bits 0 ≡ 1 = subst (λ (i : ℕ). bit b.bits i ≡ 1) e p in
        omega (arith, r.next_not_held)

    some_above : b.floor ≤ b.top → 1 ≤ b.top - b.floor
    some_above h = elim (dec_le b.top b.floor) [ yes k ↦ absurd (g (omega arith)) | no k ↦ omega arith ]

range_is : (a e x y : ℕ) → range a e ≡ range x y → (a ≡ x) × (e ≡ y)
range_is a e x y q = (cc, cc)

granted_rules : (b : Book) (k : ℕ) → StateRules b → Asks b k → (x y : ℕ) → range (b.floor + 1) (b.floor + k) ≡ range x y → RangeRules x y b.floor b.top
granted_rules b k r a x y e =
    let q = range_is (b.floor + 1) (b.floor + k) x y e in
    let l = r.low in
    record { starts = omega arith; starts_low = omega arith; ends = omega arith; ends_low = omega arith; short = omega arith }

granted_step : (b : Book) (channel k : ℕ) → StateRules b → Asks b k
    → Step b (Request channel) (waiting b (range (b.floor + 1) (b.floor + k))) (answer 0 ((b.floor + 1) ∷ (b.floor + k) ∷ []))
unfolding waiting offers named_by still_pending ticks
granted_step b channel k r a =
    quiet b (Request channel) (waiting b (range (b.floor + 1) (b.floor + k))) (answer 0 ((b.floor + 1) ∷ (b.floor + k) ∷ []))
    (waiting_rules b _ r (granted_rules b k r a)) refl refl refl (λ x. refl) (λ x. refl) (sym (max-zero _)) refl refl
    (λ x y e. let q = range_is _ _ x y e in inr (omega arith)) refl

-- ======== A reply: the w numbers above the floor are given up where they were not received

module _ (b : Book) (r : StateRules b) (w : ℕ) (known : w ≤ b.top - b.floor) (short : w ≤ 256) where
  mask_small : 2 ^ w - 1 < 2 ^ w
  mask_small = let p : 0 < 2 ^ w = pow_pos w in omega arith

  pub covered_lt : covered b w < 2 ^ 256
  covered_lt = or_lt 256 b.bits (2 ^ w - 1) r.places (lt_of_lt_of_le mask_small (pow_mono short))

  covered_span : covered b w < 2 ^ (b.top - b.floor)
  covered_span = or_lt (b.top - b.floor) b.bits (2 ^ w - 1) (bits_top b r) (lt_of_lt_of_le mask_small (pow_mono known))

  pub covered_in : (i : ℕ) → i < w → bit (covered b w) i ≡ 1
  covered_in i h = bit_or_lem b.bits (2 ^ w - 1) i ∙ omega (arith, mask_bit w i h, bit_lt b.bits i)

  pub covered_out : (i : ℕ) → w ≤ i → bit (covered b w) i ≡ bit b.bits i
  covered_out i h = bit_or_lem b.bits (2 ^ w - 1) i ∙ omega (arith, bit_above w i mask_small h)

  pub leaps_is : leaps b w ≡ run 256 (covered b w)
  unfolding leaps
  leaps_is = refl

  -- the floor passes the whole range
  pub leaps_cover : w ≤ leaps b w
  leaps_cover = elim (dec_le w (leaps b w)) [ yes h ↦ h | no h ↦ absurd (never (omega arith)) ]
    where
      never : leaps b w < w → ⊥
      never h =
          let e = leaps_is in
          let p : bit (covered b w) (run 256 (covered b w)) ≡ 0 = run_stopped 256 (covered b w) (omega arith) in
          let q : bit (covered b w) (run 256 (covered b w)) ≡ 1 = covered_in _ (omega arith) in
          omega arith

  pub leaps_short : leaps b w ≤ 256
  leaps_short = omega (arith, leaps_is, run_le 256 (covered b w))

  replied_rules : StateRules (replied b w)
  unfolding replied
  replied_rules = moved_rules b (leaps b w) (covered b w) b.top nothing r leaps_is covered_lt (le_refl _) covered_span r.top_small (λ x y e. absurd (never_range x y e))

  replied_above : (x : ℕ) → b.floor < x → has (replied b w) x ≡ is_set (covered b w) (x - b.floor - 1)
  unfolding replied
  replied_above x l = moved_above b (leaps b w) (covered b w) b.top nothing r leaps_is covered_lt (le_refl _) covered_span x l

  pub replied_below : (x : ℕ) → x ≤ b.floor + leaps b w → has (replied b w) x ≡ true
  unfolding replied
  replied_below x l = has_below (replied b w) x l

  -- the given-up digits: those of the range that are not held
  gave_in : (i : ℕ) → i < w → is_set (gave_up b w) i ≡ not (is_set b.bits i)
  unfolding gave_up
  gave_in i h =
      ap (λ (d : ℕ). eqb d 1) (bit_not w i (b.bits % 2 ^ w) (mod-lt _ (pow_pos w)) h ∙ ap (λ (d : ℕ). 1 - d) (bit_mod b.bits w i h))
      ∙ flip (bit b.bits i) (bit_lt b.bits i)

  gave_out : (i : ℕ) → w ≤ i → is_set (gave_up b w) i ≡ false
  unfolding gave_up
  gave_out i h = ap (λ (d : ℕ). eqb d 1) (bit_above w i (omega (arith, mask_small)) h)

  abbrev gives : ℕ → Bool
  gives x = in_set (b.floor + 1) (gave_up b w) x

  gives_at : (x : ℕ) → b.floor < x → gives x ≡ is_set (gave_up b w) (x - b.floor - 1)
  gives_at x l =
      let lo : b.floor + 1 ≤ x = omega arith in
      let e : x - (b.floor + 1) ≡ x - b.floor - 1 = omega arith in
      simp (le-leb _ _ lo) (ap (is_set (gave_up b w)) e)

  pub gives_low : (x : ℕ) → x ≤ b.floor → gives x ≡ false
  gives_low x l = let lo : x < b.floor + 1 = omega arith in simp (lt-leb _ _ lo)

  -- a number is given up exactly where it lies above the floor, in the range, and was not received
  pub gives_in : (x : ℕ) → b.floor < x → x ≤ b.floor + w → gives x ≡ not (has b x)
  gives_in x l u = gives_at x l ∙ gave_in (x - b.floor - 1) (omega arith) ∙ ap not (sym (has_above b x l))

  pub gives_out : (x : ℕ) → b.floor + w < x → gives x ≡ false
  gives_out x l = gives_at x (omega arith) ∙ gave_out (x - b.floor - 1) (omega arith)

  pub replied_has : (x : ℕ) → has (replied b w) x ≡ or_else (gives x) (has b x)
  replied_has x = elim (dec_le x b.floor) [
    | yes p ↦ replied_below x (omega arith) ∙ sym (ap (or_else (gives x)) (has_below b x p) ∙ or_true (gives x))
    | no p ↦ elim (dec_le x (b.floor + w)) [
      | yes q ↦ replied_below x (omega (arith, leaps_cover)) ∙ sym (ap (λ (t : Bool). or_else t (has b x)) (gives_in x (omega arith) q) ∙ or_not (has b x))
      | no q ↦ (
          let l : b.floor < x = omega arith in
          replied_above x l ∙ ap (λ (d : ℕ). eqb d 1) (covered_out (x - b.floor - 1) (omega arith)) ∙ sym (has_above b x l)
          ∙ sym (ap (λ (t : Bool). or_else t (has b x)) (gives_out x (omega arith))))
    ]
  ]

  pub gives_facts : (x : ℕ) → gives x ≡ true → (has b x ≡ false) × (x ≤ b.floor + w)
  gives_facts x e = elim (dec_le x b.floor) [
    | yes p ↦ absurd (clash e (gives_low x p))
    | no p ↦ elim (dec_le x (b.floor + w)) [
      | yes q ↦ (not-true _ (sym (gives_in x (omega arith) q) ∙ e), q)
      | no q ↦ absurd (clash e (gives_out x (omega arith)))
    ]
  ]

  -- the passed digits: those that the floor passed and that were held
  abbrev hands : ℕ → Bool
  hands x = in_set (b.floor + 1) (handed b w) x

  hands_at : (x : ℕ) → b.floor < x → hands x ≡ is_set (handed b w) (x - b.floor - 1)
  hands_at x l =
      let lo : b.floor + 1 ≤ x = omega arith in
      let e : x - (b.floor + 1) ≡ x - b.floor - 1 = omega arith in
      simp (le-leb _ _ lo) (ap (is_set (handed b w)) e)

  pub hands_in : (x : ℕ) → b.floor < x → x ≤ b.floor + leaps b w → hands x ≡ has b x
  unfolding handed
  hands_in x l u = hands_at x l ∙ ap (λ (d : ℕ). eqb d 1) (bit_mod b.bits (leaps b w) (x - b.floor - 1) (omega arith)) ∙ sym (has_above b x l)

  pub hands_out : (x : ℕ) → b.floor + leaps b w < x → hands x ≡ false
  unfolding handed
  hands_out x l = hands_at x (omega arith) ∙ ap (λ (d : ℕ). eqb d 1) (bit_above (leaps b w) (x - b.floor - 1) (mod-lt _ (pow_pos (leaps b w))) (omega arith))

  reply_names : chosen hands (numbers (b.floor + 1) 256) ≡ chosen (has b) (numbers (b.floor + 1) (leaps b w))
  reply_names =
      let e : 256 ≡ leaps b w + (256 - leaps b w) = omega (arith, leaps_short) in
      ap (λ (x : ℕ). chosen hands (numbers (b.floor + 1) x)) e
      ∙ ap (chosen hands) (sym (numbers_join (b.floor + 1) (leaps b w) (256 - leaps b w)))
      ∙ chosen_append hands (numbers (b.floor + 1) (leaps b w)) (numbers (b.floor + 1 + leaps b w) (256 - leaps b w))
      ∙ ap₂ (λ (x y : List ℕ). x ++ y) (chosen_ext hands (has b) (b.floor + 1) (leaps b w) (λ x p q. hands_in x (omega arith) (omega arith)))
      (chosen_none hands (b.floor + 1 + leaps b w) (256 - leaps b w) (λ x p q. hands_out x (omega arith)))
      ∙ append_nil _

pub replied_floor : (b : Book) (w : ℕ) → (replied b w).floor ≡ b.floor + leaps b w
unfolding replied
replied_floor b w = refl

replied_step : (b : Book) (channel first status w : ℕ) → StateRules b → w ≤ b.top - b.floor → w ≤ 256
    → Step b (Reply channel first status) (replied b w) (answer 0 ((b.floor + 1) ∷ gave_up b w ∷ handed b w ∷ []))
unfolding replied offers named_by still_pending ticks
replied_step b channel first status w r known short =
    record {
      rules = replied_rules b r w known short;
      channel_same = refl;
      settles = λ n. replied_has b r w known short (suc n);
      anew = λ n e. (gives_facts b r w known short n e).0;
      not_both = λ n e. absurd (clash e refl);
      zero_received = refl;
      zero_given = gives_low b r w known short 0 (omega arith);
      given_low = λ n e. omega (arith, (gives_facts b r w known short n e).1, leaps_cover b r w known short);
      top_is = sym (max-zero _);
      passed = leaps b w;
      floor_is = refl;
      names = reply_names b r w known short;
      pending_is = refl;
      range_anew = λ x y n e. absurd (never_range x y e);
      once = λ old g. sym (zero-add _);
    }

-- the pending range lies within the map and below the top
pub reach_near : (b : Book) (status : ℕ) → StateRules b → (reach b status ≤ b.top - b.floor) × (reach b status ≤ 256)
unfolding reach
reach_near b status r = pick_cases (λ w. (w ≤ b.top - b.floor) × (w ≤ 256)) (eqb status 4) (last_of b.pending - b.floor) 0 (λ e. near b.pending r.range_right) (λ e. (omega arith, omega arith))
  where
    near : (p : Asked) → ((x y : ℕ) → p ≡ range x y → RangeRules x y b.floor b.top) → (last_of p - b.floor ≤ b.top - b.floor) × (last_of p - b.floor ≤ 256)
    near nothing g = (omega arith, omega arith)
    near (range x y) g = let q = g x y refl in (omega (arith, q.ends_low), omega (arith, q.starts_low, q.short))

-- ======== Every call

-- a call of the number k
abbrev At : Book → Call → ℕ → Type 0
At b call k = Step b call (next_at b call k) (answer_at b call k)

-- a repeat offers no number above the top
repeat_low : (b : Book) (channel n : ℕ) → StateRules b → has b n ≡ true → offers (Tick channel n) (answer 11 []) ≤ b.top
unfolding offers
repeat_low b channel n r e = elim (dec_le n b.top) [ yes h ↦ h | no h ↦ absurd (clash e (r.none_above n (omega arith))) ]

number_low : (b : Book) (channel n : ℕ) → offers (Tick channel n) (answer 10 []) ≤ b.top
unfolding offers
number_low b channel n = omega arith

tick_step : (b : Book) (channel n : ℕ) → StateRules b → At b (Tick channel n) (own_number b (Tick channel n))
unfolding own_number values_of done
tick_step b channel n r =
    pick_cases (λ k. At b (Tick channel n) k) (not (tick_number n)) 10 (pick (has b n) 11 (pick (ltb (b.floor + 256) n) 12 0))
    (λ e. stays 10 refl b (Tick channel n) r (number_low b channel n))
    (λ number. let h = numbered n (not-false _ number) in
    pick_cases (λ k. At b (Tick channel n) k) (has b n) 11 (pick (ltb (b.floor + 256) n) 12 0)
    (λ e. stays 11 refl b (Tick channel n) r (repeat_low b channel n r e))
    (λ new. pick_cases (λ k. At b (Tick channel n) k) (ltb (b.floor + 256) n) 12 0
    (λ e. far_step b channel n r h.1)
    (λ near. taken_step b channel n r h.0 h.1 new (ltb-false _ _ near))))

announcement_step : (b : Book) (channel n : ℕ) → StateRules b → At b (Announce channel n) (own_number b (Announce channel n))
unfolding own_number values_of done offers
announcement_step b channel n r =
    pick_cases (λ k. At b (Announce channel n) k) (ltb largest n) 10 0
    (λ e. stays 10 refl b (Announce channel n) r (omega arith))
    (λ digits. announce_step b channel n r (ltb-false _ _ digits))

request_step : (b : Book) (channel : ℕ) → StateRules b → At b (Request channel) (own_number b (Request channel))
unfolding own_number values_of done offers
request_step b channel r =
    pick_cases (λ k. At b (Request channel) k) (is_pending b.pending) 14 (pick (eqb b.top b.floor) 15 0)
    (λ e. stays 14 refl b (Request channel) r (omega arith))
    (λ free. pick_cases (λ k. At b (Request channel) k) (eqb b.top b.floor) 15 0
    (λ e. stays 15 refl b (Request channel) r (omega arith))
    (λ some. granted_step b channel (asked b) r (asks b r (eqb-false _ _ some))))

reply_step : (b : Book) (channel first status : ℕ) → StateRules b → At b (Reply channel first status) (own_number b (Reply channel first status))
unfolding own_number values_of done offers
reply_step b channel first status r =
    pick_cases (λ k. At b (Reply channel first status) k) (not (reply_status status)) 17 (pick (not (starts_at b.pending first)) 16 0)
    (λ e. stays 17 refl b (Reply channel first status) r (omega arith))
    (λ right. pick_cases (λ k. At b (Reply channel first status) k) (not (starts_at b.pending first)) 16 0
    (λ e. stays 16 refl b (Reply channel first status) r (omega arith))
    (λ own. let n = reach_near b status r in replied_step b channel first status (reach b status) r n.0 n.1))

-- a question leaves all as it was
asked_step : (b : Book) (q : Question) → StateRules b → At b (Ask q) 0
unfolding done offers named_by still_pending ticks
asked_step b q r = quiet b (Ask q) b (answer 0 (values_of b (Ask q))) r refl refl refl (λ x. refl) (λ x. refl) (sym (max-zero _)) refl refl (λ x y e. inl e) refl

question_low : (b : Book) (q : Question) (k : ℕ) → offers (Ask q) (answer k (beside (Ask q))) ≤ b.top
unfolding offers
question_low b q k = omega arith

question_step : (b : Book) (q : Question) → StateRules b → At b (Ask q) (own_number b (Ask q))
unfolding own_number
question_step b Missing r = asked_step b Missing r
question_step b Held r = asked_step b Held r
question_step b (Between channel a z) r =
    pick_cases (λ k. At b (Ask (Between channel a z)) k) (not (tick_number a && tick_number z)) 10 0
    (λ e. stays 10 refl b (Ask (Between channel a z)) r (question_low b (Between channel a z) 10)) (λ e. asked_step b (Between channel a z) r)

-- a new session clears the pending request alone
renew_step : (b : Book) → StateRules b → At b Renew (own_number b Renew)
unfolding own_number values_of done waiting offers named_by still_pending ticks
renew_step b r =
    quiet b Renew (waiting b nothing) (answer 0 []) (waiting_rules b nothing r (λ x y e. absurd (never_range x y e))) refl refl refl (λ x. refl) (λ x. refl) (sym (max-zero _)) refl refl
    (λ x y e. absurd (never_range x y e)) refl

own_step : (b : Book) (call : Call) → StateRules b → At b call (own_number b call)
own_step b (Tick channel n) r = tick_step b channel n r
own_step b (Announce channel n) r = announcement_step b channel n r
own_step b (Request channel) r = request_step b channel r
own_step b (Reply channel first status) r = reply_step b channel first status r
own_step b (Ask q) r = question_step b q r
own_step b Renew r = renew_step b r

-- 13 never shows on a sound book, and 18 leaves all as it was
pub step : (b : Book) (call : Call) → StateRules b → Step b call (next_of b call) (answer_to b call)
unfolding next_of answer_to number_to checked_of
step b call r =
    pick_cases (λ k. At b call k) (not (sound_of b)) 13 (pick (elsewhere b call) 18 (own_number b call))
    (λ e. absurd (clash (rules_test b r) (not-true _ e)))
    (λ e. pick_cases (λ k. At b call k) (elsewhere b call) 18 (own_number b call)
    (λ g. stays 18 refl b call r (other_channel b call))
    (λ g. own_step b call r))

-- calls never break the state rules, and opening starts with them
pub rules_kept : (b : Book) (call : Call) → StateRules b → StateRules (next_of b call)
rules_kept b call r = (step b call r).rules

pub opening_rules : (channel : ℕ) → StateRules (open_of channel)
unfolding open_of
opening_rules channel =
    pick_cases (λ b. StateRules b) (ltb 9999 channel) (fresh 0) (fresh channel) (λ e. fresh_rules 0 (omega arith)) (λ e. fresh_rules channel (ltb-false _ _ e))
