-- The invariant of every row of calls: the book agrees with the history. It holds at the start, and
-- every `Step` keeps it. Assumes nothing.
use mathlib.Core.Path.{◌≡◌, refl, sym, ap, ap₂, ◌∙◌}
use mathlib.Core.Logic.{⊎_elim}
use mathlib.Core.Bool.{Bool, true, false}
use mathlib.Core.List.{List, ◌++◌}
use Prim.Native.Nat.{ℕ, zero, suc, ◌+◌, ◌-◌, ◌≤◌, ◌<◌, max}
use native.Mathlib.Omega.{arith}
use lib.Dec.{eqb}
use lib.Pow.{pow_pos}
use Rattle.terms.specs.Cases.{clash}
use Rattle.terms.specs.Paper.{Paper}
use Rattle.tick_map.specs.Bits.{tally}
use Rattle.tick_map.proofs.Digits.{bit_above}
use Rattle.ledger_spec.specs.State.{range, Book, or_else, has, StateRules}
use Rattle.ledger_spec.specs.Calls.{Call, answer_to, next_of, fresh}
use Rattle.ledger_spec.specs.Trace.{Calls, none, ◌▸◌, after, History, start, ◌▸◌⇒◌, trace}
use Rattle.ledger_spec.specs.Words.{receives, received, gives_up, given_up, numbers, chosen, named_by, handed_out, offers, known_top, still_pending, pending, ticks, ticks_taken, count}
use Rattle.ledger_spec.proofs.Tests.{false_of}
use Rattle.ledger_spec.proofs.Rules.{has_below, has_above}
use Rattle.ledger_spec.proofs.Rows.{or_true, or_false, or_right, numbers_join, chosen_ext, chosen_append, count_low}
use Rattle.ledger_spec.proofs.Steps.{fresh_rules, Step, step}

pub record Agrees (h : History) (channel : ℕ) (b : Book) : Type 0 where
  pub rules : StateRules b
  pub channel_is : b.channel ≡ channel
  pub settles : (n : ℕ) → has b (suc n) ≡ or_else (received h (suc n)) (given_up h (suc n))
  pub zero_received : received h 0 ≡ false
  pub zero_given : given_up h 0 ≡ false
  pub never_both : (n : ℕ) → received h n ≡ true → given_up h n ≡ false
  pub given_low : (n : ℕ) → given_up h n ≡ true → n ≤ b.floor
  pub top_is : b.top ≡ known_top h
  pub handed : handed_out h ≡ chosen (received h) (numbers 1 b.floor)
  pub pending_is : b.pending ≡ pending h
  pub range_apart : (x y n : ℕ) → b.pending ≡ range x y → x ≤ n → given_up h n ≡ false
  pub taken_is : ticks_taken h ≡ count (received h) b.top

none_held : (channel n : ℕ) → has (fresh channel) (suc n) ≡ false
unfolding fresh
none_held channel n = has_above (fresh channel) (suc n) (omega arith) ∙ ap (λ (d : ℕ). eqb d 1) (bit_above 0 (suc n - 0 - 1) (pow_pos 0) (omega arith))

fresh_agrees : (channel : ℕ) → channel ≤ 9999 → Agrees start channel (fresh channel)
unfolding fresh received given_up known_top handed_out numbers chosen pending ticks_taken count tally
fresh_agrees channel h =
    record {
      rules = fresh_rules channel h;
      channel_is = refl;
      settles = none_held channel;
      zero_received = refl;
      zero_given = refl;
      never_both = λ n e. refl;
      given_low = λ n e. absurd (clash e refl);
      top_is = refl;
      handed = refl;
      pending_is = refl;
      range_apart = λ x y n e l. refl;
      taken_is = refl;
    }

-- what is settled anew was not settled before: so never both
both_apart : (r g R G H : Bool) → H ≡ or_else R G → (or_else r g ≡ true → H ≡ false) → (r ≡ true → g ≡ false) → (R ≡ true → G ≡ false) → or_else r R ≡ true → or_else g G ≡ false
both_apart true g R G H e n b c t = ap₂ or_else (b refl) (or_right R G (sym e ∙ n refl))
both_apart false g false G H e n b c t = absurd (clash t refl)
both_apart false true true G H e n b c t = absurd (clash e (n refl))
both_apart false false true G H e n b c t = c refl

shuffle : (r g R G : Bool) → or_else r (or_else g (or_else R G)) ≡ or_else (or_else r R) (or_else g G)
shuffle true g R G = refl
shuffle false true R G = sym (or_true R)
shuffle false false true G = refl
shuffle false false false G = refl

module _ (h : History) (channel : ℕ) (b : Book) (a : Agrees h channel b) where
  pub has_is : (n : ℕ) → 1 ≤ n → has b n ≡ or_else (received h n) (given_up h n)
  has_is zero p = absurd (never p)
    where
      never : 1 ≤ 0 → ⊥
      never q = omega arith
  has_is (suc n) p = a.settles n

  -- above the floor nothing is given up, so received is held there
  pub high_not : (n : ℕ) → b.floor < n → given_up h n ≡ false
  high_not n p = false_of (given_up h n) (λ e. over (a.given_low n e))
    where
      over : n ≤ b.floor → ⊥
      over q = omega arith

  pub high_has : (n : ℕ) → b.floor < n → received h n ≡ has b n
  high_has n p = sym (or_false (received h n)) ∙ sym (ap (or_else (received h n)) (high_not n p)) ∙ sym (has_is n (omega arith))

  -- nothing is received above the top
  pub none_received : (n : ℕ) → b.top < n → received h n ≡ false
  none_received n p = high_has n (omega (arith, a.rules.low)) ∙ a.rules.none_above n p

  -- what was received is had
  had : (n : ℕ) → received h n ≡ true → has b n ≡ true
  had zero e = absurd (clash e a.zero_received)
  had (suc n) e = a.settles n ∙ ap (λ (t : Bool). or_else t (given_up h (suc n))) e

module _ (h : History) (channel : ℕ) (b : Book) (call : Call) (next : Book) (p : Paper) (a : Agrees h channel b) (s : Step b call next p) where
  abbrev r : ℕ → Bool
  r n = receives call p n

  both_never : (n : ℕ) → or_else (r n) (received h n) ≡ true → or_else (gives_up call p n) (given_up h n) ≡ false
  both_never zero e = ap₂ or_else s.zero_given a.zero_given
  both_never (suc n) e = both_apart _ _ _ _ _ (a.settles n) (s.anew (suc n)) (s.not_both (suc n)) (a.never_both (suc n)) e

  low_next : (n : ℕ) (g : Bool) → gives_up call p n ≡ g → or_else g (given_up h n) ≡ true → n ≤ next.floor
  low_next n true e q = s.given_low n e
  low_next n false e q = omega (arith, a.given_low n q, s.floor_is)

  received_anew : (n : ℕ) → r n ≡ true → has b n ≡ false
  received_anew n e = s.anew n (ap (λ (t : Bool). or_else t (gives_up call p n)) e)

  -- nothing at or below the floor is received anew
  old_not : (n : ℕ) → n ≤ b.floor → r n ≡ false
  old_not n q = false_of (r n) (λ e. clash (has_below b n q) (received_anew n e))

  hands : handed_out h ++ named_by call p ≡ chosen (λ n. or_else (r n) (received h n)) (numbers 1 next.floor)
  hands =
      let e : b.floor + 1 ≡ 1 + b.floor = omega arith in
      ap₂ (λ (x y : List ℕ). x ++ y)
      (a.handed ∙ chosen_ext (received h) (λ n. or_else (r n) (received h n)) 1 b.floor (λ n l u. sym (ap (λ (t : Bool). or_else t (received h n)) (old_not n (omega arith)))))
      (s.names ∙ chosen_ext (λ n. or_else (r n) (has b n)) (λ n. or_else (r n) (received h n)) (b.floor + 1) s.passed (λ n l u. ap (or_else (r n)) (sym (high_has h channel b a n (omega arith)))))
      ∙ sym (chosen_append (λ n. or_else (r n) (received h n)) (numbers 1 b.floor) (numbers (b.floor + 1) s.passed))
      ∙ ap (chosen (λ n. or_else (r n) (received h n)))
      (ap (λ (x : ℕ). numbers 1 b.floor ++ numbers x s.passed) e ∙ numbers_join 1 b.floor s.passed ∙ ap (numbers 1) (sym s.floor_is))

  apart_next : (x y n : ℕ) → next.pending ≡ range x y → x ≤ n → or_else (gives_up call p n) (given_up h n) ≡ false
  apart_next x y n e l = ap₂ or_else (s.range_anew x y n e).0 (⊎_elim (λ q. a.range_apart x y n q l) (λ q. high_not h channel b a n (omega arith)) (s.range_anew x y n e).1)

  taken_next : ticks call p + ticks_taken h ≡ count (λ n. or_else (r n) (received h n)) next.top
  taken_next =
      let up : b.top ≤ next.top = omega (arith, s.top_is) in
      ap (λ (x : ℕ). ticks call p + x) (a.taken_is ∙ sym (count_low (received h) b.top next.top up (none_received h channel b a)))
      ∙ sym (s.once (received h) (λ n e. false_of (received h n) (λ q. clash (had h channel b a n q) (received_anew n e))))

  next_agrees : Agrees (h ▸ call ⇒ p) channel next
  unfolding received given_up known_top handed_out pending ticks_taken
  next_agrees =
      record {
        rules = s.rules;
        channel_is = s.channel_same ∙ a.channel_is;
        settles = λ n. s.settles n ∙ ap (λ (t : Bool). or_else (r (suc n)) (or_else (gives_up call p (suc n)) t)) (a.settles n)
            ∙ shuffle (r (suc n)) (gives_up call p (suc n)) (received h (suc n)) (given_up h (suc n));
        zero_received = ap₂ or_else s.zero_received a.zero_received;
        zero_given = ap₂ or_else s.zero_given a.zero_given;
        never_both = both_never;
        given_low = λ n e. low_next n (gives_up call p n) refl e;
        top_is = s.top_is ∙ ap (λ (x : ℕ). max x (offers call p)) a.top_is;
        handed = hands;
        pending_is = s.pending_is ∙ ap (still_pending call p) a.pending_is;
        range_apart = apart_next;
        taken_is = taken_next;
      }

pub agrees : (channel : ℕ) → channel ≤ 9999 → (calls : Calls) → Agrees (trace channel calls) channel (after channel calls)
unfolding trace
agrees channel h none = fresh_agrees channel h
agrees channel h (calls ▸ call) =
    let g = agrees channel h calls in
    let b = after channel calls in
    next_agrees (trace channel calls) channel b call (next_of b call) (answer_to b call) g (step b call g.rules)
