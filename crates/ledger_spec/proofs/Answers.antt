-- What each call is answered, told from the history alone: each case is one `given_N`, read at a
-- book that agrees with the history. Assumes nothing.
use mathlib.Core.Path.{◌≡◌, refl, sym, ap, ap₂, ◌∙◌}
use mathlib.Core.Logic.{◌⊎◌, inl, inr}
use mathlib.Core.Bool.{Bool, true, false, ◌&&◌, not}
use mathlib.Core.List.{[], ◌∷◌}
use Prim.Native.Nat.{ℕ, zero, suc, ◌+◌, ◌-◌, ◌≤◌, ◌<◌}
use native.Mathlib.Nat.{max-zero}
use native.Mathlib.Decide.{dec_le}
use native.Mathlib.Omega.{arith}
use borrow.Author.Tests.{lt-ltb, le-ltb, le-leb, lt-leb, eqb-true}
use lib.Dec.{eqb, leb, ltb}
use Rattle.terms.specs.Cases.{clash}
use Rattle.terms.specs.Paper.{Paper, answer, pick}
use Rattle.ledger_spec.specs.State.{Asked, nothing, range, Book, largest, has, StateRules}
use Rattle.ledger_spec.specs.Calls.{Call, Tick, Announce, Request, Reply, Ask, Missing, Held, Between, Renew, offered, own_number, number_to, passes, last_of, reach, gave_up, handed, beside, raised, waiting, done, values_of, next_at, answer_at, answer_to, next_of}
use Rattle.ledger_spec.specs.Given.{Own}
use Rattle.ledger_spec.specs.Trace.{Calls, ◌▸◌, after, History, ◌▸◌⇒◌, trace}
use Rattle.ledger_spec.specs.Words.{answered, received, in_set, given_up, settled, named_by, handed_out, offers, known_top, still_pending, pending, floor_of}
use Rattle.ledger_spec.specs.Answers.{Elsewhere, Hands, TickAnswers, AnnounceAnswers, Names, ReplyAnswers, Answers, Broken, OnlyTop, NewSession, OnlyCleared, Keeps}
use Rattle.ledger_spec.proofs.Tests.{and_false, pick_true, pick_false}
use Rattle.ledger_spec.proofs.Numbers.{checked_test}
use Rattle.ledger_spec.proofs.Rows.{append_nil}
use Rattle.ledger_spec.proofs.Steps.{reach_near, gives_low, gives_in, gives_out}
use Rattle.ledger_spec.proofs.Agree.{Agrees, high_has, agrees}
use Rattle.ledger_spec.proofs.Demand3.{settled_is, floor_of_lem}
use Rattle.ledger_spec.proofs.Given.{own_test, settled_test, settled_fact, tick_test, status_test, starts_test, given_10_announcement, given_10_tick, given_11, given_12, given_13, given_16, given_17, given_18}

-- an answer of the number k
answer_at_lem : (b : Book) (call : Call) (k : ℕ) → number_to b call ≡ k → answer_to b call ≡ answer_at b call k
unfolding answer_to
answer_at_lem b call k e = ap (answer_at b call) e

bad_number : (n : ℕ) → (1 ≤ n → n ≤ largest → ⊥) → (n ≡ 0) ⊎ (largest < n)
bad_number zero f = inl refl
bad_number (suc n) f = elim (dec_le (suc n) largest) [ yes h ↦ absurd (f (omega arith) h) | no h ↦ inr (omega arith) ]

module _ (h : History) (channel : ℕ) (b : Book) (a : Agrees h channel b) where
  has_told : (n : ℕ) (t : Bool) → 1 ≤ n → settled h n ≡ t → has b n ≡ t
  has_told n t p e = sym (settled_is h channel b a n p) ∙ e

  floor_told : floor_of h ≡ b.floor
  floor_told = floor_of_lem h channel b a

  other_channel : (call : Call) → Elsewhere channel call → answer_to b call ≡ answer 18 (beside call)
  other_channel call g = answer_at_lem b call 18 ((given_18 b call).1 (record { rules = a.rules; other = not_own call g }))
    where
      not_own : (c : Call) → Elsewhere channel c → Own b c → ⊥
      not_own (Tick c n) f o = f (o ∙ a.channel_is)
      not_own (Announce c n) f o = f (o ∙ a.channel_is)
      not_own (Request c) f o = f (o ∙ a.channel_is)
      not_own (Reply c x s) f o = f (o ∙ a.channel_is)
      not_own (Ask Missing) f o = f
      not_own (Ask Held) f o = f
      not_own (Ask (Between c x y)) f o = f (o ∙ a.channel_is)
      not_own Renew f o = f

  -- a tick that is done
  tick_number_0 : (n : ℕ) → 1 ≤ n → n ≤ largest → has b n ≡ false → n ≤ b.floor + 256 → number_to b (Tick channel n) ≡ 0
  unfolding own_number
  tick_number_0 n p q e near =
      checked_test b (Tick channel n) a.rules (own_test b (Tick channel n) (sym a.channel_is))
      ∙ simp (tick_test n p q, e, le-ltb _ _ near)

  tick_hands : (n : ℕ) → number_to b (Tick channel n) ≡ 0 → Hands h (answer_to b (Tick channel n))
  unfolding values_of
  tick_hands n e =
      record { count = passes b n; is = answer_at_lem b (Tick channel n) 0 e ∙ ap (λ (x : ℕ). answer 0 ((x + 1) ∷ passes b n ∷ [])) (sym floor_told) }

  tick_answers : (n : ℕ) → TickAnswers h n (answer_to b (Tick channel n))
  tick_answers n =
      record {
        number_10 = λ f. answer_at_lem b (Tick channel n) 10 ((given_10_tick b channel n).1 (record { rules = a.rules; own = sym a.channel_is; number = bad_number n f }));
        repeat_11 = λ p q e. answer_at_lem b (Tick channel n) 11
            ((given_11 b channel n).1 (record { rules = a.rules; own = sym a.channel_is; above = p; digits = q; repeat = settled_fact b n (has_told n true p e) }));
        far_12 = λ p q e f. answer_at_lem b (Tick channel n) 12
            ((given_12 b channel n).1 (record { rules = a.rules; own = sym a.channel_is; above = p; digits = q; no_repeat = λ r. clash (settled_test b n r) (has_told n false p e); far = omega (arith, floor_told) }));
        done_0 = λ p q e near. tick_hands n (tick_number_0 n p q (has_told n false p e) (omega (arith, floor_told)));
      }

  announce_answers : (n : ℕ) → AnnounceAnswers n (answer_to b (Announce channel n))
  unfolding own_number values_of
  announce_answers n =
      record {
        number_10 = λ p. answer_at_lem b (Announce channel n) 10 ((given_10_announcement b channel n).1 (record { rules = a.rules; own = sym a.channel_is; number = p }));
        done_0 = λ p. answer_at_lem b (Announce channel n) 0 (checked_test b (Announce channel n) a.rules (own_test b (Announce channel n) (sym a.channel_is)) ∙ simp (le-ltb _ _ p));
      }

  reach_is : (first status last : ℕ) (t : Bool) → eqb status 4 ≡ t → b.pending ≡ range first last → reach b status ≡ pick t (last - b.floor) 0
  unfolding reach
  reach_is first status last t e p = ap₂ (λ (x : Bool) (y : Asked). pick x (last_of y - b.floor) 0) e p

  -- what is given up: on status 4 what lies above the floor, in the range, and was not received
  given_at : (first status last n : ℕ) (t : Bool) → eqb status 4 ≡ t → b.pending ≡ range first last
      → in_set (b.floor + 1) (gave_up b (reach b status)) n ≡ t && (ltb b.floor n && (leb n last && not (received h n)))
  given_at first status last n t e p = elim (dec_le n b.floor) [
    | yes l ↦ gives_low b a.rules (reach b status) near.0 near.1 n l ∙ sym (simp (le-ltb _ _ l) (and_false t))
    | no l ↦ above t e (omega arith)
  ]
    where
      near : (reach b status ≤ b.top - b.floor) × (reach b status ≤ 256)
      near = reach_near b status a.rules

      above : (u : Bool) → eqb status 4 ≡ u → b.floor < n → in_set (b.floor + 1) (gave_up b (reach b status)) n ≡ u && (ltb b.floor n && (leb n last && not (received h n)))
      above false q l = gives_out b a.rules (reach b status) near.0 near.1 n (omega (arith, reach_is first status last false q p))
      above true q l = elim (dec_le n last) [
        | yes u ↦ gives_in b a.rules (reach b status) near.0 near.1 n l (omega (arith, reach_is first status last true q p))
            ∙ ap not (sym (high_has h channel b a n l)) ∙ sym (simp (lt-ltb _ _ l, le-leb _ _ u))
        | no u ↦ (
            let far : last < n = omega arith in
            gives_out b a.rules (reach b status) near.0 near.1 n (omega (arith, reach_is first status last true q p)) ∙ sym (simp (lt-ltb _ _ l, lt-leb _ _ far)))
      ]

  reply_names : (first status last : ℕ) → b.pending ≡ range first last → number_to b (Reply channel first status) ≡ 0 → Names h status last (answer_to b (Reply channel first status))
  unfolding values_of
  reply_names first status last p e =
      let w = reach b status in
      record {
        given_up_holds = gave_up b w;
        passed = handed b w;
        is = answer_at_lem b (Reply channel first status) 0 e ∙ ap (λ (x : ℕ). answer 0 ((x + 1) ∷ gave_up b w ∷ handed b w ∷ [])) (sym floor_told);
        given_up_are = λ n. rw floor_told (given_at first status last n (eqb status 4) refl p);
      }

  reply_answers : (first status : ℕ) → ReplyAnswers h first status (answer_to b (Reply channel first status))
  unfolding own_number values_of
  reply_answers first status =
      record {
        status_17 = λ f. answer_at_lem b (Reply channel first status) 17 ((given_17 b channel first status).1 (record { rules = a.rules; own = sym a.channel_is; wrong = f }));
        unasked_16 = λ s f. answer_at_lem b (Reply channel first status) 16
            ((given_16 b channel first status).1 (record { rules = a.rules; own = sym a.channel_is; right = s; unasked = λ last e. f last (sym a.pending_is ∙ e) }));
        done_0 = λ s last e. reply_names first status last (a.pending_is ∙ e)
            (checked_test b (Reply channel first status) a.rules (own_test b (Reply channel first status) (sym a.channel_is))
            ∙ simp (status_test status s, starts_test b.pending first last (a.pending_is ∙ e)));
      }

-- ---- a new session

renew_number : (b : Book) → StateRules b → number_to b Renew ≡ 0
unfolding own_number
renew_number b r = checked_test b Renew r refl

pub renew_answer : (b : Book) → StateRules b → answer_to b Renew ≡ answer 0 []
unfolding values_of
renew_answer b r = answer_at_lem b Renew 0 (renew_number b r)

pub renew_next : (b : Book) → StateRules b → next_of b Renew ≡ waiting b nothing
unfolding next_of done
renew_next b r = ap (next_at b Renew) (renew_number b r)

renewed_only : (b : Book) {a : Paper} → a ≡ answer 0 [] → NewSession b a (waiting b nothing)
unfolding waiting
renewed_only b e = record { answer_is = e; cleared = refl; channel_same = refl; floor_same = refl; top_same = refl; bits_same = refl }

-- the ledger is the same but for its pending request, which is nothing
pub new_session : (b : Book) → StateRules b → NewSession b (answer_to b Renew) (next_of b Renew)
new_session b r = rw (renew_next b r) (renewed_only b (renew_answer b r))

told_cleared : (h : History) (a : Paper) → a ≡ answer 0 [] → OnlyCleared h (h ▸ Renew ⇒ a)
unfolding received given_up handed_out named_by known_top offers pending still_pending
told_cleared h a e =
    record {
      cleared = rw e;
      received_same = λ n. refl;
      given_up_same = λ n. refl;
      handed_out_same = append_nil (handed_out h);
      top_same = max-zero (known_top h);
    }

pub new_session_told : (channel : ℕ) → channel ≤ 9999 → (calls : Calls) → OnlyCleared (trace channel calls) (trace channel (calls ▸ Renew))
unfolding trace
new_session_told channel small calls = told_cleared (trace channel calls) _ (renew_answer (after channel calls) (agrees channel small calls).rules)

pub answers : (channel : ℕ) → channel ≤ 9999 → (calls : Calls) → Answers channel calls
answers channel small calls =
    let a = agrees channel small calls in
    record {
      channel_18 = other_channel (trace channel calls) channel (after channel calls) a;
      tick = tick_answers (trace channel calls) channel (after channel calls) a;
      announcement = announce_answers (trace channel calls) channel (after channel calls) a;
      reply = reply_answers (trace channel calls) channel (after channel calls) a;
      renewal_0 = renew_answer (after channel calls) a.rules;
    }

-- a broken state
pub broken_13 : (b : Book) → (StateRules b → ⊥) → Broken b
broken_13 b f =
    record {
      tick = λ channel n. at (Tick channel n);
      announcement = λ channel n. at (Announce channel n);
      request = λ channel. at (Request channel);
      reply = λ channel first status. at (Reply channel first status);
      between_0 = λ channel x y. at (Ask (Between channel x y));
      missing_0 = at (Ask Missing);
      held_0 = at (Ask Held);
      renewal = at Renew;
    }
  where
    at : (call : Call) → answer_to b call ≡ answer_at b call 13
    at call = answer_at_lem b call 13 ((given_13 b call).1 f)

-- ---- what a refusal leaves

raised_only_top : (b : Book) (n : ℕ) → OnlyTop b (raised b n) n
unfolding raised
raised_only_top b n = record { top_is = refl; channel_same = refl; floor_same = refl; bits_same = refl; pending_same = refl }

far_at : (b : Book) (call : Call) (k : ℕ) → eqb k 12 ≡ true → next_at b call k ≡ raised b (offered call)
far_at b call k q =
    pick_false (eqb k 0) (done b call) _ (ap (λ (x : ℕ). eqb x 0) (eqb-true k 12 q)) ∙ pick_true (eqb k 12) (raised b (offered call)) b q

keeps_at : (b : Book) (call : Call) (k : ℕ) → Keeps b call (next_at b call k) (answer_at b call k)
keeps_at b call k =
    record {
      same = λ p q. pick_false (eqb k 0) _ _ p ∙ pick_false (eqb k 12) _ _ q;
      far = λ q. rw (far_at b call k q) (raised_only_top b (offered call));
    }

pub keeps : (b : Book) (call : Call) → Keeps b call (next_of b call) (answer_to b call)
unfolding next_of answer_to
keeps b call = keeps_at b call (number_to b call)

pub far_raises : (b : Book) (call : Call) → answered (answer_to b call) 12 ≡ true → next_of b call ≡ raised b (offered call)
unfolding next_of answer_to
far_raises b call q = far_at b call (number_to b call) q
