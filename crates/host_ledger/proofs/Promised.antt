-- A ledger call through the host is the book's own call, from the promises that the checker makes
-- of the `ensures`; and demand 3 holds of every row of such calls on words that rk_ledger_open
-- wrote. Assumes nothing.
use Prim.Native.Nat.{ℕ, ◌+◌, ◌%◌, ◌^◌, max, ◌≤◌, ◌<◌}
use native.Mathlib.Nat.{lt_of_lt_of_le, lt_of_le_of_lt, mod-le}
use lib.Pow.{pow_mono, ones_sub-lt}
use mathlib.Core.Path.{◌≡◌, refl, sym, ap, ap₂, ◌∙◌}
use mathlib.Core.Bool.{true, false}
use mathlib.Core.Logic.{⊎_elim, ◌↔◌}
use mathlib.Core.List.{List, [], ◌∷◌}
use native.Mathlib.Omega.{arith}
use contract.Lifetimes.{Lfts}
use borrow.Author.Tests.{le-ltb, lt-ltb, ne_eqb}
use borrow.Fn.Kinds.{Dens, ended_of, res_t}
use denote.Triple.Clauses.{AtExit}
use lib.Dec.{eqb}
use lib.ListN.{length, get_or}
use Rattle.terms.specs.Paper.{Paper, answer, refusal, one_number}
use Rattle.terms.specs.Cases.{two, same, clash}
use Rattle.tick_map.specs.Bits.{bits_in, map_of}
use Rattle.tick_map.specs.Ring.{rotated, laid}
use Rattle.tick_map.proofs.Rotated.{rotated_laid}
use Rattle.ledger_spec.specs.State.{Book, sound_of, StateRules}
use Rattle.ledger_spec.specs.Calls.{Call, Tick, Announce, Request, Reply, Question, Ask, Missing, Held, Between, Renew, between_count, count_of, offered, own_number, reach, leaps, gave_up, handed, raised, done, values_of, beside, number_to, answer_to, next_of, open_of, missing_count, held_count}
use Rattle.ledger_spec.specs.Trace.{Calls, none, ◌▸◌, after, History, start, ◌▸◌⇒◌, trace}
use Rattle.ledger_spec.specs.Words.{value_at, answered, gives_up, given_up}
use Rattle.ledger_spec.specs.Answers.{TickAnswers, AnnounceAnswers, ReplyAnswers, NewSession, OnlyCleared}
use Rattle.ledger_spec.specs.Between.{BetweenAnswers}
use Rattle.ledger_spec.specs.GivenUp.{InRange, NamesApart}
use Rattle.ledger_spec.specs.Demand3.{Demand3, Requests}
use Rattle.ledger_spec.proofs.Answers.{keeps, new_session, new_session_told}
use Rattle.ledger_spec.proofs.Demand3.{demand_3}
use Rattle.ledger_spec.proofs.Told.{told_tick, told_announce, told_request, told_reply, told_renewal, told_between, told_late, told_gives_up, told_names_apart}
use Rattle.ledger_spec.proofs.Given.{given_13}
use Rattle.ledger_spec.proofs.Numbers.{checked_facts, checked_test}
use Rattle.ledger_spec.proofs.Rules.{rules_facts, rules_test}
use Rattle.ledger_spec.proofs.Steps.{reach_near, rules_kept}
use Rattle.ledger.specs.declared.Ledger.{Ledger}
use Rattle.std.specs.Prelude.{Option, Some, None}
use Rattle.ledger.specs.declared.Range.{Range}
use Rattle.ledger.specs.State.{asked_of, book_of, ledger_of, topped}
use Rattle.ledger.proofs.Seam.{laid_of, done_by, far_by, question_next}
use Rattle.host_words.specs.Told.{Tells, told_by, seen}
use Rattle.host_words.specs.Words.{first_asked, last_asked, words_of, ledger_in, with_top, book_in}
use Rattle.host_words.specs.Calls.{kept_by, call_told, words_after}
use Rattle.host_words.proofs.Back.{words_back, book_back}
use Rattle.host_words.proofs.Rows.{call_words, far_words}
use Rattle.host_ledger.specs.Words.{open_words, ledger_told, settled_row, reply_told}
use Rattle.host_ledger.specs.Called.{counted, sets_in, settled_by, Called, HostRan, opening, one_more, asked_numbers, book_numbers, history_numbers}
use Rattle.host_ledger.proofs.Kept.{call_kept}
use Rattle.host_ledger.proofs.rk_ledger_open.Reads as opens
use Rattle.host_ledger.proofs.rk_ledger_open.Kinds as opens-kinds
use Rattle.host_ledger.proofs.rk_ledger_tick.Reads as tick
use Rattle.host_ledger.proofs.rk_ledger_tick.Kinds as tick-kinds
use Rattle.host_ledger.proofs.rk_ledger_announce.Reads as announce
use Rattle.host_ledger.proofs.rk_ledger_announce.Kinds as announce-kinds
use Rattle.host_ledger.proofs.rk_ledger_request.Reads as request
use Rattle.host_ledger.proofs.rk_ledger_request.Kinds as request-kinds
use Rattle.host_ledger.proofs.rk_ledger_reply.Reads as reply
use Rattle.host_ledger.proofs.rk_ledger_reply.Kinds as reply-kinds
use Rattle.host_ledger.proofs.rk_ledger_renew.Reads as renew
use Rattle.host_ledger.proofs.rk_ledger_renew.Kinds as renew-kinds
use Rattle.host_ledger.proofs.rk_ledger_missing.Reads as missing
use Rattle.host_ledger.proofs.rk_ledger_missing.Kinds as missing-kinds
use Rattle.host_ledger.proofs.rk_ledger_told.Reads as told
use Rattle.host_ledger.proofs.rk_ledger_told.Kinds as told-kinds

-- ======== What the definitions of the promises come to

module _ (w : List ℕ) (call : Call) where
  abbrev b : Book
  b = book_in w

  same_next : ((call_told w call).number ≡ 0 → ⊥) → ((call_told w call).number ≡ 12 → ⊥) → book_in (words_after w call) ≡ next_of b call
  same_next z f = ap book_in (call_kept w call z f) ∙ sym ((keeps b call).same (ne_eqb _ 0 z) (ne_eqb _ 12 f))

  -- where the next ledger is stored
  stored_next : StateRules b → words_after w call ≡ words_of (ledger_of (next_of b call)) → book_in (words_after w call) ≡ next_of b call
  stored_next r e = ap book_in e ∙ book_back (next_of b call) (rules_kept b call r)

  stored_0 : (call_told w call).number ≡ 0 → words_after w call ≡ words_of (ledger_of (next_of b call))
  unfolding words_after kept_by answer_to next_of
  stored_0 e = rw e (ap words_of (done_by book_of ledger_of (ledger_in w) call e))

  -- 12 stores the very ledger, its top raised
  abbrev far : Ledger
  far = topped (ledger_in w) (max (ledger_in w).top.0 (offered call))

  far_stored : (call_told w call).number ≡ 12 → words_after w call ≡ words_of far
  unfolding words_after kept_by answer_to
  far_stored e = rw e (ap words_of (far_by book_of ledger_of (ledger_in w) call e))

  far_book : (call_told w call).number ≡ 12 → book_of far ≡ next_of b call
  unfolding answer_to next_of raised book_of
  far_book e = rw e

  far_four : length far.map.words ≡ 4
  unfolding ledger_in
  far_four = refl

  far_next : StateRules b → (call_told w call).number ≡ 12 → book_in (words_after w call) ≡ next_of b call
  far_next r e = ap book_in (far_stored e) ∙ ap book_of (words_back far far_four (rw (far_book e) (rules_kept b call r))) ∙ far_book e

  sound_next : StateRules b → book_in (words_after w call) ≡ next_of b call
  sound_next r =
      ⊎_elim (λ (z : (call_told w call).number ≡ 0). stored_next r (stored_0 z))
      (λ (z : (call_told w call).number ≡ 0 → ⊥).
      ⊎_elim (λ (f : (call_told w call).number ≡ 12). far_next r f)
      (λ (f : (call_told w call).number ≡ 12 → ⊥). same_next z f)
      (same (call_told w call).number 12))
      (same (call_told w call).number 0)

  broken_next : (StateRules b → ⊥) → book_in (words_after w call) ≡ next_of b call
  unfolding answer_to
  broken_next n =
      let e : number_to b call ≡ 13 = (given_13 b call).1 n in
      same_next (λ (z : number_to b call ≡ 0). omega (arith, e, z)) (λ (f : number_to b call ≡ 12). omega (arith, e, f))

  next_in : book_in (words_after w call) ≡ next_of b call
  next_in =
      ⊎_elim (λ (t : sound_of b ≡ true). sound_next (rules_facts b t))
      (λ (f : sound_of b ≡ false). broken_next (λ (r : StateRules b). clash (rules_test b r) f))
      (two (sound_of b))

  called : {w' : List ℕ} {a : Paper} → a ≡ call_told w call → w' ≡ words_after w call → Called w call w' a
  unfolding answer_to
  called {w'} {a} e f =
      record {
        number = one_number e;
        answer_is = e;
        next_is = ap book_in f ∙ next_in;
        words_are = λ (x : Book) (r : StateRules x) (g : w ≡ words_of (ledger_of x)). f ∙ ap (λ (y : List ℕ). words_after y call) g ∙ call_words x r call;
        kept = λ (z : a.number ≡ 0 → ⊥) (n : a.number ≡ 12 → ⊥). f ∙ call_kept w call (λ (y : (call_told w call).number ≡ 0). z (one_number e ∙ y)) (λ (y : (call_told w call).number ≡ 12). n (one_number e ∙ y));
      }

  -- a call that tells nothing: beside 0 it has no value, nor beside a refusal
  silent : values_of b call ≡ [] → beside call ≡ [] → {n : ℕ} {w' : List ℕ} → (n ≡ (call_told w call).number) × (w' ≡ words_after w call) → Called w call w' (answer n [])
  unfolding answer_to
  silent e f {n} {w'} p =
      let g : (call_told w call).values ≡ [] =
      ⊎_elim (λ (t : eqb (number_to b call) 0 ≡ true). rw t e) (λ (u : eqb (number_to b call) 0 ≡ false). rw u f) (two (eqb (number_to b call) 0)) in
      called (ap₂ answer p.0 (sym g)) p.1

  -- one that tells a row beside 0
  tells_row : beside call ≡ [] → {was row : List ℕ} {n : ℕ} {w' : List ℕ} → Tells (call_told w call) was n row × (w' ≡ words_after w call) → Called w call w' (seen n row)
  unfolding answer_to told_by
  tells_row f {was} {row} {n} {w'} p =
      let g : seen n row ≡ call_told w call =
      ⊎_elim (λ (t : eqb (number_to b call) 0 ≡ true). rw (p.0.told, p.0.answered, t))
      (λ (u : eqb (number_to b call) 0 ≡ false). rw (p.0.answered, u, f))
      (two (eqb (number_to b call) 0)) in
      called g p.1

-- ======== A reply's sets, read from the words that it tells

set_back : (s m : ℕ) → m < 2 ^ 256 → rotated s (bits_in (map_of (laid s m))) ≡ m
set_back s m h = ap (rotated s) (laid_of s m h) ∙ rotated_laid s m h

module _ (w : List ℕ) (channel first status : ℕ) where
  abbrev asks : Call
  asks = Reply channel first status

  abbrev wide : ℕ
  wide = reach (book_in w) status

  given_small : StateRules (book_in w) → gave_up (book_in w) wide < 2 ^ 256
  unfolding gave_up
  given_small r = lt_of_lt_of_le (ones_sub-lt wide ((book_in w).bits % 2 ^ wide)) (pow_mono (reach_near (book_in w) status r).1)

  passed_small : StateRules (book_in w) → handed (book_in w) wide < 2 ^ 256
  unfolding handed
  passed_small r = lt_of_le_of_lt (mod-le (book_in w).bits (2 ^ leaps (book_in w) wide)) r.places

  sets_back : number_to (book_in w) asks ≡ 0 → sets_in (settled_row (values_of (book_in w) asks)) ≡ values_of (book_in w) asks
  unfolding settled_row values_of
  sets_back e =
      let r = (checked_facts (book_in w) asks e (λ q. omega arith) (λ q. omega arith)).rules in
      ap₂ (λ (x y : ℕ). ((book_in w).floor + 1) ∷ x ∷ y ∷ []) (set_back ((book_in w).floor + 1) _ (given_small r)) (set_back ((book_in w).floor + 1) _ (passed_small r))

  tells_sets : {was row : List ℕ} {n : ℕ} {w' : List ℕ} → Tells (reply_told w asks) was n row × (w' ≡ words_after w asks) → Called w asks w' (settled_by n row)
  unfolding answer_to told_by
  tells_sets {was} {row} {n} {w'} p =
      let g : settled_by n row ≡ call_told w asks =
      ⊎_elim (λ (z : number_to (book_in w) asks ≡ 0). rw (p.0.told, p.0.answered, z) (ap (answer 0) (sets_back z)))
      (λ (f : number_to (book_in w) asks ≡ 0 → ⊥). rw (p.0.answered, ne_eqb _ 0 f))
      (same (number_to (book_in w) asks) 0) in
      called w asks g p.1

-- ======== One call

-- opening starts a row of calls
pub open_is_opening : (κs : Lfts 1) (a : Dens κs opens-kinds.ps) (x : (res_t opens-kinds.r κs).Denot) (s : AtExit (ended_of 1 opens-kinds.ps opens-kinds.r) κs) → opens.Post κs a x s
    → a.0 ≤ 9999 → (x ≡ 0) × HostRan a.0 none s.1.0.now start
unfolding open_words kept_by open_of
open_is_opening κs a x s p h = (p.0 ∙ rw (le-ltb 9999 a.0 h), opening (p.1 ∙ rw (le-ltb 9999 a.0 h)))

-- or is refused, and leaves the words
pub open_refused : (κs : Lfts 1) (a : Dens κs opens-kinds.ps) (x : (res_t opens-kinds.r κs).Denot) (s : AtExit (ended_of 1 opens-kinds.ps opens-kinds.r) κs) → opens.Post κs a x s
    → 9999 < a.0 → (x ≡ 10) × (s.1.0.now ≡ a.1.0.now)
unfolding open_words kept_by
open_refused κs a x s p h = (p.0 ∙ rw (lt-ltb 9999 a.0 h), p.1 ∙ rw (lt-ltb 9999 a.0 h))

pub tick_is_call : (κs : Lfts 2) (a : Dens κs tick-kinds.ps) (x : (res_t tick-kinds.r κs).Denot) (s : AtExit (ended_of 2 tick-kinds.ps tick-kinds.r) κs) → tick.Post κs a x s
    → Called a.0.now (Tick a.1.0 a.1.1.0) s.0.now (seen x s.1.1.1.0.now)
tick_is_call κs a x s p = tells_row _ (Tick a.1.0 a.1.1.0) refl p

pub announce_is_call : (κs : Lfts 1) (a : Dens κs announce-kinds.ps) (x : (res_t announce-kinds.r κs).Denot) (s : AtExit (ended_of 1 announce-kinds.ps announce-kinds.r) κs) → announce.Post κs a x s
    → Called a.0.now (Announce a.1.0 a.1.1.0) s.0.now (answer x [])
unfolding values_of
announce_is_call κs a x s p = silent _ (Announce a.1.0 a.1.1.0) refl refl p

pub request_is_call : (κs : Lfts 2) (a : Dens κs request-kinds.ps) (x : (res_t request-kinds.r κs).Denot) (s : AtExit (ended_of 2 request-kinds.ps request-kinds.r) κs) → request.Post κs a x s
    → Called a.0.now (Request a.1.0) s.0.now (seen x s.1.1.0.now)
request_is_call κs a x s p = tells_row _ (Request a.1.0) refl p

pub reply_is_call : (κs : Lfts 2) (a : Dens κs reply-kinds.ps) (x : (res_t reply-kinds.r κs).Denot) (s : AtExit (ended_of 2 reply-kinds.ps reply-kinds.r) κs) → reply.Post κs a x s
    → Called a.0.now (Reply a.1.0 a.1.1.0 a.1.1.1.0) s.0.now (settled_by x s.1.1.1.1.0.now)
reply_is_call κs a x s p = tells_sets a.0.now a.1.0 a.1.1.0 a.1.1.1.0 p

pub renew_is_call : (κs : Lfts 1) (a : Dens κs renew-kinds.ps) (x : (res_t renew-kinds.r κs).Denot) (s : AtExit (ended_of 1 renew-kinds.ps renew-kinds.r) κs) → renew.Post κs a x s
    → Called a.0.now Renew s.0.now (answer x [])
unfolding values_of
renew_is_call κs a x s p = silent _ Renew refl refl p

-- on words that keep the state rules: 0, and the ledger that they stand for is the same but for its
-- pending request, which is nothing
pub renew_new_session : (κs : Lfts 1) (a : Dens κs renew-kinds.ps) (x : (res_t renew-kinds.r κs).Denot) (s : AtExit (ended_of 1 renew-kinds.ps renew-kinds.r) κs) → renew.Post κs a x s
    → StateRules (book_in a.0.now) → NewSession (book_in a.0.now) (answer x []) (book_in s.0.now)
renew_new_session κs a x s p r =
    let c = renew_is_call κs a x s p in
    rw (c.answer_is, c.next_is) (new_session (book_in a.0.now) r)

-- ======== What a ledger has to tell

asked_numbers_lem : (p : Option Range) → first_asked p ∷ last_asked p ∷ [] ≡ asked_numbers (asked_of p)
asked_numbers_lem None = refl
asked_numbers_lem (Some r) = refl

module _ (w : List ℕ) where
  row_is : number_to (book_in w) (Ask Missing) ≡ 0 → (ledger_told w).values ≡ book_numbers (book_in w)
  unfolding ledger_told answer_to values_of book_of number_to own_number
  row_is z = rw (z, asked_numbers_lem (ledger_in w).pending)

  -- a question leaves the book, and so the words
  count_called : (q : Question) {a : Paper} → a ≡ call_told w (Ask q) → Called w (Ask q) w a
  unfolding answer_to
  count_called q {a} e =
      record {
        number = one_number e;
        answer_is = e;
        next_is = sym (question_next (book_in w) q);
        words_are = λ (b : Book) (r : StateRules b) (g : w ≡ words_of (ledger_of b)). g ∙ ap (λ (y : Book). words_of (ledger_of y)) (sym (question_next b q));
        kept = λ (z : a.number ≡ 0 → ⊥) (n : a.number ≡ 12 → ⊥). refl;
      }

  count_seen : (call : Call) (k : ℕ) {x c : ℕ} → values_of (book_in w) call ≡ k ∷ [] → beside call ≡ 0 ∷ [] → x ≡ number_to (book_in w) call → (x ≡ 0 → c ≡ k) → counted x c ≡ call_told w call
  unfolding answer_to
  count_seen call k {x} {c} e f g h =
      ⊎_elim (λ (z : x ≡ 0). rw (← g, z, h z, e)) (λ (z : x ≡ 0 → ⊥). rw (← g, ne_eqb x 0 z, f)) (same x 0)

module _ (κs : Lfts 2) (a : Dens κs told-kinds.ps) (x : (res_t told-kinds.r κs).Denot) (s : AtExit (ended_of 2 told-kinds.ps told-kinds.r) κs) (p : told.Post κs a x s) where
  told_number : x ≡ number_to (book_in a.0.now) (Ask Missing)
  unfolding ledger_told answer_to
  told_number = p.answered

  -- THE SEVEN NUMBERS, in the book's own counts
  pub told_row : x ≡ 0 → s.1.0.now ≡ book_numbers (book_in a.0.now)
  unfolding told_by
  told_row z = p.told ∙ rw (← p.answered, z) (row_is a.0.now (sym told_number ∙ z))

  -- exactly where the words keep the state rules; else 13
  pub told_sound : StateRules (book_in a.0.now) → x ≡ 0
  unfolding own_number
  told_sound r = told_number ∙ checked_test (book_in a.0.now) (Ask Missing) r refl

  pub told_broken : (StateRules (book_in a.0.now) → ⊥) → x ≡ 13
  told_broken n = told_number ∙ (given_13 (book_in a.0.now) (Ask Missing)).1 n

  -- its fourth number is a call of the missing count, its fifth one of the held count
  pub told_is_missing : Called a.0.now (Ask Missing) a.0.now (counted x (get_or s.1.0.now 3 0))
  unfolding own_number done values_of
  told_is_missing =
      count_called a.0.now Missing
      (count_seen a.0.now (Ask Missing) (missing_count (book_in a.0.now)) refl refl told_number (λ (z : x ≡ 0). ap (λ (l : List ℕ). get_or l 3 0) (told_row z)))

  pub told_is_held : Called a.0.now (Ask Held) a.0.now (counted x (get_or s.1.0.now 4 0))
  unfolding own_number done values_of number_to
  told_is_held =
      count_called a.0.now Held
      (count_seen a.0.now (Ask Held) (held_count (book_in a.0.now)) refl refl told_number (λ (z : x ≡ 0). ap (λ (l : List ℕ). get_or l 4 0) (told_row z)))

-- the number told beside 0 is the count
told_0 : (w : List ℕ) (q : Question) (was : ℕ) {x m : ℕ} → x ≡ (call_told w (Ask q)).number → m ∷ [] ≡ told_by (call_told w (Ask q)) (was ∷ []) → x ≡ 0 → m ≡ count_of (book_in w) q
unfolding values_of told_by answer_to
told_0 w q was {x} {m} e f z =
    let n : number_to (book_in w) (Ask q) ≡ 0 = sym e ∙ z in
    let g : m ∷ [] ≡ count_of (book_in w) q ∷ [] = f ∙ rw n in
    ap (λ (l : List ℕ). get_or l 0 0) g

-- how many from one number to another are missing
pub between_is_call : (κs : Lfts 2) (a : Dens κs missing-kinds.ps) (x : (res_t missing-kinds.r κs).Denot) (s : AtExit (ended_of 2 missing-kinds.ps missing-kinds.r) κs) → missing.Post κs a x s
    → Called a.0.now (Ask (Between a.1.0 a.1.1.0 a.1.1.1.0)) a.0.now (counted x s.1.1.1.1.0.now)
unfolding values_of told_by answer_to
between_is_call κs a x s p =
    let q = Between a.1.0 a.1.1.0 a.1.1.1.0 in
    count_called a.0.now q
    (count_seen a.0.now (Ask q) (between_count (book_in a.0.now) a.1.1.0 a.1.1.1.0) refl refl p.answered
    (λ (z : x ≡ 0). told_0 a.0.now q _ p.answered p.told z))

-- a count that is answered
count_is : (b : Book) (call : Call) {v k : ℕ} → values_of b call ≡ v ∷ [] → answer_to b call ≡ answer 0 (k ∷ []) → v ≡ k
unfolding answer_to
count_is b call e f = let z : number_to b call ≡ 0 = one_number f in ap (λ (y : Paper). value_at y 0) (rw (z, e) at f)

-- ======== A refused tick

module _ (κs : Lfts 2) (a : Dens κs tick-kinds.ps) (x : (res_t tick-kinds.r κs).Denot) (s : AtExit (ended_of 2 tick-kinds.ps tick-kinds.r) κs) (p : tick.Post κs a x s) where
  -- 12 changes the third word alone, the top: it is raised to the tick, if it was lower
  pub tick_12_raises_third : x ≡ 12 → s.0.now ≡ with_top a.0.now (max (get_or a.0.now 2 0) a.1.1.0)
  tick_12_raises_third e = p.1 ∙ far_words a.0.now a.1.0 a.1.1.0 (sym p.0.answered ∙ e)

  -- any other refusal changes none
  pub tick_refused_leaves : (x ≡ 0 → ⊥) → (x ≡ 12 → ⊥) → s.0.now ≡ a.0.now
  tick_refused_leaves = (tick_is_call κs a x s p).kept

-- ======== A row of calls

module _ (channel : ℕ) (small : channel ≤ 9999) where
  rules : (calls : Calls) → StateRules (after channel calls)
  rules calls = (demand_3 channel small calls).state_rules

  -- the words are those of the ledger after the calls, and what the caller sees are the
  -- ledger's answers
  pub host_ran_is_trace : {calls : Calls} {w : List ℕ} {h : History} → HostRan channel calls w h
      → (w ≡ words_of (ledger_of (after channel calls))) × (h ≡ trace channel calls)
  unfolding trace
  host_ran_is_trace (opening e) = (e, refl)
  host_ran_is_trace (one_more {calls} {w} {w'} {h} {a} call r c) =
      let q = host_ran_is_trace r in
      let e : book_in w ≡ after channel calls = ap book_in q.0 ∙ book_back (after channel calls) (rules calls) in (
        c.words_are (after channel calls) (rules calls) q.0,
        ap₂ (λ (x : History) (y : Paper). x ▸ call ⇒ y) q.1 (c.answer_is ∙ ap (λ (x : Book). answer_to x call) e),
      )

  module _ {calls : Calls} {w : List ℕ} {h : History} (r : HostRan channel calls w h) where
    pub host_book : book_in w ≡ after channel calls
    host_book = ap book_in (host_ran_is_trace r).0 ∙ book_back (after channel calls) (rules calls)

    -- DEMAND 3, OF EVERY ROW OF CALLS THROUGH THE HOST, refusals included: of what the caller sees,
    -- and of the book that the words stand for
    pub host_ran_demand_3 : Demand3 h channel (book_in w)
    host_ran_demand_3 = rw ((host_ran_is_trace r).1, host_book) (demand_3 channel small calls)

    -- whatever a further call is answered is what the calls before it tell
    pub host_answers : (call : Call) (w' : List ℕ) (a : Paper) → Called w call w' a → a ≡ answer_to (after channel calls) call
    host_answers call w' a c = c.answer_is ∙ ap (λ (x : Book). answer_to x call) host_book

    -- demand 3 of what the caller sees of one more call, told from the calls and answers before it
    pub host_tick : (n : ℕ) (w' : List ℕ) (a : Paper) → Called w (Tick channel n) w' a → TickAnswers h n a
    host_tick n w' a c = told_tick channel small calls (host_ran_is_trace r).1 n (host_answers _ w' a c)

    pub host_announce : (n : ℕ) (w' : List ℕ) (a : Paper) → Called w (Announce channel n) w' a → AnnounceAnswers n a
    host_announce n w' a c = told_announce channel small calls (host_ran_is_trace r).1 n (host_answers _ w' a c)

    pub host_request : (w' : List ℕ) (a : Paper) → Called w (Request channel) w' a → Requests h a
    host_request w' a c = told_request channel small calls (host_ran_is_trace r).1 (host_answers _ w' a c)

    pub host_reply : (first status : ℕ) (w' : List ℕ) (a : Paper) → Called w (Reply channel first status) w' a → ReplyAnswers h first status a
    host_reply first status w' a c = told_reply channel small calls (host_ran_is_trace r).1 first status (host_answers _ w' a c)

    pub host_between : (x z : ℕ) (w' : List ℕ) (a : Paper) → Called w (Ask (Between channel x z)) w' a → BetweenAnswers h x z a
    host_between x z w' a c = told_between channel small calls (host_ran_is_trace r).1 x z (host_answers _ w' a c)

    -- a new session is answered 0, and of what the history tells the pending request alone changes
    pub host_renewal : (w' : List ℕ) (a : Paper) → Called w Renew w' a → (a ≡ answer 0 []) × OnlyCleared h (h ▸ Renew ⇒ a)
    unfolding trace
    host_renewal w' a c =
        let e = host_answers Renew w' a c in
        let is = (host_ran_is_trace r).1 in
        (told_renewal channel small calls is e, rw (is, e) (new_session_told channel small calls))

    -- and request 7's sentences
    pub host_gives_up : (first : ℕ) (w' : List ℕ) (a : Paper) → Called w (Reply channel first 4) w' a → answered a 0 ≡ true
        → (n : ℕ) → (gives_up (Reply channel first 4) a n ≡ true) ↔ InRange h n
    host_gives_up first w' a c e n = told_gives_up channel small calls (host_ran_is_trace r).1 first (host_answers _ w' a c) e n

    pub host_names_apart : (first status : ℕ) (w' : List ℕ) (a : Paper) → Called w (Reply channel first status) w' a → answered a 0 ≡ true
        → NamesApart h (h ▸ Reply channel first status ⇒ a) (Reply channel first status) a
    host_names_apart first status w' a c e = told_names_apart channel small calls (host_ran_is_trace r).1 first status (host_answers _ w' a c) e

    pub host_late : (n : ℕ) (w' : List ℕ) (a : Paper) → Called w (Tick channel n) w' a → given_up h n ≡ true → (a ≡ refusal 11) × (w' ≡ w)
    host_late n w' a c g =
        let e = told_late channel small calls (host_ran_is_trace r).1 n (host_answers _ w' a c) g in
        (e, c.kept (λ (z : a.number ≡ 0). omega (arith, z, one_number e)) (λ (z : a.number ≡ 12). omega (arith, z, one_number e)))

    -- the seven numbers that rk_ledger_told then tells are those that the calls and answers tell,
    -- each counted from them alone
    pub host_told : (κs : Lfts 2) (a : Dens κs told-kinds.ps) (x : (res_t told-kinds.r κs).Denot) (s : AtExit (ended_of 2 told-kinds.ps told-kinds.r) κs) → told.Post κs a x s
        → a.0.now ≡ w → (x ≡ 0) × (s.1.0.now ≡ history_numbers channel h)
    unfolding values_of
    host_told κs a x s p e =
        let d = host_ran_demand_3 in
        let z = told_sound κs a x s p (rw e d.state_rules) in (
          z,
          told_row κs a x s p z ∙ ap (λ (y : List ℕ). book_numbers (book_in y)) e
              ∙ rw (count_is (book_in w) (Ask Missing) refl d.counts.missing_is, count_is (book_in w) (Ask Held) refl d.counts.held_is, d.shown.channel_is, d.shown.floor_is, d.shown.top_is, d.shown.pending_is),
        )
