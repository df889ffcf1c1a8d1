-- Request 3, proved for every row of calls on an empty table: each channel's ledger, what is
-- pending, and when a request is given. Assumes nothing.
use mathlib.Core.Path.{◌≡◌, refl, sym, ap, subst, ◌∙◌}
use mathlib.Core.Bool.{true, false, not}
use mathlib.Core.Logic.{inl, inr, ⊎_elim}
use mathlib.Core.List.{[], ◌∷◌}
use Prim.Native.Nat.{ℕ, ◌+◌, ◌-◌, ◌%◌, ◌≤◌, ◌<◌}
use native.Mathlib.Nat.{mod-lt, mod-eq_of_lt, mod-add-mod, add-mod-mod, add-mod_right, zero-add}
use native.Mathlib.Omega.{arith}
use lib.Dec.{eqb}
use borrow.Author.Tests.{eq-eqb, ne_eqb, lt-ltb, le-ltb, le-leb}
use Rattle.terms.specs.Cases.{clash, less}
use Rattle.terms.specs.Paper.{Paper, answer, refusal, pick}
use Rattle.ledger_spec.specs.State.{nothing, Book, StateRules}
use Rattle.ledger_spec.specs.Calls as ledger
use Rattle.ledger_spec.specs.Calls.{is_pending}
use Rattle.ledger_spec.specs.Trace as ledger-trace
use Rattle.ledger_spec.specs.Words.{answered}
use Rattle.ledger_spec.specs.Demand3.{missing_in, MissingNumbers, SomeMissing, LowestRun, Demand3}
use Rattle.ledger_spec.specs.Demand3 as one
use Rattle.ledger_spec.proofs.Told.{told_tick, told_announce, told_reply, told_between}
use Rattle.ledger_spec.proofs.Demand3.{demand_3, first_clear, missing_below, missing_above}
use Rattle.channels_spec.specs.Table.{Place, free, holds, Table, misses, waits, book_in, pending_place, next_place, counted, steps, turn, book_of, TableRules}
use Rattle.channels_spec.specs.Calls.{Request, To, Renew, Said, Tick, Announce, Reply, Between, called, asked, request_number, answer_to}
use Rattle.channels_spec.specs.Trace.{Calls, ◌▸◌, after, History, trace}
use Rattle.channels_spec.specs.Words.{opened, since, own_history, Line, quiet, asks, line, pending_on, grants, grants_on}
use Rattle.channels_spec.specs.Demand.{SaidAnswers, EachChannel, Misses, SomeChannel, Due, Busy, Whole, Gives, Requests, OnePending, Turn, SessionTold}
use Rattle.channels_spec.proofs.Least.{least_low, least_is}
use Rattle.channels_spec.proofs.Places.{its_open, its_book}
use Rattle.channels_spec.proofs.Views.{Asking, busy_14, whole_15, turns, asking_view, TurnAt, turn_at}
use Rattle.channels_spec.proofs.Agree.{Holder, Agrees, agrees, quiet_line, never_quiet}

-- ======== Each channel from its opening

module _ (calls : Calls) (i : ℕ) (b : Book) (channel : ℕ) (is : (after calls).place i ≡ holds b) (own : b.channel ≡ channel) where
  small : channel ≤ 9999
  small = subst (λ (c : ℕ). c ≤ 9999) own ((agrees calls).rules.sound i b is).channel_small

  pub held_demand : Demand3 (own_history channel (trace calls)) channel b
  held_demand = subst (Demand3 (own_history channel (trace calls)) channel) (sym ((agrees calls).each i b channel is own)) (demand_3 channel small (since channel (trace calls)))

-- what is said to an open channel is said to the ledger of its own calls
module _ (channel : ℕ) (calls : Calls) (e : opened channel (trace calls) ≡ true) where
  holder : Holder (after calls) channel
  holder = (agrees calls).open_to channel e

  its_ledger : book_of (after calls) channel ≡ holder.book
  its_ledger = its_book (after calls) (agrees calls).rules holder.place holder.book channel holder.is holder.own

  pub ledger_is : book_of (after calls) channel ≡ ledger-trace.after channel (since channel (trace calls))
  ledger_is = its_ledger ∙ (agrees calls).each holder.place holder.book channel holder.is holder.own

  pub said_to : (said : Said) → answer_to (after calls) (To channel said) ≡ ledger.answer_to (ledger-trace.after channel (since channel (trace calls))) (called channel said)
  unfolding answer_to
  said_to said =
      rw (its_open (after calls) (agrees calls).rules holder.place holder.book channel holder.is holder.own)
      (ap (λ (b : Book). ledger.answer_to b (called channel said)) ledger_is)

  pub said_answers : SaidAnswers (own_history channel (trace calls)) (after calls) channel
  said_answers =
      let own = since channel (trace calls) in
      let w = small calls holder.place holder.book channel holder.is holder.own in
      record {
        tick = λ n. told_tick channel w own refl n (said_to (Tick n));
        announcement = λ n. told_announce channel w own {h = own_history channel (trace calls)} refl n (said_to (Announce n));
        reply = λ first status. told_reply channel w own refl first status (said_to (Reply first status));
        between = λ x z. told_between channel w own refl x z (said_to (Between x z));
      }

  -- "Demand 3 holds for each channel from its opening"
  pub each_channel : EachChannel channel calls
  each_channel =
      record {
        ledger_is = ledger_is;
        demand = subst (Demand3 (own_history channel (trace calls)) channel) (sym its_ledger) (held_demand calls holder.place holder.book channel holder.is holder.own);
        answers = said_answers;
      }

-- ======== What is missing

-- a ledger misses a number exactly where its top stands above its floor
next_missing : (b : Book) → StateRules b → (b.top ≡ b.floor → ⊥) → missing_in b (b.floor + 1) ≡ true
unfolding missing_in
next_missing b r n =
    let lo : b.floor ≤ b.top = r.low in
    let p : b.floor < b.floor + 1 = omega arith in
    let q : b.floor + 1 ≤ b.top = above lo n in
    simp (lt-ltb _ _ p, le-leb _ _ q, first_clear b r)
  where
    above : {f t : ℕ} → f ≤ t → (t ≡ f → ⊥) → f + 1 ≤ t
    above {f} {t} l g = ⊎_elim (λ x. omega arith) (λ x. absurd (g (omega arith))) (less f t)

pub some_missing : (b : Book) (h : ledger-trace.History) (channel : ℕ) → Demand3 h channel b → (b.top ≡ b.floor → ⊥) → SomeMissing h
some_missing b h channel d n = record { number = b.floor + 1; is_missing = sym (d.missing_numbers.exactly (b.floor + 1)) ∙ next_missing b d.state_rules n }

pub none_missing : (b : Book) (h : ledger-trace.History) (channel : ℕ) → Demand3 h channel b → SomeMissing h → b.top ≡ b.floor → ⊥
none_missing b h channel d s e = clash (d.missing_numbers.exactly s.number ∙ s.is_missing)
    (⊎_elim (λ l. missing_above b s.number (subst (λ (k : ℕ). k < s.number) (sym e) l)) (λ l. missing_below b s.number l) (less b.floor s.number))

-- ======== Counted round

-- from wherever it begins, counting round comes to each place within 32 steps
pub record Round (start i : ℕ) : Type 0 where
  pub steps : ℕ
  pub below_32 : steps < 32
  pub there : (start + steps) % 32 ≡ i

pub round : (start i : ℕ) → i < 32 → Round start i
round start i h =
    let r : start % 32 < 32 = mod-lt start (omega arith) in
    let e : start % 32 + (i + 32 - start % 32) ≡ i + 32 = omega arith in
    record {
      steps = (i + 32 - start % 32) % 32;
      below_32 = mod-lt _ (omega arith);
      there = add-mod-mod start (i + 32 - start % 32) 32 ∙ sym (mod-add-mod start 32 (i + 32 - start % 32)) ∙ ap (◌% 32) e ∙ add-mod_right i 32 ∙ mod-eq_of_lt h;
    }

-- a place that misses something is not behind the turn
pub turn_low : (t : Table) (k : ℕ) → k < 32 → misses (t.place (counted t k)) ≡ true → steps t ≤ k
unfolding steps
turn_low t k l e = least_low (λ j. misses (t.place (counted t j))) 32 k l e

pub misses_is : (t : Table) (i : ℕ) (b : Book) → t.place i ≡ holds b → (b.top ≡ b.floor → ⊥) → misses (t.place i) ≡ true
misses_is t i b e n = ap misses e ∙ ap not (ne_eqb _ _ n)

pub some_turn : (t : Table) → TableRules t → (i : ℕ) (b : Book) → t.place i ≡ holds b → (b.top ≡ b.floor → ⊥) → steps t < 32
some_turn t r i b e n =
    let k = round (next_place t) i (r.within i b e) in
    let l : steps t ≤ k.steps = turn_low t k.steps k.below_32 (ap (λ (j : ℕ). misses (t.place j)) k.there ∙ misses_is t i b e n) in
    let h : k.steps < 32 = k.below_32 in
    omega arith

-- ======== A request is given exactly when one is due

module _ (calls : Calls) where
  abbrev t : Table
  t = after calls

  abbrev h : History
  h = trace calls

  abbrev a : Agrees h t
  a = agrees calls

  -- the line is quiet: nothing waits in the table
  pub nothing_waits : line h ≡ quiet → 32 ≤ pending_place t
  unfolding pending_place
  nothing_waits e = ⊎_elim (λ l. absurd (waiting _ refl (least_is (λ i. waits (t.place i)) 32 l).is_so)) (λ l. l) (less (pending_place t) 32)
    where
      waiting : (p : Place) → t.place (pending_place t) ≡ p → waits (t.place (pending_place t)) ≡ true → ⊥
      waiting free x y = clash y (ap waits x)
      waiting (holds b) x y = clash y (ap waits x ∙ ap is_pending (a.pending_is _ b b.channel x refl ∙ ap (pending_on b.channel) e))

  -- a request on the line waits in the table
  one_waits : (channel first last : ℕ) → line h ≡ asks channel first last → pending_place t < 32
  one_waits channel first last e = ⊎_elim (λ l. l) (λ l. absurd (never_quiet channel first last (sym (quiet_line h t a l) ∙ e))) (less (pending_place t) 32)

  -- the channel whose turn it is
  turn_misses : TurnAt t (turn t) → SomeChannel h
  turn_misses g =
      record {
        channel = g.book.channel;
        misses = record {
          is_open_holds = a.open_from _ g.book _ g.is refl;
          some = some_missing g.book _ _ (held_demand calls _ g.book _ g.is refl) g.missing;
        };
      }

  due_turn : SomeChannel h → steps t < 32
  due_turn s =
      let m = a.open_to s.channel s.misses.is_open_holds in
      some_turn t a.rules m.place m.book m.is (none_missing m.book _ _ (held_demand calls m.place m.book s.channel m.is m.own) s.misses.some)

  -- what the ledger whose turn it is answers
  pub turn_gives : 32 ≤ pending_place t → (g : TurnAt t (turn t)) → one.Gives (own_history g.book.channel h) (asked t)
  turn_gives l g =
      let d = held_demand calls _ g.book _ g.is refl in
      let p : g.book.pending ≡ nothing = a.pending_is _ g.book _ g.is refl ∙ ap (pending_on g.book.channel) (quiet_line h t a l) in
      subst (λ (b : Book). one.Gives (own_history g.book.channel h) (ledger.answer_to b (ledger.Request b.channel))) (sym (ap book_in g.is))
      (d.requests.when_due (some_missing g.book _ _ d g.missing) (sym d.shown.pending_is ∙ p))

  due : 32 ≤ pending_place t → steps t < 32 → Gives h (answer_to t Request)
  unfolding answer_to request_number
  due l m =
      let g = turn_at t m in
      let y = turn_gives l g in
      let c : (book_in (t.place (turn t))).channel ≡ g.book.channel = ap (λ (p : Place). (book_in p).channel) g.is in
      record {
        channel = g.book.channel;
        first = y.first;
        last = y.last;
        is_open_holds = a.open_from _ g.book _ g.is refl;
        request = simp (le-ltb _ _ l, lt-ltb _ _ m, y.request) (ap (λ (n : ℕ). answer 0 (n ∷ y.first ∷ y.last ∷ [])) c);
        range_is = y.range_is;
      }

  busy : pending_place t < 32 → answer_to t Request ≡ refusal 14
  unfolding answer_to request_number
  busy l = simp (lt-ltb _ _ l)

  whole : 32 ≤ pending_place t → 32 ≤ steps t → answer_to t Request ≡ refusal 15
  unfolding answer_to request_number
  whole l m = simp (le-ltb _ _ l, le-ltb _ _ m)

  -- exactly one of three holds, and decides the answer
  data RequestView : Type 0 where
    is_due : Due h → Gives h (answer_to t Request) → RequestView
    is_busy : Busy h → answer_to t Request ≡ refusal 14 → RequestView
    is_whole : Whole h → answer_to t Request ≡ refusal 15 → RequestView

  waits_some : pending_place t < 32 → Busy h
  waits_some l = at (line h) refl
    where
      at : (x : Line) → line h ≡ x → Busy h
      at quiet e = absurd (let m = nothing_waits e in too_low l m)
        where
          too_low : {n : ℕ} → n < 32 → 32 ≤ n → ⊥
          too_low x y = omega arith
      at (asks c first last) e = record { channel = c; first = first; last = last; is_pending_holds = e }

  request_view : RequestView
  request_view = ⊎_elim
      (λ l. is_busy (waits_some l) (busy l))
      (λ l. ⊎_elim
      (λ m. is_due (record { some = turn_misses (turn_at t m); none_pending = quiet_line h t a l }) (due l m))
      (λ m. is_whole (record { none_pending = quiet_line h t a l; none_missing = λ c x. none_of m (record { channel = c; misses = x }) }) (whole l m))
      (less (steps t) 32))
      (less (pending_place t) 32)
    where
      none_of : 32 ≤ steps t → SomeChannel h → ⊥
      none_of m s = let n = due_turn s in too_high m n
        where
          too_high : {n : ℕ} → 32 ≤ n → n < 32 → ⊥
          too_high x y = omega arith

  due_busy : Due h → Busy h → ⊥
  due_busy d b = never_quiet b.channel b.first b.last (sym d.none_pending ∙ b.is_pending_holds)

  due_whole : Due h → Whole h → ⊥
  due_whole d w = w.none_missing d.some.channel d.some.misses

  busy_whole : Busy h → Whole h → ⊥
  busy_whole b w = never_quiet b.channel b.first b.last (sym w.none_pending ∙ b.is_pending_holds)

  -- "a request is given exactly when some open channel misses a number and none is pending"
  pub given_request : Requests h (answer_to t Request)
  given_request = at request_view
    where
      numbered : (n k : ℕ) → (answer_to t Request).number ≡ n → eqb n k ≡ false → answered (answer_to t Request) k ≡ true → ⊥
      numbered n k e f g = clash g (ap (λ (x : ℕ). eqb x k) e ∙ f)

      is_number : (n : ℕ) → (answer_to t Request).number ≡ n → answered (answer_to t Request) n ≡ true
      is_number n e = eq-eqb _ _ e

      at : RequestView → Requests h (answer_to t Request)
      at (is_due d g) =
          let n : (answer_to t Request).number ≡ 0 = ap (λ (p : Paper). p.number) g.request in
          record {
            exactly_0 = (λ x. d, λ x. is_number 0 n);
            exactly_14 = (λ x. absurd (numbered 0 14 n refl x), λ x. absurd (due_busy d x));
            exactly_15 = (λ x. absurd (numbered 0 15 n refl x), λ x. absurd (due_whole d x));
            gives = λ x. g;
            no_other = inl g;
          }
      at (is_busy b e) =
          let n : (answer_to t Request).number ≡ 14 = ap (λ (p : Paper). p.number) e in
          record {
            exactly_0 = (λ x. absurd (numbered 14 0 n refl x), λ x. absurd (due_busy x b));
            exactly_14 = (λ x. b, λ x. is_number 14 n);
            exactly_15 = (λ x. absurd (numbered 14 15 n refl x), λ x. absurd (busy_whole b x));
            gives = λ x. absurd (numbered 14 0 n refl x);
            no_other = inr (inl e);
          }
      at (is_whole w e) =
          let n : (answer_to t Request).number ≡ 15 = ap (λ (p : Paper). p.number) e in
          record {
            exactly_0 = (λ x. absurd (numbered 15 0 n refl x), λ x. absurd (due_whole x w));
            exactly_14 = (λ x. absurd (numbered 15 14 n refl x), λ x. absurd (busy_whole x w));
            exactly_15 = (λ x. w, λ x. is_number 15 n);
            gives = λ x. absurd (numbered 15 0 n refl x);
            no_other = inr (inr e);
          }

  -- ======== Whose turn it is

  -- a channel that misses a number is one whose place misses something
  missing_place : (i : ℕ) (b : Book) → t.place i ≡ holds b → Misses b.channel h → misses (t.place i) ≡ true
  missing_place i b e m = misses_is t i b e (none_missing b _ _ (held_demand calls i b b.channel e refl) m.some)

  pub whose_turn : answered (answer_to t Request) 0 ≡ true → Turn h t (answer_to t Request)
  unfolding answer_to steps
  whose_turn e = at (request_number t) (asking_view t) e
    where
      at : (n : ℕ) → Asking t n → eqb n 0 ≡ true → Turn h t (answer n (pick (eqb n 0) ((book_in (t.place (turn t))).channel ∷ (asked t).values) []))
      at n (busy_14 l) y = absurd (clash y refl)
      at n (whole_15 l m) y = absurd (clash y refl)
      at n (turns l m z) y =
          let g = turn_at t m in
          record {
            steps = steps t;
            book = g.book;
            below_32 = m;
            there = g.is;
            channel_is = rw y (ap (λ (p : Place). (book_in p).channel) g.is);
            misses_one = record { is_open_holds = a.open_from _ g.book _ g.is refl; some = some_missing g.book _ _ (held_demand calls _ g.book _ g.is refl) g.missing };
            none_before = λ k b low is x. clash (missing_place _ b is x) ((least_is (λ j. misses (t.place (counted t j))) 32 m).lowest k low);
          }

-- ======== One request is pending, and it is the one on the line

pub one_pending : (calls : Calls) → OnePending (trace calls) (after calls)
one_pending calls =
    let a = agrees calls in
    record {
      pending_is = λ c e. (let m = a.open_to c e in
          ap (λ (b : Book). b.pending) (its_book (after calls) a.rules m.place m.book c m.is m.own) ∙ a.pending_is m.place m.book c m.is m.own);
      own_calls = λ c e. (let m = a.open_to c e in
          sym (held_demand calls m.place m.book c m.is m.own).shown.pending_is ∙ a.pending_is m.place m.book c m.is m.own);
      only_open = a.asker_open;
      at_most_one = a.rules.one_waits;
    }

-- ======== A new session

pub new_session_told : (calls : Calls) → SessionTold (trace calls) (trace (calls ▸ Renew))
unfolding trace answer_to opened since line grants grants_on
new_session_told calls = record { none_pending = refl; opened_same = λ c. refl; since_has = λ c. refl; grants_same = zero-add _; grants_on_same = λ c. zero-add _ }
