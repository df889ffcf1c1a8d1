-- Request 3 of a lent table, each sentence by `Ran` and the theorem of `channels_spec`. Assumes
-- nothing.
use mathlib.Core.Path.{◌≡◌, refl, sym, ap, ap₂, subst, ◌∙◌}
use mathlib.Core.Bool.{Bool, true, false}
use mathlib.Core.Logic.{⊎_elim, ◌↔◌}
use mathlib.Core.List.{List, [], ◌∷◌}
use Prim.Native.Nat.{ℕ, ◌+◌, ◌%◌, ◌≤◌, ◌<◌}
use native.Mathlib.Nat.{mod-lt}
use native.Mathlib.Omega.{arith}
use borrow.Author.Tests.{eq-eqb, ne_eqb}
use Rattle.terms.specs.Cases.{clash, two, less}
use Rattle.terms.specs.Paper.{Paper, pick}
use Rattle.tick_map.specs.Bits.{is_set}
use Rattle.ledger_spec.specs.State.{nothing, range, Book}
use Rattle.ledger_spec.specs.Calls.{is_pending, fresh}
use Rattle.ledger_spec.specs.Words.{answered, value_at}
use Rattle.ledger_spec.specs.Answers.{TickAnswers, AnnounceAnswers, ReplyAnswers, refused_reply, OnlyTop}
use Rattle.ledger_spec.specs.Given.{StatusRight}
use Rattle.ledger_spec.specs.Between.{BetweenAnswers}
use Rattle.ledger_spec.specs.Demand3.{Demand3}
use Rattle.ledger_spec.proofs.Tests.{false_of}
use Rattle.host_words.specs.Told.{Refuses}
use Rattle.channels_spec.specs.Table.{Place, free, holds, Table, waits, pending_place}
use Rattle.channels_spec.specs.Calls.{Call, Open, Close, Request, To, Told, Renew, Tick, Announce, Reply, Between, answer_to, next_of}
use Rattle.channels_spec.specs.Trace.{Calls, ◌▸◌, after, History, ◌▸◌⇒◌, trace, followed}
use Rattle.channels_spec.specs.Words.{opened, own_history, quiet, asks, line, pending_on, grants, grants_on}
use Rattle.channels_spec.specs.Demand.{Misses, Requests, KeepsMissing}
use Rattle.channels_spec.specs.Given.{OpenIn}
use Rattle.channels_spec.proofs.Places.{its_place}
use Rattle.channels_spec.proofs.Agree.{Holder, agrees, quiet_line, never_quiet}
use Rattle.channels_spec.proofs.Demand.{held_demand, said_answers, given_request, whose_turn, one_pending, nothing_waits, new_session_told}
use Rattle.channels_spec.proofs.Fair.{asked_within_32, last_asked}
use Rattle.channels_spec.proofs.Given.{given_10_opening, given_22, given_21, given_0_opening, given_18, lowest_free, closing_frees, refused_keeps, new_session, never_13}
use Rattle.channels_seam.proofs.Table.{given_0_closing, tells}
use Rattle.channels.specs.declared.Channels.{Channels}
use Rattle.channels.specs.declared.ChannelCall.{ChannelCall}
use Rattle.channels.specs.declared.ChannelTold.{ChannelTold}
use Rattle.channels.specs.Answered.{row_of}
use Rattle.channels.specs.Serves.{row_at, answered_by, Serves}
use Rattle.channels.proofs.Keeps.{served_keeps}
use Rattle.channels_seam.specs.Kept.{FreeAt, HeldAt, PlaceAt, Kept, call_of, seen, LentRan}
use Rattle.channels_seam.specs.Lent.{is_used, name_at, book_at, LentChannel, LentPlace, LentAnswers, LentPending, LentTurn, LentThen, no_more, and_then, OtherPlaces, LentOpens, LentCloses, LentOpening, LentClosing, LentNotOpen, LentRaises, LentSession}
use Rattle.channels_seam.proofs.Puts.{waits_at}
use Rattle.channels_seam.proofs.Turns.{held_at, row_book, pending_low}
use Rattle.channels_seam.proofs.Ran.{lent_call, ran, with_ran}

-- ======== What stands at a place

pub record Standing (x : Channels) (t : Table) (i : ℕ) : Type 0 where
  pub book : Book
  pub is : t.place i ≡ holds book
  pub held : HeldAt x i book

module _ (x : Channels) (t : Table) (k : Kept x t) (i : ℕ) (l : i < 32) where
  pub standing : is_used x i → Standing x t i
  standing y = at (t.place i) refl (k.each i l)
    where
      at : (p : Place) → t.place i ≡ p → PlaceAt x i p → Standing x t i
      at free e a = absurd (clash y a.unused)
      at (holds b) e a = record { book = b; is = e; held = a }

  pub is_free_holds : is_set x.index.used i ≡ false → t.place i ≡ free
  is_free_holds y = at (t.place i) refl (k.each i l)
    where
      at : (p : Place) → t.place i ≡ p → PlaceAt x i p → t.place i ≡ free
      at free e a = e
      at (holds b) e a = absurd (clash a.used_is y)

  pub free_at : t.place i ≡ free → FreeAt x i
  free_at e = subst (PlaceAt x i) e (k.each i l)

  used_not_free : (t.place i ≡ free → ⊥) → is_used x i
  used_not_free n = ⊎_elim (λ y. y) (λ y. absurd (n (is_free_holds y))) (two (is_set x.index.used i))

  pub book_is : (b : Book) → t.place i ≡ holds b → book_at x i ≡ b
  book_is b e = row_book x t k i b l e

-- a place that two tables have alike is kept alike
alike : (x y : Channels) (i : ℕ) (p : Place) → PlaceAt x i p → PlaceAt y i p → (is_set y.index.used i ≡ is_set x.index.used i) × ((name_at y i ≡ name_at x i) × (row_at y i ≡ row_at x i))
alike x y i free a b = (b.unused ∙ sym a.unused, (b.name_is ∙ sym a.name_is, b.row_is ∙ sym a.row_is))
alike x y i (holds q) a b = (b.used_is ∙ sym a.used_is, (b.name_is ∙ sym a.name_is, b.row_is ∙ sym a.row_is))

others_alike : (x y : Channels) (t u : Table) → Kept x t → Kept y u → (place : ℕ) → ((i : ℕ) → (i ≡ place → ⊥) → u.place i ≡ t.place i) → u.last ≡ t.last → OtherPlaces x y place
others_alike x y t u k m place e f =
    record {
      used_same = λ i l n. (both i l n).0;
      name_same = λ i l n. (both i l n).1.0;
      row_same = λ i l n. (both i l n).1.1;
      last_same = m.last_is ∙ f ∙ sym k.last_is;
    }
  where
    both : (i : ℕ) → i < 32 → (i ≡ place → ⊥) → (is_set y.index.used i ≡ is_set x.index.used i) × ((name_at y i ≡ name_at x i) × (row_at y i ≡ row_at x i))
    both i l n = alike x y i (t.place i) (k.each i l) (subst (PlaceAt y i) (e i n) (m.each i l))

-- what a call names
channel_in : Call → ℕ
channel_in (Open c) = c
channel_in (Close c) = c
channel_in Request = 0
channel_in (To c said) = c
channel_in (Told c) = c
channel_in Renew = 0

number_in : Call → ℕ
number_in (Open c) = 0
number_in (Close c) = 0
number_in Request = 0
number_in (To c (Tick n)) = n
number_in (To c (Announce n)) = n
number_in (To c (Reply first status)) = first
number_in (To c (Between p z)) = p
number_in (Told c) = 0
number_in Renew = 0

-- a channel is open exactly where its ledger stands
pub open_in : (channel : ℕ) (calls : Calls) → opened channel (trace calls) ≡ true → OpenIn (after calls) channel
open_in channel calls e = let q = (agrees calls).open_to channel e in record { place = q.place; book = q.book; is = q.is; own = q.own }

pub in_open : (channel : ℕ) (calls : Calls) → OpenIn (after calls) channel → opened channel (trace calls) ≡ true
in_open channel calls o = (agrees calls).open_from o.place o.book channel o.is o.own

pub not_in : (channel : ℕ) (calls : Calls) → opened channel (trace calls) ≡ false → OpenIn (after calls) channel → ⊥
not_in channel calls e o = clash (in_open channel calls o) e

-- ======== Each channel

module _ {h : History} {x : Channels} (r : LentRan h x) where
  pub lent_channel : (channel : ℕ) → opened channel h ≡ true → LentChannel h channel x
  lent_channel channel = with_ran (λ g. opened channel g ≡ true → LentChannel g channel x) r (λ calls k e. at calls k ((agrees calls).open_to channel e))
    where
      at : (calls : Calls) → Kept x (after calls) → Holder (after calls) channel → LentChannel (trace calls) channel x
      at calls k m =
          let l = (agrees calls).rules.within m.place m.book m.is in
          let a = held_at x (after calls) k m.place m.book l m.is in
          record {
            place = m.place;
            below_32 = l;
            used = a.used_is;
            name_is = a.name_is ∙ m.own;
            row_is = a.row_is ∙ ap row_of ((agrees calls).each m.place m.book channel m.is m.own);
            demand = subst (Demand3 (own_history channel (trace calls)) channel) (sym (book_is x (after calls) k m.place l m.book m.is)) (held_demand calls m.place m.book channel m.is m.own);
            no_other = λ i g u n. (let s = standing x (after calls) k i g u in
                k.rules.apart i m.place s.book m.book s.is m.is (sym s.held.name_is ∙ n ∙ sym m.own));
          }

  pub lent_place : (i : ℕ) → i < 32 → is_used x i → LentPlace h x i
  lent_place i l u = with_ran (λ g. LentPlace g x i) r (λ calls k. (let s = standing x (after calls) k i l u in
      record {
        is_open_holds = (agrees calls).open_from i s.book (name_at x i) s.is (sym s.held.name_is);
        small = subst (λ (n : ℕ). n ≤ 9999) (sym s.held.name_is) (k.rules.sound i s.book s.is).channel_small;
      }))

  -- ======== One pending

  pub lent_pending : LentPending h x
  lent_pending = with_ran (λ g. LentPending g x) r (λ calls k. record {
    none_asked = λ e. none_asked calls k e;
    asked_place = λ c first last e. waiting calls k c first last e;
    asked_used = λ c first last e. (asked_held calls k c first last e (waiting calls k c first last e)).0;
    asked_name = λ c first last e. (asked_held calls k c first last e (waiting calls k c first last e)).1;
    pending_is = λ i l u. (let s = standing x (after calls) k i l u in
        ap (λ (b : Book). b.pending) (book_is x (after calls) k i l s.book s.is) ∙ (agrees calls).pending_is i s.book (name_at x i) s.is (sym s.held.name_is));
    own_calls = (one_pending calls).own_calls;
  })
    where
      none_asked : (calls : Calls) → Kept x (after calls) → line (trace calls) ≡ quiet → x.index.asked ≡ 32
      none_asked calls k e =
          let a : x.index.asked ≡ pending_place (after calls) = k.asked_is in
          let l : 32 ≤ pending_place (after calls) = nothing_waits calls e in
          let u : pending_place (after calls) ≤ 32 = pending_low x (after calls) k in
          omega (arith, a, l, u)

      waiting : (calls : Calls) → Kept x (after calls) → (c first last : ℕ) → line (trace calls) ≡ asks c first last → x.index.asked < 32
      waiting calls k c first last e =
          let a : x.index.asked ≡ pending_place (after calls) = k.asked_is in
          subst (λ (n : ℕ). n < 32) (sym a) (⊎_elim (λ l. l) (λ l. absurd (never_quiet c first last (sym (quiet_line (trace calls) (after calls) (agrees calls) l) ∙ e))) (less (pending_place (after calls)) 32))

      asked_held : (calls : Calls) → Kept x (after calls) → (c first last : ℕ) → line (trace calls) ≡ asks c first last → x.index.asked < 32 → is_used x x.index.asked × (name_at x x.index.asked ≡ c)
      asked_held calls k c first last e l =
          let m = (agrees calls).open_to c ((agrees calls).asker_open c first last e) in
          let w : waits ((after calls).place m.place) ≡ true = ap waits m.is ∙ ap is_pending ((agrees calls).pending_is m.place m.book c m.is m.own ∙ ap (pending_on c) e) ∙ ap (λ (u : Bool). is_pending (pick u (range first last) nothing)) (eq-eqb c c refl) in
          let v : waits ((after calls).place (pending_place (after calls))) ≡ true = waits_at (after calls) (subst (λ (n : ℕ). n < 32) k.asked_is l) in
          let p : m.place ≡ x.index.asked = k.rules.one_waits m.place (pending_place (after calls)) w v ∙ sym k.asked_is in
          let a = held_at x (after calls) k m.place m.book (k.rules.within m.place m.book m.is) m.is in
          subst (λ (n : ℕ). is_used x n × (name_at x n ≡ c)) p (a.used_is, a.name_is ∙ m.own)

  -- ======== One more call

  module _ {next : Channels} {told : ChannelTold} (call : ChannelCall) (s : Serves x call told next) where
    abbrev a : Paper
    a = seen (call_of call) told

    -- in a row of calls
    pub one_call : (P : History → Type 0) → ((calls : Calls) → Kept x (after calls) → a ≡ answer_to (after calls) (call_of call) → Kept next (next_of (after calls) (call_of call)) → P (trace calls)) → P h
    one_call P f = with_ran P r (λ calls k. (let d = lent_call x next (after calls) call told k s in f calls k d.0 d.1))

    pub lent_answers : (channel : ℕ) → opened channel h ≡ true → LentAnswers h channel (call_of call) a
    lent_answers channel = one_call (λ g. opened channel g ≡ true → LentAnswers g channel (call_of call) a) (λ calls k e m o. (let q = said_answers channel calls o in
        record {
          tick = λ n f. subst (TickAnswers _ n) (sym (e ∙ ap (answer_to (after calls)) f)) (q.tick n);
          announcement = λ n f. subst (AnnounceAnswers n) (sym (e ∙ ap (answer_to (after calls)) f)) (q.announcement n);
          reply = λ first status f. subst (ReplyAnswers _ first status) (sym (e ∙ ap (answer_to (after calls)) f)) (q.reply first status);
          between = λ p z f. subst (BetweenAnswers _ p z) (sym (e ∙ ap (answer_to (after calls)) f)) (q.between p z);
          told = λ f. e ∙ ap (answer_to (after calls)) f ∙ (tells channel calls).of_open o;
        }))

    -- a reply on an open channel that was not the one asked
    pub lent_other_16 : (channel first status other from to : ℕ) → call_of call ≡ To channel (Reply first status) → opened channel h ≡ true
        → line h ≡ asks other from to → (other ≡ channel → ⊥) → StatusRight status → a ≡ refused_reply 16
    lent_other_16 channel first status other from to f o e n right =
        ((lent_answers channel o).reply first status f).unasked_16 right (λ last p. never last (sym p ∙ lent_pending.own_calls channel o ∙ ap (pending_on channel) e ∙ ap (λ (u : Bool). pick u (range from to) nothing) (ne_eqb _ _ n)))
      where
        never : (last : ℕ) → range first last ≡ nothing → ⊥
        never last p = clash refl (ap is_pending p)

    pub lent_requests : call_of call ≡ Request → Requests h a
    lent_requests f = one_call (λ g. Requests g a) (λ calls k e m. subst (Requests (trace calls)) (sym (e ∙ ap (answer_to (after calls)) f)) (given_request calls))

    pub lent_turn : call_of call ≡ Request → answered a 0 ≡ true → LentTurn h x a next
    lent_turn f y = one_call (λ g. LentTurn g x a next) (λ calls k e m. at calls k (e ∙ ap (answer_to (after calls)) f) (subst (λ (c : Call). Kept next (next_of (after calls) c)) f m))
      where
        at : (calls : Calls) → Kept x (after calls) → a ≡ answer_to (after calls) Request → Kept next (next_of (after calls) Request) → LentTurn (trace calls) x a next
        at calls k e m =
            let t = after calls in
            let z : answered (answer_to t Request) 0 ≡ true = ap (λ (p : Paper). answered p 0) (sym e) ∙ y in
            let w = whose_turn calls z in
            let last : (n : ℕ) → (x.index.last + 1 + n) % 32 ≡ (t.last + 1 + n) % 32 = λ n. ap (λ (q : ℕ). (q + 1 + n) % 32) k.last_is in
            let here = held_at x t k ((t.last + 1 + w.steps) % 32) w.book (mod-lt _ (omega arith)) w.there in
            let value : value_at a 0 ≡ w.book.channel = ap (λ (p : Paper). value_at p 0) e ∙ w.channel_is in
            record {
              steps = w.steps;
              below_32 = w.below_32;
              used = ap (is_set x.index.used) (last w.steps) ∙ here.used_is;
              name_is = ap (name_at x) (last w.steps) ∙ here.name_is ∙ sym value;
              misses_one = subst (λ (n : ℕ). Misses n (trace calls)) (sym value) w.misses_one;
              none_before = λ n g u q. (let st = standing x t k ((x.index.last + 1 + n) % 32) (mod-lt _ (omega arith)) u in
                  w.none_before n st.book g (ap t.place (sym (last n)) ∙ st.is) (subst (λ (c : ℕ). Misses c (trace calls)) st.held.name_is q));
              now_last = m.last_is ∙ (last_asked t Request k.rules).moves refl z
                  ∙ its_place t k.rules _ w.book _ w.there (sym w.channel_is) ∙ sym (last w.steps);
            }

    pub lent_opens : (channel : ℕ) → call_of call ≡ Open channel → answered a 0 ≡ true → LentOpens x channel next
    unfolding fresh
    lent_opens channel f y = one_call (λ g. LentOpens x channel next) (λ calls k e m. at calls k (e ∙ ap (answer_to (after calls)) f) (subst (λ (c : Call). Kept next (next_of (after calls) c)) f m))
      where
        at : (calls : Calls) → Kept x (after calls) → a ≡ answer_to (after calls) (Open channel) → Kept next (next_of (after calls) (Open channel)) → LentOpens x channel next
        at calls k e m =
            let t = after calls in
            let w = lowest_free t channel (ap (λ (p : Paper). answered p 0) (sym e) ∙ y) in
            let here = held_at next (next_of t (Open channel)) m w.place (fresh channel) w.below_32 w.fresh_there in
            record {
              place = w.place;
              below_32 = w.below_32;
              was_free = (free_at x t k w.place w.below_32 w.was_free).unused;
              lowest = λ i g. used_not_free x t k i (below g w.below_32) (w.lowest i g);
              used = here.used_is;
              name_is = here.name_is;
              row_is = here.row_is;
              others = others_alike x next t (next_of t (Open channel)) k m w.place w.others w.last_same;
            }
          where
            below : {i p : ℕ} → i < p → p < 32 → i < 32
            below g l = omega arith

    pub lent_closes : (channel : ℕ) → call_of call ≡ Close channel → answered a 0 ≡ true → LentCloses x channel next
    lent_closes channel f y = one_call (λ g. LentCloses x channel next) (λ calls k e m. at calls k (e ∙ ap (answer_to (after calls)) f) (subst (λ (c : Call). Kept next (next_of (after calls) c)) f m))
      where
        at : (calls : Calls) → Kept x (after calls) → a ≡ answer_to (after calls) (Close channel) → Kept next (next_of (after calls) (Close channel)) → LentCloses x channel next
        at calls k e m =
            let t = after calls in
            let u = next_of t (Close channel) in
            let w = closing_frees t channel k.rules (ap (λ (p : Paper). answered p 0) (sym e) ∙ y) in
            let l = k.rules.within w.was.place w.was.book w.was.is in
            let here = held_at x t k w.was.place w.was.book l w.was.is in
            let gone = free_at next u m w.was.place l w.freed in
            record {
              place = w.was.place;
              below_32 = l;
              was_used = here.used_is;
              name_was = here.name_is ∙ w.was.own;
              freed = gone.unused;
              row_is = gone.row_is;
              not_asked = λ q. (let p : pending_place u ≡ w.was.place = sym m.asked_is ∙ q in
                  clash (waits_at u (subst (λ (n : ℕ). n < 32) (sym p) l)) (ap (λ (n : ℕ). waits (u.place n)) p ∙ ap waits w.freed));
              others = others_alike x next t u k m w.was.place w.others w.last_same;
            }

    pub lent_opening : (channel : ℕ) → call_of call ≡ Open channel → LentOpening h x channel a
    lent_opening channel f = one_call (λ g. LentOpening g x channel a) (λ calls k e m. at calls k (ap (λ (p : Paper). p.number) (e ∙ ap (answer_to (after calls)) f)))
      where
        at : (calls : Calls) → Kept x (after calls) → a.number ≡ (answer_to (after calls) (Open channel)).number → LentOpening (trace calls) x channel a
        at calls k e =
            let t = after calls in
            record {
              exactly_10 = (λ n. (given_10_opening t channel).0 (sym e ∙ n), λ n. e ∙ (given_10_opening t channel).1 n);
              exactly_22 = (
                λ n. (let g = (given_22 t channel k.rules).0 (sym e ∙ n) in (g.small, in_open channel calls g.twice)),
                λ n. e ∙ (given_22 t channel k.rules).1 (record { small = n.0; twice = open_in channel calls n.1 }),
              );
              exactly_21 = (
                λ n. (let g = (given_21 t channel k.rules).0 (sym e ∙ n) in
                    (g.small, (false_of _ (λ o. g.new (open_in channel calls o)), λ i l. used_not_free x t k i l (g.full i l)))),
                λ n. e ∙ (given_21 t channel k.rules).1 (record { small = n.0; new = not_in channel calls n.1.0; full = λ i l q. clash (n.1.1 i l) (free_at x t k i l q).unused }),
              );
              exactly_0 = (
                λ n. (let g = (given_0_opening t channel k.rules).0 (sym e ∙ n) in
                    (g.small, (false_of _ (λ o. g.new (open_in channel calls o)), record { place = g.place; below_32 = g.below_32; is_free_holds = (free_at x t k g.place g.below_32 g.is_free_holds).unused }))),
                λ n. e ∙ (given_0_opening t channel k.rules).1 (record {
                  small = n.0;
                  new = not_in channel calls n.1.0;
                  place = n.1.1.place;
                  below_32 = n.1.1.below_32;
                  is_free_holds = is_free_holds x t k n.1.1.place n.1.1.below_32 n.1.1.is_free_holds;
                }),
              );
            }

    -- "18 for a channel not open": exactly where the call names a channel that is not
    pub lent_18 : (a.number ≡ 18) ↔ LentNotOpen h (call_of call)
    lent_18 = one_call (λ g. (a.number ≡ 18) ↔ LentNotOpen g (call_of call)) (λ calls k e m. (
      λ n. (let g = (given_18 (after calls) (call_of call) k.rules).0 (sym (ap (λ (p : Paper). p.number) e) ∙ n) in
          record { channel = g.channel; named = g.named; not_open = false_of _ (λ o. g.not_open (open_in g.channel calls o)) }),
      λ n. ap (λ (p : Paper). p.number) e ∙ (given_18 (after calls) (call_of call) k.rules).1 (record { channel = n.channel; named = n.named; not_open = not_in n.channel calls n.not_open }),
    ))

    -- a closing is answered 0 exactly for an open channel, and else 18
    pub lent_closing : (channel : ℕ) → call_of call ≡ Close channel → LentClosing h channel a
    lent_closing channel f = one_call (λ g. LentClosing g channel a) (λ calls k e m. at calls k (ap (λ (p : Paper). p.number) (e ∙ ap (answer_to (after calls)) f)))
      where
        at : (calls : Calls) → Kept x (after calls) → a.number ≡ (answer_to (after calls) (Close channel)).number → LentClosing (trace calls) channel a
        at calls k e =
            let t = after calls in
            record {
              exactly_0 = (
                λ n. in_open channel calls ((given_0_closing t channel k.rules).0 (sym e ∙ n)),
                λ o. e ∙ (given_0_closing t channel k.rules).1 (open_in channel calls o),
              );
              exactly_18 = (
                λ n. false_of _ (λ o. apart_0_18 (e ∙ (given_0_closing t channel k.rules).1 (open_in channel calls o)) n),
                λ o. e ∙ (given_18 t (Close channel) k.rules).1 (record { channel = channel; named = refl; not_open = not_in channel calls o }),
              );
            }
          where
            apart_0_18 : {n : ℕ} → n ≡ 0 → n ≡ 18 → ⊥
            apart_0_18 p q = omega (arith, p, q)

    -- 12 raises the top of the channel that the tick names, and changes nothing else
    pub lent_raises : (channel n : ℕ) → call_of call ≡ To channel (Tick n) → answered a 12 ≡ true → LentRaises x channel n next
    unfolding channel_in number_in
    lent_raises channel n f y = one_call (λ g. LentRaises x channel n next) (λ calls k e m. at calls k (e ∙ ap (answer_to (after calls)) f) (subst (λ (c : Call). Kept next (next_of (after calls) c)) f m))
      where
        at : (calls : Calls) → Kept x (after calls) → a ≡ answer_to (after calls) (To channel (Tick n)) → Kept next (next_of (after calls) (To channel (Tick n))) → LentRaises x channel n next
        at calls k e m =
            let t = after calls in
            let u = next_of t (To channel (Tick n)) in
            let w = (refused_keeps t (To channel (Tick n))).far (ap (λ (p : Paper). answered p 12) (sym e) ∙ y) in
            let l = k.rules.within w.at.place w.at.book w.at.is in
            let here = held_at x t k w.at.place w.at.book l w.at.is in
            record {
              place = w.at.place;
              below_32 = l;
              used = here.used_is;
              name_is = here.name_is ∙ w.at.own ∙ ap channel_in (sym w.is_tick_holds);
              only_top = subst (OnlyTop _ _) (ap number_in (sym w.is_tick_holds)) (rw (book_is x t k w.at.place l w.at.book w.at.is, book_is next u m w.at.place l w.book w.there) w.only_top);
              others = others_alike x next t u k m w.at.place w.others w.last_same;
            }

    -- a new session clears the pending request, and keeps all else
    pub lent_session : call_of call ≡ Renew → LentSession x a next
    lent_session f = one_call (λ g. LentSession x a next) (λ calls k e m. at calls k (e ∙ ap (answer_to (after calls)) f) (subst (λ (c : Call). Kept next (next_of (after calls) c)) f m))
      where
        at : (calls : Calls) → Kept x (after calls) → a ≡ answer_to (after calls) Renew → Kept next (next_of (after calls) Renew) → LentSession x a next
        at calls k e m =
            let t = after calls in
            let u = next_of t Renew in
            let w = new_session t k.rules in
            record {
              answer_0 = ap (λ (p : Paper). p.number) (e ∙ w.answer_is);
              none_asked = quiet_now m.asked_is (nothing_waits (calls ▸ Renew) (new_session_told calls).none_pending) (pending_low next u m);
              last_same = m.last_is ∙ w.last_same ∙ sym k.last_is;
              used_same = λ i l. (kept_place i l (t.place i) refl (k.each i l)).0;
              name_same = λ i l. (kept_place i l (t.place i) refl (k.each i l)).1;
              only_cleared = λ i l y. (let st = standing x t k i l y in
                  rw (e ∙ w.answer_is, book_is x t k i l st.book st.is, book_is next u m i l _ (w.there i st.book st.is)) (w.only_cleared i st.book st.is));
            }
          where
            quiet_now : {n p : ℕ} → n ≡ p → 32 ≤ p → p ≤ 32 → n ≡ 32
            quiet_now q g l = omega (arith, q)

            kept_place : (i : ℕ) → i < 32 → (p : Place) → (after calls).place i ≡ p → PlaceAt x i p → (is_set next.index.used i ≡ is_set x.index.used i) × (name_at next i ≡ name_at x i)
            kept_place i l free q b =
                let g = free_at next (next_of (after calls) Renew) m i l ((new_session (after calls) k.rules).free_same i q) in
                (g.unused ∙ sym b.unused, g.name_is ∙ sym b.name_is)
            kept_place i l (holds d) q b =
                let w = new_session (after calls) k.rules in
                let g = held_at next (next_of (after calls) Renew) m i (w.next_book i d q) l (w.there i d q) in
                (g.used_is ∙ sym b.used_is, g.name_is ∙ (w.only_cleared i d q).channel_same ∙ sym b.name_is)

    -- 13 is never answered
    pub lent_never_13 : answered a 13 ≡ false
    lent_never_13 = one_call (λ g. answered a 13 ≡ false) (λ calls k e m. ap (λ (p : Paper). answered p 13) e ∙ never_13 (after calls) (call_of call) k.rules)

-- ======== A refusal but 12 leaves every table, sound or not, byte for byte

pub served_refused : {was next : Channels} {told : ChannelTold} (call : ChannelCall) → Serves was call told next → Refuses told.answer → (told.answer ≡ 12 → ⊥) → next ≡ was
served_refused {was} {next} {told} call s z f =
    let number : told.answer ≡ (answered_by was call).told.answer = ap (λ (t : ChannelTold). t.answer) s.told_is in
    s.table_is ∙ served_keeps was call (λ e. z (number ∙ e)) (λ e. f (number ∙ e))

-- ======== Asked within 32 granted requests

record Then (channel : ℕ) (calls : Calls) (g : History) : Type 0 where
  more : List Call
  keeps : KeepsMissing channel calls more
  is : g ≡ trace (followed calls more)

then_row : (channel : ℕ) (calls : Calls) {h g : History} {x y : Channels} → h ≡ trace calls → Kept x (after calls) → LentThen channel h x g y → Then channel calls g
unfolding trace
then_row channel calls e k no_more = record { more = []; keeps = tt; is = e }
then_row channel calls {h} {g} {x} {y} e k (and_then {y = next} {told = told} call m s rest) =
    let d = lent_call x next (after calls) call told k s in
    let q = then_row channel (calls ▸ call_of call) (ap₂ (λ (a : History) (p : Paper). a ▸ call_of call ⇒ p) e d.0) d.1 rest in
    record { more = call_of call ∷ q.more; keeps = (subst (Misses channel) e m, q.keeps); is = q.is }

pub lent_within_32 : {h g : History} {x y : Channels} (channel : ℕ) → LentRan h x → LentThen channel h x g y → grants h + 32 ≤ grants g → grants_on channel h < grants_on channel g
lent_within_32 {h} {g} channel r f more =
    let q = ran r in
    let w = then_row channel q.calls q.is q.kept f in
    subst (λ (a : History). grants_on channel a < grants_on channel g) (sym q.is) (subst (λ (a : History). grants_on channel (trace q.calls) < grants_on channel a) (sym w.is)
    (asked_within_32 channel q.calls w.more w.keeps (subst (λ (a : History). grants (trace q.calls) + 32 ≤ grants a) w.is (subst (λ (a : History). grants a + 32 ≤ grants g) q.is more))))
