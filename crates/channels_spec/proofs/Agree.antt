-- The invariant of every row of calls: the table agrees with the history. It holds of the empty
-- table, and every call keeps it. Assumes nothing.
use mathlib.Core.Path.{◌≡◌, refl, sym, ap, subst, ◌∙◌}
use mathlib.Core.Bool.{Bool, true, false, ◌&&◌, not}
use mathlib.Core.Logic.{◌⊎◌, inl, inr, ⊎_elim}
use mathlib.Core.List.{[], ◌∷◌}
use Prim.Native.Nat.{ℕ, ◌≤◌, ◌<◌}
use lib.Dec.{eqb}
use borrow.Author.Tests.{eq-eqb, ne_eqb, eqb-true, eqb-false}
use Rattle.terms.specs.Cases.{clash, two, same}
use Rattle.terms.specs.Paper.{Paper, answer, refusal, pick}
use Rattle.ledger_spec.specs.State.{Asked, nothing, range, Book, or_else}
use Rattle.ledger_spec.specs.Calls as ledger
use Rattle.ledger_spec.specs.Calls.{is_pending, fresh}
use Rattle.ledger_spec.specs.Given.{FineReply}
use Rattle.ledger_spec.specs.Trace as ledger-trace
use Rattle.ledger_spec.specs.Words.{answered, value_at, still_pending}
use Rattle.ledger_spec.proofs.Done.{given_0}
use Rattle.ledger_spec.proofs.Tests.{and_false, pick_cases}
use Rattle.ledger_spec.proofs.Steps.{Step, step}
use Rattle.ledger_spec.proofs.Answers.{new_session}
use Rattle.channels_spec.specs.Table.{free, holds, Table, empty, put, waits, book_in, place_of, free_place, pending_place, turn, is_open, book_of, TableRules}
use Rattle.channels_spec.specs.Calls.{Said, Tick, Announce, Reply, Between, Call, Open, Close, Request, To, Told, Renew, called, opening_number, request_number, asked, granted, unopened, renewed_place, renewed, answer_to, next_of}
use Rattle.channels_spec.specs.Trace.{Calls, none, ◌▸◌, after, History, start, ◌▸◌⇒◌, trace}
use Rattle.channels_spec.specs.Words.{opened, since, Line, quiet, asks, replied, asks_for, line, pending_on}
use Rattle.channels_spec.proofs.Places.{After, here, else, after_put, put_here, put_else, one_book, not_free, Here, open_here, its_open}
use Rattle.channels_spec.proofs.Views.{Opening, fine_0, wide_10, twice_22, full_21, opening, free_there, Asking, busy_14, whole_15, turns, asking_view, none_waits, TurnAt, turn_at}
use Rattle.channels_spec.proofs.Rules.{empty_rules, Before, before, renewed_rules, rules_kept}

-- some place holds the channel's ledger
pub record Holder (t : Table) (channel : ℕ) : Type 0 where
  pub place : ℕ
  pub book : Book
  pub is : t.place place ≡ holds book
  pub own : book.channel ≡ channel

pub record Agrees (h : History) (t : Table) : Type 0 where
  pub rules : TableRules t
  pub open_to : (channel : ℕ) → opened channel h ≡ true → Holder t channel
  pub open_from : (i : ℕ) (b : Book) (channel : ℕ) → t.place i ≡ holds b → b.channel ≡ channel → opened channel h ≡ true
  pub each : (i : ℕ) (b : Book) (channel : ℕ) → t.place i ≡ holds b → b.channel ≡ channel → b ≡ ledger-trace.after channel (since channel h)
  pub pending_is : (i : ℕ) (b : Book) (channel : ℕ) → t.place i ≡ holds b → b.channel ≡ channel → b.pending ≡ pending_on channel (line h)
  pub asker_open : (channel first last : ℕ) → line h ≡ asks channel first last → opened channel h ≡ true

-- ---- what the line says

own_pending : (channel first last : ℕ) → pending_on channel (asks channel first last) ≡ range first last
own_pending channel first last = rw (eq-eqb channel channel refl)

other_pending : (channel c first last : ℕ) → (c ≡ channel → ⊥) → pending_on channel (asks c first last) ≡ nothing
other_pending channel c first last n = rw (ne_eqb c channel n)

pub never_quiet : (c first last : ℕ) → quiet ≡ asks c first last → ⊥
never_quiet c first last e = clash (eq-eqb c c refl) (ap (asks_for c) (sym e))

-- a request that is pending on a channel is the one on the line
pub asker : (channel first last : ℕ) (l : Line) → pending_on channel l ≡ range first last → l ≡ asks channel first last
asker channel first last quiet e = absurd (never e)
  where
    never : nothing ≡ range first last → ⊥
    never x = clash refl (ap (λ (p : Asked). not (is_pending p)) x)
asker channel first last (asks c f l) e = ⊎_elim (λ y. at y (sym (ap (λ (k : ℕ). pending_on k (asks c f l)) y) ∙ own_pending c f l)) (λ n. absurd (clash (ap is_pending e) (ap is_pending (other_pending channel c f l n)))) (same c channel)
  where
    at : c ≡ channel → pending_on channel (asks c f l) ≡ range f l → asks c f l ≡ asks channel first last
    at y p = let q : range f l ≡ range first last = sym p ∙ e in cc

-- ---- before the first call

start_agrees : Agrees start empty
unfolding opened line
start_agrees =
    record {
      rules = empty_rules;
      open_to = λ channel e. absurd (clash e refl);
      open_from = λ i b channel e c. absurd (not_free e);
      each = λ i b channel e c. absurd (not_free e);
      pending_is = λ i b channel e c. absurd (not_free e);
      asker_open = λ channel first last e. absurd (never_quiet channel first last e);
    }

-- ---- a call that changes neither the table nor a word

still : (h : History) (t : Table) (g : History) → Agrees h t → ((c : ℕ) → opened c g ≡ opened c h) → ((i : ℕ) (b : Book) (c : ℕ) → t.place i ≡ holds b → b.channel ≡ c → since c g ≡ since c h) → line g ≡ line h → Agrees g t
still h t g a o s l =
    record {
      rules = a.rules;
      open_to = λ c e. a.open_to c (sym (o c) ∙ e);
      open_from = λ i b c e f. o c ∙ a.open_from i b c e f;
      each = λ i b c e f. a.each i b c e f ∙ ap (ledger-trace.after c) (sym (s i b c e f));
      pending_is = λ i b c e f. a.pending_is i b c e f ∙ ap (pending_on c) (sym l);
      asker_open = λ c first last e. o c ∙ a.asker_open c first last (sym l ∙ e);
    }

or_true : (b : Bool) → or_else b true ≡ true
or_true true = refl
or_true false = refl

-- ---- opening

module _ (h : History) (t : Table) (a : Agrees h t) (d : ℕ) where
  refused_opening : (n : ℕ) → eqb n 0 ≡ false → Agrees (h ▸ Open d ⇒ refusal n) t
  unfolding opened since line
  refused_opening n e = still h t _ a (λ c. ap (λ (x : Bool). or_else (eqb d c && x) (opened c h)) e ∙ ap (λ (x : Bool). or_else x (opened c h)) (and_false (eqb d c)))
      (λ i b c x y. ap (λ (z : Bool). pick (eqb d c && z) ledger-trace.none (since c h)) e ∙ ap (λ (z : Bool). pick z ledger-trace.none (since c h)) (and_false (eqb d c))) refl

  done_opening : d ≤ 9999 → is_open t d ≡ false → free_place t < 32 → TableRules (put t (free_place t) (holds (fresh d))) → Agrees (h ▸ Open d ⇒ refusal 0) (put t (free_place t) (holds (fresh d)))
  unfolding opened since line fresh
  done_opening w o f r =
      record {
        rules = r;
        open_to = λ c e. to c e (same d c);
        open_from = λ j b c e y. from j b c y (after_put t i j (holds (fresh d)) (holds b) e);
        each = λ j b c e y. each_at j b c y (after_put t i j (holds (fresh d)) (holds b) e);
        pending_is = λ j b c e y. pending_at j b c y (after_put t i j (holds (fresh d)) (holds b) e);
        asker_open = λ c first last e. ap (or_else (eqb d c && true)) (a.asker_open c first last e) ∙ or_true (eqb d c && true);
      }
    where
      i : ℕ
      i = free_place t

      -- no ledger of this channel stands anywhere
      closed : (j : ℕ) (b : Book) (c : ℕ) → t.place j ≡ holds b → b.channel ≡ c → d ≡ c → ⊥
      closed j b c e y z = clash (its_open t a.rules j b d e (y ∙ sym z)) o

      to : (c : ℕ) → or_else (eqb d c && true) (opened c h) ≡ true → (d ≡ c) ⊎ (d ≡ c → ⊥) → Holder (put t i (holds (fresh d))) c
      to c e (inl y) = record { place = i; book = fresh d; is = put_here t i (holds (fresh d)); own = y }
      to c e (inr n) =
          let o' : opened c h ≡ true = sym (ap (λ (x : Bool). or_else (x && true) (opened c h)) (ne_eqb d c n)) ∙ e in
          let k = a.open_to c o' in
          record { place = k.place; book = k.book; is = put_else t i k.place _ (λ z. not_free (sym (free_there t f) ∙ ap t.place (sym z) ∙ k.is)) ∙ k.is; own = k.own }

      from : (j : ℕ) (b : Book) (c : ℕ) → b.channel ≡ c → After t i (holds (fresh d)) j (holds b) → or_else (eqb d c && true) (opened c h) ≡ true
      from j b c y (here z e) = ap (λ (x : Bool). or_else (x && true) (opened c h)) (eq-eqb d c (ap (λ (q : Book). q.channel) (one_book e) ∙ y))
      from j b c y (else n e) = ap (or_else (eqb d c && true)) (a.open_from j b c e y) ∙ or_true (eqb d c && true)

      each_at : (j : ℕ) (b : Book) (c : ℕ) → b.channel ≡ c → After t i (holds (fresh d)) j (holds b) → b ≡ ledger-trace.after c (pick (eqb d c && true) ledger-trace.none (since c h))
      each_at j b c y (here z e) =
          let k : d ≡ c = ap (λ (q : Book). q.channel) (one_book e) ∙ y in
          sym (one_book e) ∙ ap fresh k ∙ sym (ap (λ (x : Bool). ledger-trace.after c (pick (x && true) ledger-trace.none (since c h))) (eq-eqb d c k))
      each_at j b c y (else n e) = a.each j b c e y ∙ sym (ap (λ (x : Bool). ledger-trace.after c (pick (x && true) ledger-trace.none (since c h))) (ne_eqb d c (closed j b c e y)))

      quiet_here : (l : Line) → line h ≡ l → pending_on d l ≡ nothing
      quiet_here quiet e = refl
      quiet_here (asks c first last) e = other_pending d c first last (λ y. let k = a.open_to c (a.asker_open c first last e) in closed k.place k.book c k.is k.own (sym y))

      pending_at : (j : ℕ) (b : Book) (c : ℕ) → b.channel ≡ c → After t i (holds (fresh d)) j (holds b) → b.pending ≡ pending_on c (line h)
      pending_at j b c y (here z e) =
          let k : d ≡ c = ap (λ (q : Book). q.channel) (one_book e) ∙ y in
          ap (λ (q : Book). q.pending) (sym (one_book e)) ∙ sym (quiet_here (line h) refl) ∙ ap (λ (m : ℕ). pending_on m (line h)) k
      pending_at j b c y (else n e) = a.pending_is j b c e y

  opening_agrees : (n : ℕ) → Opening t d n → TableRules (pick (eqb n 0) (put t (free_place t) (holds (fresh d))) t) → Agrees (h ▸ Open d ⇒ refusal n) (pick (eqb n 0) (put t (free_place t) (holds (fresh d))) t)
  opening_agrees n (wide_10 l) r = refused_opening 10 refl
  opening_agrees n (twice_22 l e) r = refused_opening 22 refl
  opening_agrees n (full_21 l e f) r = refused_opening 21 refl
  opening_agrees n (fine_0 l e f) r = done_opening l e f r

-- ---- closing

module _ (h : History) (t : Table) (a : Agrees h t) (d : ℕ) where
  refused_closing : Agrees (h ▸ Close d ⇒ refusal 18) t
  unfolding opened since line
  refused_closing = still h t _ a (λ c. ap (λ (x : Bool). pick x false (opened c h)) (and_false (eqb d c))) (λ i b c x y. refl) refl

  done_closing : (i : ℕ) → Here t d i → TableRules (put t i free) → Agrees (h ▸ Close d ⇒ refusal 0) (put t i free)
  unfolding opened since line
  done_closing i k r =
      record {
        rules = r;
        open_to = λ c e. to c e (same d c);
        open_from = λ j b c e y. from j b c y (after_put t i j free (holds b) e);
        each = λ j b c e y. a.each j b c (kept j b e) y;
        pending_is = λ j b c e y. pending_at j b c (kept j b e) y (other j b c e y);
        asker_open = λ c first last e. asks_at c first last (line h) refl e;
      }
    where
      still_there : (j : ℕ) (b : Book) → After t i free j (holds b) → t.place j ≡ holds b
      still_there j b (here y e) = absurd (not_free e)
      still_there j b (else n e) = e

      kept : (j : ℕ) (b : Book) → (put t i free).place j ≡ holds b → t.place j ≡ holds b
      kept j b e = still_there j b (after_put t i j free (holds b) e)

      -- what stands elsewhere is another channel's
      elsewhere : (j : ℕ) (b : Book) (c : ℕ) → b.channel ≡ c → After t i free j (holds b) → d ≡ c → ⊥
      elsewhere j b c y (here u e) z = not_free e
      elsewhere j b c y (else n e) z = n (a.rules.apart j i b k.book e k.is (y ∙ sym z ∙ sym k.own))

      other : (j : ℕ) (b : Book) (c : ℕ) → (put t i free).place j ≡ holds b → b.channel ≡ c → d ≡ c → ⊥
      other j b c e y = elsewhere j b c y (after_put t i j free (holds b) e)

      to : (c : ℕ) → pick (eqb d c && true) false (opened c h) ≡ true → (d ≡ c) ⊎ (d ≡ c → ⊥) → Holder (put t i free) c
      to c e (inl y) = absurd (clash e (ap (λ (x : Bool). pick (x && true) false (opened c h)) (eq-eqb d c y)))
      to c e (inr n) =
          let o : opened c h ≡ true = sym (ap (λ (x : Bool). pick (x && true) false (opened c h)) (ne_eqb d c n)) ∙ e in
          let m = a.open_to c o in
          record { place = m.place; book = m.book; is = put_else t i m.place free (λ z. n (sym k.own ∙ ap (λ (q : Book). q.channel) (one_book (sym k.is ∙ ap t.place (sym z) ∙ m.is)) ∙ m.own)) ∙ m.is; own = m.own }

      from : (j : ℕ) (b : Book) (c : ℕ) → b.channel ≡ c → After t i free j (holds b) → pick (eqb d c && true) false (opened c h) ≡ true
      from j b c y w = ap (λ (x : Bool). pick (x && true) false (opened c h)) (ne_eqb d c (elsewhere j b c y w)) ∙ a.open_from j b c (still_there j b w) y

      cleared : (c : ℕ) (l : Line) → (d ≡ c → ⊥) → pending_on c l ≡ pending_on c (pick (asks_for d l) quiet l)
      cleared c quiet n = refl
      cleared c (asks m first last) n =
          pick_cases (λ x. pending_on c (asks m first last) ≡ pending_on c x) (eqb m d) quiet (asks m first last) (λ e. other_pending c m first last (λ z. n (sym (eqb-true _ _ e) ∙ z))) (λ e. refl)

      pending_at : (j : ℕ) (b : Book) (c : ℕ) → t.place j ≡ holds b → b.channel ≡ c → (d ≡ c → ⊥) → b.pending ≡ pending_on c (pick (asks_for d (line h)) quiet (line h))
      pending_at j b c e y n = a.pending_is j b c e y ∙ cleared c (line h) n

      asks_at : (c first last : ℕ) (l : Line) → line h ≡ l → pick (asks_for d l) quiet l ≡ asks c first last → pick (eqb d c && true) false (opened c h) ≡ true
      asks_at c first last quiet e f = absurd (never_quiet c first last f)
      asks_at c first last (asks m x y) e f =
          pick_cases (λ l. l ≡ asks c first last → pick (eqb d c && true) false (opened c h) ≡ true) (eqb m d) quiet (asks m x y) (λ u v. absurd (never_quiet c first last v))
          (λ u v. (let z : m ≡ c = cc in
          ap (λ (s : Bool). pick (s && true) false (opened c h)) (ne_eqb d c (λ w. eqb-false m d u (z ∙ sym w))) ∙ a.asker_open c first last (e ∙ v))) f

-- ---- what is said to a channel

module _ (h : History) (t : Table) (a : Agrees h t) (d : ℕ) (said : Said) where
  refused_18 : (s : Said) → replied s (unopened d s) ≡ false
  refused_18 (Tick n) = refl
  refused_18 (Announce n) = refl
  refused_18 (Reply first status) = refl
  refused_18 (Between x z) = refl

  refused_saying : is_open t d ≡ false → Agrees (h ▸ To d said ⇒ unopened d said) t
  unfolding opened since line
  refused_saying e = still h t _ a (λ c. refl) (λ i b c x y. rw (ne_eqb d c (λ z. clash (its_open t a.rules i b d x (y ∙ sym z)) e))) (rw (refused_18 said))

-- ---- one ledger replaced by its next state, on its own channel

replaced : (h h' : History) (t : Table) (a : Agrees h t) (d i n : ℕ) → Here t d i → (b : Book) → TableRules (record { place = (put t i (holds b)).place; last = n })
    → b.channel ≡ d → ((c : ℕ) → opened c h' ≡ opened c h) → b ≡ ledger-trace.after d (since d h') → ((c : ℕ) → (d ≡ c → ⊥) → since c h' ≡ since c h)
    → b.pending ≡ pending_on d (line h') → ((c : ℕ) → (d ≡ c → ⊥) → pending_on c (line h) ≡ pending_on c (line h'))
    → ((c first last : ℕ) → line h' ≡ asks c first last → opened c h ≡ true)
    → Agrees h' (record { place = (put t i (holds b)).place; last = n })
replaced h h' t a d i n k b r own o s s-other p p-other q =
    record {
      rules = r;
      open_to = λ c e. to c (a.open_to c (sym (o c) ∙ e));
      open_from = λ j f c e y. o c ∙ from j f c y (after_put t i j (holds b) (holds f) e);
      each = λ j f c e y. each_at j f c y (after_put t i j (holds b) (holds f) e);
      pending_is = λ j f c e y. pending_at j f c y (after_put t i j (holds b) (holds f) e);
      asker_open = λ c first last e. o c ∙ q c first last e;
    }
  where
    to : (c : ℕ) → Holder t c → Holder (record { place = (put t i (holds b)).place; last = n }) c
    to c m = ⊎_elim
        (λ y. record { place = i; book = b; is = put_here t i (holds b); own = own ∙ sym k.own ∙ ap (λ (x : Book). x.channel) (one_book (sym k.is ∙ ap t.place (sym y) ∙ m.is)) ∙ m.own })
        (λ z. record { place = m.place; book = m.book; is = put_else t i m.place (holds b) z ∙ m.is; own = m.own })
        (same m.place i)

    its : (f : Book) (c : ℕ) → f.channel ≡ c → holds b ≡ holds f → d ≡ c
    its f c y e = sym own ∙ ap (λ (x : Book). x.channel) (one_book e) ∙ y

    -- what stands elsewhere is another channel's
    other : (j : ℕ) (f : Book) (c : ℕ) → f.channel ≡ c → (j ≡ i → ⊥) → t.place j ≡ holds f → d ≡ c → ⊥
    other j f c y z e w = z (a.rules.apart j i f k.book e k.is (y ∙ sym w ∙ sym k.own))

    from : (j : ℕ) (f : Book) (c : ℕ) → f.channel ≡ c → After t i (holds b) j (holds f) → opened c h ≡ true
    from j f c y (here z e) = a.open_from i k.book c k.is (k.own ∙ its f c y e)
    from j f c y (else z e) = a.open_from j f c e y

    each_at : (j : ℕ) (f : Book) (c : ℕ) → f.channel ≡ c → After t i (holds b) j (holds f) → f ≡ ledger-trace.after c (since c h')
    each_at j f c y (here z e) = sym (one_book e) ∙ s ∙ ap (λ (m : ℕ). ledger-trace.after m (since m h')) (its f c y e)
    each_at j f c y (else z e) = a.each j f c e y ∙ ap (ledger-trace.after c) (sym (s-other c (other j f c y z e)))

    pending_at : (j : ℕ) (f : Book) (c : ℕ) → f.channel ≡ c → After t i (holds b) j (holds f) → f.pending ≡ pending_on c (line h')
    pending_at j f c y (here z e) = ap (λ (x : Book). x.pending) (sym (one_book e)) ∙ p ∙ ap (λ (m : ℕ). pending_on m (line h')) (its f c y e)
    pending_at j f c y (else z e) = a.pending_is j f c e y ∙ p-other c (other j f c y z e)

-- ---- what an open channel's ledger is told

reply_pending : (b : Book) (d first status : ℕ) → answered (ledger.answer_to b (ledger.Reply d first status)) 0 ≡ true → FineReply b first status
unfolding ledger.answer_to
reply_pending b d first status e = ((given_0 b (ledger.Reply d first status)).0 (eqb-true _ _ e)).fine

module _ (h : History) (t : Table) (a : Agrees h t) (d i : ℕ) (k : Here t d i) where
  -- a reply answered 0 is to the request on the line
  replied_to : (said : Said) → replied said (ledger.answer_to k.book (called d said)) ≡ true → (c : ℕ) → (d ≡ c → ⊥) → pending_on c (line h) ≡ nothing
  replied_to (Tick n) e c z = absurd (clash e refl)
  replied_to (Announce n) e c z = absurd (clash e refl)
  replied_to (Between x y) e c z = absurd (clash e refl)
  replied_to (Reply first status) e c z =
      let f = reply_pending k.book d first status e in
      ap (pending_on c) (asker d first f.last (line h) (sym (a.pending_is i k.book d k.is k.own) ∙ f.own_request)) ∙ other_pending c d first f.last z

  same_line : (said : Said) (x : Paper) (l : Line) → still_pending (called d said) x (pending_on d l) ≡ pending_on d (pick (replied said x) quiet l)
  unfolding still_pending
  same_line (Tick n) x l = refl
  same_line (Announce n) x l = refl
  same_line (Between y z) x l = refl
  same_line (Reply first status) x l = ⊎_elim (λ e. rw e) (λ e. rw e) (two (answered x 0))

  done_saying : (said : Said) → TableRules (put t i (holds (ledger.next_of k.book (called d said))))
      → Agrees (h ▸ To d said ⇒ ledger.answer_to k.book (called d said)) (put t i (holds (ledger.next_of k.book (called d said))))
  unfolding opened since line
  done_saying said r =
      replaced h (h ▸ To d said ⇒ x) t a d i t.last k b' r (s.channel_same ∙ k.own) (λ c. refl) (own_state (eq-eqb d d refl)) (λ c z. rw (ne_eqb d c z))
      (s.pending_is ∙ ap (still_pending (called d said) x) (a.pending_is i k.book d k.is k.own) ∙ same_line said x (line h))
      (λ c z. others c z) (λ c first last e. asking_still c first last e)
    where
      x : Paper
      x = ledger.answer_to k.book (called d said)

      b' : Book
      b' = ledger.next_of k.book (called d said)

      s : Step k.book (called d said) b' x
      s = step k.book (called d said) (a.rules.sound i k.book k.is)

      own_state : eqb d d ≡ true → b' ≡ ledger-trace.after d (pick (eqb d d) (ledger-trace.◌▸◌ (since d h) (called d said)) (since d h))
      own_state e = rw e (ap (λ (q : Book). ledger.next_of q (called d said)) (a.each i k.book d k.is k.own))

      others : (c : ℕ) → (d ≡ c → ⊥) → pending_on c (line h) ≡ pending_on c (pick (replied said x) quiet (line h))
      others c z = pick_cases (λ l. pending_on c (line h) ≡ pending_on c l) (replied said x) quiet (line h) (λ e. replied_to said e c z) (λ e. refl)

      asking_still : (c first last : ℕ) → pick (replied said x) quiet (line h) ≡ asks c first last → opened c h ≡ true
      asking_still c first last = pick_cases (λ l. l ≡ asks c first last → opened c h ≡ true) (replied said x) quiet (line h) (λ e f. absurd (never_quiet c first last f)) (λ e f. a.asker_open c first last f)

-- ---- a request

module _ (h : History) (t : Table) (a : Agrees h t) where
  refused_request : (n : ℕ) → eqb n 0 ≡ false → Agrees (h ▸ Request ⇒ refusal n) t
  unfolding opened since line
  refused_request n e = still h t _ a (λ c. refl) (λ i b c x y. rw e) (rw e)

  -- nothing waits in the table, so the line is quiet
  pub quiet_line : 32 ≤ pending_place t → line h ≡ quiet
  quiet_line l = at (line h) refl
    where
      at : (x : Line) → line h ≡ x → line h ≡ quiet
      at quiet e = e
      at (asks c first last) e =
          let m = a.open_to c (a.asker_open c first last e) in
          absurd (none_waits t a.rules l m.place (ap waits m.is ∙ ap is_pending (a.pending_is m.place m.book c m.is m.own ∙ ap (pending_on c) e ∙ own_pending c first last)))

  done_request : 32 ≤ pending_place t → TurnAt t (turn t) → (asked t).number ≡ 0 → TableRules (granted t) → Agrees (h ▸ Request ⇒ answer 0 ((book_in (t.place (turn t))).channel ∷ (asked t).values)) (granted t)
  unfolding opened since line still_pending
  done_request l g z r =
      replaced h (h ▸ Request ⇒ x) t a d i i k b' r s.channel_same (λ c. refl) (own_state (eq-eqb d d refl)) (λ c n. rw (ne_eqb d c n))
      (s.pending_is ∙ now_pending)
      (λ c n. ap (pending_on c) (quiet_line l) ∙ sym (other_pending c d _ _ n))
      (λ c first last e. a.open_from i b c is (ap asker_of e))
    where
      i : ℕ
      i = turn t

      b : Book
      b = book_in (t.place i)

      d : ℕ
      d = b.channel

      is : t.place i ≡ holds b
      is = g.is ∙ ap holds (sym (ap book_in g.is))

      k : Here t d i
      k = record { book = b; within = g.within; is = is; own = refl }

      x : Paper
      x = answer 0 (d ∷ (asked t).values)

      b' : Book
      b' = ledger.next_of b (ledger.Request d)

      s : Step b (ledger.Request d) b' (asked t)
      s = step b (ledger.Request d) (a.rules.sound i b is)

      asker_of : Line → ℕ
      asker_of quiet = 0
      asker_of (asks c first last) = c

      own_state : eqb d d ≡ true → b' ≡ ledger-trace.after d (pick (eqb d d) (ledger-trace.◌▸◌ (since d h) (ledger.Request d)) (since d h))
      own_state e = rw e (ap (λ (q : Book). ledger.next_of q (ledger.Request d)) (a.each i b d is refl))

      now_pending : still_pending (ledger.Request d) (asked t) b.pending ≡ pending_on d (asks d (value_at x 1) (value_at x 2))
      now_pending = ap (λ (n : ℕ). pick (eqb n 0) (range (value_at (asked t) 0) (value_at (asked t) 1)) b.pending) z ∙ sym (own_pending d _ _)

-- ---- a new session

done_renewal : (h : History) (t : Table) → Agrees h t → Agrees (h ▸ Renew ⇒ answer 0 []) (renewed t)
unfolding opened since line
done_renewal h t a =
    record {
      rules = renewed_rules t a.rules;
      open_to = λ c e. to c (a.open_to c e);
      open_from = λ i b c e y. (let f = before t i b e in a.open_from i f.book c f.was (same_channel i b f ∙ y));
      each = λ i b c e y. (let f = before t i b e in
          sym f.is ∙ ap (λ (q : Book). ledger.next_of q ledger.Renew) (a.each i f.book c f.was (same_channel i b f ∙ y)));
      pending_is = λ i b c e y. (let f = before t i b e in
          ap (λ (q : Book). q.pending) (sym f.is) ∙ (new_session f.book (a.rules.sound i f.book f.was)).cleared);
      asker_open = λ c first last e. absurd (never_quiet c first last e);
    }
  where
    kept_channel : (i : ℕ) (d : Book) → t.place i ≡ holds d → (ledger.next_of d ledger.Renew).channel ≡ d.channel
    kept_channel i d e = (step d ledger.Renew (a.rules.sound i d e)).channel_same

    same_channel : (i : ℕ) (b : Book) (f : Before t i b) → f.book.channel ≡ b.channel
    same_channel i b f = sym (kept_channel i f.book f.was) ∙ ap (λ (q : Book). q.channel) f.is

    to : (c : ℕ) → Holder t c → Holder (renewed t) c
    to c m = record { place = m.place; book = ledger.next_of m.book ledger.Renew; is = ap renewed_place m.is; own = kept_channel m.place m.book m.is ∙ m.own }

-- ---- every call

next_agrees : (h : History) (t : Table) (call : Call) → Agrees h t → Agrees (h ▸ call ⇒ answer_to t call) (next_of t call)
unfolding answer_to next_of opened since line
next_agrees h t (Open d) a = opening_agrees h t a d (opening_number t d) (opening t d) (rules_kept t (Open d) a.rules)
next_agrees h t (Close d) a = ⊎_elim
    (λ e. rw e (done_closing h t a d (place_of t d) (open_here t d e) (rw e at (rules_kept t (Close d) a.rules))))
    (λ e. rw e (refused_closing h t a d)) (two (is_open t d))
next_agrees h t Request a = at (request_number t) (asking_view t) (rules_kept t Request a.rules)
  where
    at : (n : ℕ) → Asking t n → TableRules (pick (eqb n 0) (granted t) t) → Agrees (h ▸ Request ⇒ answer n (pick (eqb n 0) ((book_in (t.place (turn t))).channel ∷ (asked t).values) [])) (pick (eqb n 0) (granted t) t)
    at n (busy_14 l) r = refused_request h t a 14 refl
    at n (whole_15 l m) r = refused_request h t a 15 refl
    at n (turns l m e) r = ⊎_elim (λ y. granted_at y) (λ y. rw y (refused_request h t a n y)) (two (eqb n 0))
      where
        granted_at : eqb n 0 ≡ true → Agrees (h ▸ Request ⇒ answer n (pick (eqb n 0) ((book_in (t.place (turn t))).channel ∷ (asked t).values) [])) (pick (eqb n 0) (granted t) t)
        granted_at y =
            let z : n ≡ 0 = eqb-true _ _ y in
            rw z (done_request h t a l (turn_at t m) (sym e ∙ z) (rw y at r))
next_agrees h t (To d said) a = ⊎_elim
    (λ e. rw e (at (open_here t d e) (rw e at (rules_kept t (To d said) a.rules))))
    (λ e. rw e (refused_saying h t a d said e)) (two (is_open t d))
  where
    at : Here t d (place_of t d) → TableRules (put t (place_of t d) (holds (ledger.next_of (book_of t d) (called d said))))
        → Agrees (h ▸ To d said ⇒ ledger.answer_to (book_of t d) (called d said)) (put t (place_of t d) (holds (ledger.next_of (book_of t d) (called d said))))
    at k r =
        let e : book_of t d ≡ k.book = ap book_in k.is in
        subst (λ (b : Book). Agrees (h ▸ To d said ⇒ ledger.answer_to b (called d said)) (put t (place_of t d) (holds (ledger.next_of b (called d said))))) (sym e)
        (done_saying h t a d (place_of t d) k said (subst (λ (b : Book). TableRules (put t (place_of t d) (holds (ledger.next_of b (called d said))))) e r))
next_agrees h t (Told d) a = told_agrees _
  where
    told_agrees : (x : Paper) → Agrees (h ▸ Told d ⇒ x) t
    told_agrees x = still h t _ a (λ c. refl) (λ i b c e y. refl) refl
next_agrees h t Renew a = done_renewal h t a

pub agrees : (calls : Calls) → Agrees (trace calls) (after calls)
unfolding trace
agrees none = start_agrees
agrees (calls ▸ call) = next_agrees (trace calls) (after calls) call (agrees calls)
