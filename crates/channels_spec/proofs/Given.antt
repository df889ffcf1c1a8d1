-- `given_N`, each number exactly when; what opening and closing do; that a refusal leaves the table
-- save 12's top; and that no number is 13. For every table that keeps its rules. Assumes nothing.
use mathlib.Core.Path.{◌≡◌, refl, sym, ap, subst, ◌∙◌}
use mathlib.Core.Bool.{Bool, true, false, ◌&&◌, not}
use mathlib.Core.Logic.{inl, ⊎_elim, ◌↔◌}
use mathlib.Core.List.{[]}
use Prim.Native.Nat.{ℕ, ◌+◌, ◌≤◌, ◌<◌}
use native.Mathlib.Omega.{arith}
use lib.Dec.{eqb, ltb}
use borrow.Author.Tests.{eq-eqb, ne_eqb, eqb-true, lt-ltb, le-ltb}
use Rattle.terms.specs.Cases.{clash, two, less}
use Rattle.terms.specs.Paper.{Paper, answer, refusal, pick}
use Rattle.ledger_spec.specs.State.{Asked, nothing, range, Book, largest, StateRules}
use Rattle.ledger_spec.specs.Calls as ledger
use Rattle.ledger_spec.specs.Calls.{fresh, is_pending}
use Rattle.ledger_spec.specs.Words.{answered}
use Rattle.ledger_spec.specs.Given.{MissingAt, StatusRight}
use Rattle.ledger_spec.specs.Answers as ledger-answers
use Rattle.ledger_spec.proofs.Answers.{keeps, renew_answer, renew_next}
use Rattle.ledger_spec.proofs.Answers.{new_session as ledger-new-session}
use Rattle.ledger_spec.proofs.Given as goal
use Rattle.ledger_spec.proofs.Done as done
use Rattle.ledger_spec.proofs.Numbers.{checked_facts}
use Rattle.ledger_spec.proofs.Tests.{pick_cases, skip, false_of}
use Rattle.ledger_spec.proofs.Demand3.{first_clear, nothing_pending}
use Rattle.channels_spec.specs.Table.{Place, free, holds, Table, put, is_free, waits, book_in, place_of, free_place, pending_place, steps, turn, is_open, book_of, TableRules}
use Rattle.channels_spec.specs.Calls.{Said, Tick, Announce, Reply, Between, Call, Open, Close, Request, To, Told, Renew, called, opening_number, request_number, asked, unopened, renewed_place, answer_to, next_of}
use Rattle.channels_spec.specs.Given.{OpenIn, Given22, Given21, FineOpening, Opens, Closes, SomePending, SomeMisses, Given15, FineRequest, Given18, Given10Tick, Given10Announcement, Given10Between, Given17, Given16, Raises, Keeps, NewSession}
use Rattle.channels_spec.proofs.Least.{least_is, least_low, least_none}
use Rattle.channels_spec.proofs.Places.{After, here, else, after_put, put_here, put_else, put_same, not_free, Here, open_here, its_open, its_place, its_book}
use Rattle.channels_spec.proofs.Views.{Opening, fine_0, wide_10, twice_22, full_21, opening, free_there, Asking, busy_14, whole_15, turns, asking_view, none_waits, TurnAt, turn_at}
use Rattle.channels_spec.proofs.Demand.{some_turn}

open_in : (t : Table) (channel : ℕ) → is_open t channel ≡ true → OpenIn t channel
open_in t channel e =
    let h = open_here t channel e in
    let b : holds (book_of t channel) ≡ holds h.book = ap holds (ap book_in h.is) in
    record { place = place_of t channel; book = book_of t channel; is = h.is ∙ sym b; own = ap (λ (p : Place). (book_in p).channel) h.is ∙ h.own }

in_open : (t : Table) → TableRules t → (channel : ℕ) → OpenIn t channel → is_open t channel ≡ true
in_open t r channel o = its_open t r o.place o.book channel o.is o.own

not_in : (t : Table) (channel : ℕ) → (OpenIn t channel → ⊥) → is_open t channel ≡ false
not_in t channel n = false_of _ (λ e. n (open_in t channel e))

-- two numbers that a test tells apart
apart : {n : ℕ} (k : ℕ) → n ≡ k → eqb n k ≡ false → ⊥
apart {n} k e f = clash (eq-eqb n k e) f

-- ======== Opening

pub given_10_opening : (t : Table) (channel : ℕ) → ((answer_to t (Open channel)).number ≡ 10) ↔ (9999 < channel)
unfolding answer_to opening_number
given_10_opening t channel = (λ e. at _ (opening t channel) e, λ l. simp (lt-ltb _ _ l))
  where
    at : (n : ℕ) → Opening t channel n → n ≡ 10 → 9999 < channel
    at n (wide_10 l) e = l
    at n (twice_22 l o) e = absurd (apart 10 e refl)
    at n (full_21 l o f) e = absurd (apart 10 e refl)
    at n (fine_0 l o f) e = absurd (apart 10 e refl)

pub given_22 : (t : Table) (channel : ℕ) → TableRules t → ((answer_to t (Open channel)).number ≡ 22) ↔ Given22 t channel
unfolding answer_to opening_number
given_22 t channel r = (λ e. at _ (opening t channel) e, λ g. simp (le-ltb _ _ g.small, in_open t r channel g.twice))
  where
    at : (n : ℕ) → Opening t channel n → n ≡ 22 → Given22 t channel
    at n (wide_10 l) e = absurd (apart 22 e refl)
    at n (twice_22 l o) e = record { small = l; twice = open_in t channel o }
    at n (full_21 l o f) e = absurd (apart 22 e refl)
    at n (fine_0 l o f) e = absurd (apart 22 e refl)

is_free_test : (p : Place) → p ≡ free → is_free p ≡ true
is_free_test p e = ap is_free e

pub given_21 : (t : Table) (channel : ℕ) → TableRules t → ((answer_to t (Open channel)).number ≡ 21) ↔ Given21 t channel
unfolding answer_to opening_number free_place
given_21 t channel r = (λ e. at _ (opening t channel) e, λ g. simp (le-ltb _ _ g.small, not_in t channel g.new, le-ltb _ _ (none_free g)))
  where
    none_free : Given21 t channel → 32 ≤ free_place t
    none_free g = ⊎_elim (λ l. absurd (g.full (free_place t) l (free_there t l))) (λ l. l) (less (free_place t) 32)

    at : (n : ℕ) → Opening t channel n → n ≡ 21 → Given21 t channel
    at n (wide_10 l) e = absurd (apart 21 e refl)
    at n (twice_22 l o) e = absurd (apart 21 e refl)
    at n (full_21 l o f) e = record {
      small = l;
      new = λ q. clash (in_open t r channel q) o;
      full = λ i g y. clash (is_free_test _ y) (least_none (λ j. is_free (t.place j)) 32 f i g);
    }
    at n (fine_0 l o f) e = absurd (apart 21 e refl)

pub given_0_opening : (t : Table) (channel : ℕ) → TableRules t → ((answer_to t (Open channel)).number ≡ 0) ↔ FineOpening t channel
unfolding answer_to opening_number free_place
given_0_opening t channel r = (λ e. at _ (opening t channel) e, λ g. simp (le-ltb _ _ g.small, not_in t channel g.new, lt-ltb _ _ (some_free g)))
  where
    some_free : FineOpening t channel → free_place t < 32
    some_free g =
        let low : free_place t ≤ g.place = least_low (λ j. is_free (t.place j)) 32 g.place g.below_32 (is_free_test _ g.is_free_holds) in
        let l : g.place < 32 = g.below_32 in
        omega arith

    at : (n : ℕ) → Opening t channel n → n ≡ 0 → FineOpening t channel
    at n (wide_10 l) e = absurd (apart 0 e refl)
    at n (twice_22 l o) e = absurd (apart 0 e refl)
    at n (full_21 l o f) e = absurd (apart 0 e refl)
    at n (fine_0 l o f) e = record { small = l; new = λ q. clash (in_open t r channel q) o; place = free_place t; below_32 = f; is_free_holds = free_there t f }

pub lowest_free : (t : Table) (channel : ℕ) → answered (answer_to t (Open channel)) 0 ≡ true → Opens t channel (next_of t (Open channel))
unfolding answer_to next_of free_place
lowest_free t channel e = rw e (at _ (opening t channel) e)
  where
    at : (n : ℕ) → Opening t channel n → eqb n 0 ≡ true → Opens t channel (put t (free_place t) (holds (fresh channel)))
    at n (wide_10 l) z = absurd (clash z refl)
    at n (twice_22 l o) z = absurd (clash z refl)
    at n (full_21 l o f) z = absurd (clash z refl)
    at n (fine_0 l o f) z = record {
      place = free_place t;
      below_32 = f;
      was_free = free_there t f;
      lowest = λ i g y. clash (is_free_test _ y) ((least_is (λ j. is_free (t.place j)) 32 f).lowest i g);
      fresh_there = put_here t (free_place t) _;
      others = λ i y. put_else t (free_place t) i _ y;
      last_same = refl;
    }

-- ======== Closing

closed_at : (t : Table) (channel : ℕ) → answered (answer_to t (Close channel)) 0 ≡ true → is_open t channel ≡ true
unfolding answer_to
closed_at t channel e = ⊎_elim (λ o. o) (λ o. absurd (clash e (ap (λ (u : Bool). eqb (pick u 0 18) 0) o))) (two (is_open t channel))

pub closing_frees : (t : Table) (channel : ℕ) → TableRules t → answered (answer_to t (Close channel)) 0 ≡ true → Closes t channel (next_of t (Close channel))
unfolding next_of open_in
closing_frees t channel r e = let o = closed_at t channel e in rw o (record {
  was = open_in t channel o;
  freed = put_here t (place_of t channel) free;
  closed = λ q. gone (open_in t channel o) q (after_put t (place_of t channel) q.place free (holds q.book) q.is);
  others = λ i y. put_else t (place_of t channel) i free y;
  last_same = refl;
})
  where
    gone : OpenIn t channel → (q : OpenIn (put t (place_of t channel) free) channel) → After t (place_of t channel) free q.place (holds q.book) → ⊥
    gone o q (here y f) = not_free f
    gone o q (else n f) = n (sym (its_place t r q.place q.book channel f q.own))

-- ======== What is said to an open channel

-- it is answered by the ledger at its place
said_is : (t : Table) → TableRules t → (channel : ℕ) (said : Said) (o : OpenIn t channel) → answer_to t (To channel said) ≡ ledger.answer_to o.book (called channel said)
unfolding answer_to
said_is t r channel said o =
    rw (in_open t r channel o) (ap (λ (b : Book). ledger.answer_to b (called channel said)) (its_book t r o.place o.book channel o.is o.own))

-- a number but 18 is the ledger's
record SaidAt (t : Table) (channel : ℕ) (said : Said) (n : ℕ) : Type 0 where
  at : OpenIn t channel
  gives : ledger.number_to at.book (called channel said) ≡ n

said_at : (t : Table) → TableRules t → (channel : ℕ) (said : Said) (n : ℕ) → (18 ≡ n → ⊥) → (answer_to t (To channel said)).number ≡ n → SaidAt t channel said n
unfolding answer_to ledger.answer_to
said_at t r channel said n z e = ⊎_elim
    (λ o. record { at = open_in t channel o; gives = ap (λ (p : Paper). p.number) (sym (said_is t r channel said (open_in t channel o))) ∙ e })
    (λ o. absurd (z (sym (ap (λ (u : Bool). (pick u (ledger.answer_to (book_of t channel) (called channel said)) (unopened channel said)).number) o) ∙ e)))
    (two (is_open t channel))

said_back : (t : Table) → TableRules t → (channel : ℕ) (said : Said) (n : ℕ) (o : OpenIn t channel) → ledger.number_to o.book (called channel said) ≡ n → (answer_to t (To channel said)).number ≡ n
unfolding ledger.answer_to
said_back t r channel said n o e = ap (λ (p : Paper). p.number) (said_is t r channel said o) ∙ e

sound_in : (t : Table) → TableRules t → (channel : ℕ) (o : OpenIn t channel) → StateRules o.book
sound_in t r channel o = r.sound o.place o.book o.is

pub given_10_tick : (t : Table) (channel n : ℕ) → TableRules t → ((answer_to t (To channel (Tick n))).number ≡ 10) ↔ Given10Tick t channel n
given_10_tick t channel n r = (
  λ e. (let s = said_at t r channel (Tick n) 10 (λ z. omega arith) e in
      record { at = s.at; number = ((goal.given_10_tick s.at.book channel n).0 s.gives).number }),
  λ g. said_back t r channel (Tick n) 10 g.at
      ((goal.given_10_tick g.at.book channel n).1 (record { rules = sound_in t r channel g.at; own = sym g.at.own; number = g.number })),
)

pub given_10_announcement : (t : Table) (channel n : ℕ) → TableRules t → ((answer_to t (To channel (Announce n))).number ≡ 10) ↔ Given10Announcement t channel n
given_10_announcement t channel n r = (
  λ e. (let s = said_at t r channel (Announce n) 10 (λ z. omega arith) e in
      record { at = s.at; number = ((goal.given_10_announcement s.at.book channel n).0 s.gives).number }),
  λ g. said_back t r channel (Announce n) 10 g.at
      ((goal.given_10_announcement g.at.book channel n).1 (record { rules = sound_in t r channel g.at; own = sym g.at.own; number = g.number })),
)

pub given_10_between : (t : Table) (channel a z : ℕ) → TableRules t → ((answer_to t (To channel (Between a z))).number ≡ 10) ↔ Given10Between t channel a z
given_10_between t channel a z r = (
  λ e. (let s = said_at t r channel (Between a z) 10 (λ y. omega arith) e in
      record { at = s.at; number = ((goal.given_10_between s.at.book channel a z).0 s.gives).number }),
  λ g. said_back t r channel (Between a z) 10 g.at
      ((goal.given_10_between g.at.book channel a z).1 (record { rules = sound_in t r channel g.at; own = sym g.at.own; number = g.number })),
)

pub given_17 : (t : Table) (channel first status : ℕ) → TableRules t → ((answer_to t (To channel (Reply first status))).number ≡ 17) ↔ Given17 t channel first status
given_17 t channel first status r = (
  λ e. (let s = said_at t r channel (Reply first status) 17 (λ z. omega arith) e in
      record { at = s.at; wrong = ((goal.given_17 s.at.book channel first status).0 s.gives).wrong }),
  λ g. said_back t r channel (Reply first status) 17 g.at
      ((goal.given_17 g.at.book channel first status).1 (record { rules = sound_in t r channel g.at; own = sym g.at.own; wrong = g.wrong })),
)

pub given_16 : (t : Table) (channel first status : ℕ) → TableRules t → ((answer_to t (To channel (Reply first status))).number ≡ 16) ↔ Given16 t channel first status
given_16 t channel first status r = (
  λ e. (let s = said_at t r channel (Reply first status) 16 (λ z. omega arith) e in
      let g = (goal.given_16 s.at.book channel first status).0 s.gives in
      record { at = s.at; right = g.right; unasked = g.unasked }),
  λ g. said_back t r channel (Reply first status) 16 g.at
      ((goal.given_16 g.at.book channel first status).1
      (record { rules = sound_in t r channel g.at; own = sym g.at.own; right = g.right; unasked = g.unasked })),
)

-- ======== A request

-- a ledger misses a number exactly where its top stands above its floor
missing_at : (b : Book) → StateRules b → (b.top ≡ b.floor → ⊥) → MissingAt b (b.floor + 1)
missing_at b r n =
    let lo : b.floor ≤ b.top = r.low in
    record { above = omega arith; low = above lo n; not_settled = λ s. clash (goal.settled_test b (b.floor + 1) s) (first_clear b r) }
  where
    above : {f t : ℕ} → f ≤ t → (t ≡ f → ⊥) → f + 1 ≤ t
    above {f} {t} l g = ⊎_elim (λ x. omega arith) (λ x. absurd (g (omega arith))) (less f t)

at_missing : (b : Book) (n : ℕ) → MissingAt b n → b.top ≡ b.floor → ⊥
at_missing b n m e = m.not_settled (inl (subst (λ (k : ℕ). n ≤ k) e m.low))

-- a pending request is a range
record Pending (p : Asked) : Type 0 where
  first : ℕ
  last : ℕ
  is : p ≡ range first last

pending_range : (p : Asked) → is_pending p ≡ true → Pending p
pending_range nothing e = absurd (clash e refl)
pending_range (range first last) e = record { first = first; last = last; is = refl }

data RequestTo (t : Table) : Type 0 where
  is_due : FineRequest t → (answer_to t Request).number ≡ 0 → RequestTo t
  is_busy : SomePending t → (answer_to t Request).number ≡ 14 → RequestTo t
  is_whole : Given15 t → (answer_to t Request).number ≡ 15 → RequestTo t

some_pending : (t : Table) → pending_place t < 32 → SomePending t
unfolding pending_place
some_pending t l = at (t.place (pending_place t)) refl (least_is (λ i. waits (t.place i)) 32 l).is_so
  where
    at : (p : Place) → t.place (pending_place t) ≡ p → waits (t.place (pending_place t)) ≡ true → SomePending t
    at free x y = absurd (clash y (ap waits x))
    at (holds b) x y =
        let q = pending_range b.pending (ap waits (sym x) ∙ y) in
        record { channel = b.channel; at = record { place = pending_place t; book = b; is = x; own = refl }; first = q.first; last = q.last; busy = q.is }

pending_not : (t : Table) → TableRules t → 32 ≤ pending_place t → SomePending t → ⊥
pending_not t r l s = none_waits t r l s.at.place (ap waits s.at.is ∙ ap is_pending s.busy)

request_to : (t : Table) → TableRules t → RequestTo t
unfolding answer_to request_number ledger.answer_to
request_to t r = ⊎_elim
    (λ l. is_busy (some_pending t l) (simp (lt-ltb _ _ l)))
    (λ l. ⊎_elim
    (λ m. is_due (record { none_pending = pending_not t r l; some = some_misses (turn_at t m) }) (simp (le-ltb _ _ l, lt-ltb _ _ m) (granted_0 l (turn_at t m))))
    (λ m. is_whole (record { none_pending = pending_not t r l; none_missing = none_misses m }) (simp (le-ltb _ _ l, le-ltb _ _ m)))
    (less (steps t) 32))
    (less (pending_place t) 32)
  where
    some_misses : TurnAt t (turn t) → SomeMisses t
    some_misses g = record {
      channel = g.book.channel;
      at = record { place = turn t; book = g.book; is = g.is; own = refl };
      number = g.book.floor + 1;
      is_missing = missing_at g.book (r.sound (turn t) g.book g.is) g.missing;
    }

    none_misses : 32 ≤ steps t → SomeMisses t → ⊥
    none_misses m s = let l = some_turn t r s.at.place s.at.book s.at.is (at_missing s.at.book s.number s.is_missing) in crossed m l
      where
        crossed : {n : ℕ} → 32 ≤ n → n < 32 → ⊥
        crossed x y = omega arith

    granted_0 : 32 ≤ pending_place t → TurnAt t (turn t) → (asked t).number ≡ 0
    granted_0 l g =
        let b = g.book in
        let s = r.sound (turn t) b g.is in
        let free_now : b.pending ≡ nothing = nothing_pending _ (false_of _ (λ y. none_waits t r l (turn t) (ap waits g.is ∙ y))) in
        ap (λ (p : Place). ledger.number_to (book_in p) (ledger.Request (book_in p).channel)) g.is
        ∙ (done.given_0 b (ledger.Request b.channel)).1
        (record { rules = s; own = refl; fine = record { free = free_now; number = b.floor + 1; is_missing = missing_at b s g.missing } })

pub given_14 : (t : Table) → TableRules t → ((answer_to t Request).number ≡ 14) ↔ SomePending t
given_14 t r = at (request_to t r)
  where
    at : RequestTo t → ((answer_to t Request).number ≡ 14) ↔ SomePending t
    at (is_due f e) = (λ x. absurd (apart 14 (sym e ∙ x) refl), λ x. absurd (f.none_pending x))
    at (is_busy s e) = (λ x. s, λ x. e)
    at (is_whole w e) = (λ x. absurd (apart 14 (sym e ∙ x) refl), λ x. absurd (w.none_pending x))

pub given_15 : (t : Table) → TableRules t → ((answer_to t Request).number ≡ 15) ↔ Given15 t
given_15 t r = at (request_to t r)
  where
    at : RequestTo t → ((answer_to t Request).number ≡ 15) ↔ Given15 t
    at (is_due f e) = (λ x. absurd (apart 15 (sym e ∙ x) refl), λ x. absurd (x.none_missing f.some))
    at (is_busy s e) = (λ x. absurd (apart 15 (sym e ∙ x) refl), λ x. absurd (x.none_pending s))
    at (is_whole w e) = (λ x. w, λ x. e)

pub given_0_request : (t : Table) → TableRules t → ((answer_to t Request).number ≡ 0) ↔ FineRequest t
given_0_request t r = at (request_to t r)
  where
    at : RequestTo t → ((answer_to t Request).number ≡ 0) ↔ FineRequest t
    at (is_due f e) = (λ x. f, λ x. e)
    at (is_busy s e) = (λ x. absurd (apart 0 (sym e ∙ x) refl), λ x. absurd (x.none_pending s))
    at (is_whole w e) = (λ x. absurd (apart 0 (sym e ∙ x) refl), λ x. absurd (w.none_missing x.some))

-- ======== 18

pub given_18 : (t : Table) (call : Call) → TableRules t → ((answer_to t call).number ≡ 18) ↔ Given18 t call
unfolding answer_to ledger.answer_to
given_18 t (Open c) r = (λ e. absurd (at _ (opening t c) e), λ g. absurd g.named)
  where
    at : (n : ℕ) → Opening t c n → n ≡ 18 → ⊥
    at n (wide_10 l) e = apart 18 e refl
    at n (twice_22 l o) e = apart 18 e refl
    at n (full_21 l o f) e = apart 18 e refl
    at n (fine_0 l o f) e = apart 18 e refl
given_18 t (Close c) r = (
  λ e. record { channel = c; named = refl; not_open = λ q. apart 18 (sym (ap (λ (u : Bool). pick u 0 18) (in_open t r c q)) ∙ e) refl },
  λ g. ap (λ (u : Bool). pick u 0 18) (not_in t c (subst (λ (k : ℕ). OpenIn t k → ⊥) (sym g.named) g.not_open)),
)
given_18 t Request r = (λ e. absurd (at (request_to t r) e), λ g. absurd g.named)
  where
    at : RequestTo t → (answer_to t Request).number ≡ 18 → ⊥
    at (is_due f x) e = apart 18 (sym x ∙ e) refl
    at (is_busy s x) e = apart 18 (sym x ∙ e) refl
    at (is_whole w x) e = apart 18 (sym x ∙ e) refl
given_18 t (To c said) r = (λ e. record { channel = c; named = refl; not_open = λ q. never q e }, λ g. rw (not_in t c (subst (λ (k : ℕ). OpenIn t k → ⊥) (sym g.named) g.not_open)))
  where
    names_own : (b : Book) (s : Said) → b.channel ≡ c → ledger.number_to b (called c s) ≡ 18 → ⊥
    names_own b (Tick n) o e = ((goal.given_18 b (ledger.Tick c n)).0 e).other (sym o)
    names_own b (Announce n) o e = ((goal.given_18 b (ledger.Announce c n)).0 e).other (sym o)
    names_own b (Reply first status) o e = ((goal.given_18 b (ledger.Reply c first status)).0 e).other (sym o)
    names_own b (Between x z) o e = ((goal.given_18 b (ledger.Ask (ledger.Between c x z))).0 e).other (sym o)

    never : OpenIn t c → (answer_to t (To c said)).number ≡ 18 → ⊥
    never q e = names_own q.book said q.own (sym (ap (λ (p : Paper). p.number) (said_is t r c said q)) ∙ e)
given_18 t (Told c) r = (
  λ e. record { channel = c; named = refl; not_open = λ q. told_open q e },
  λ g. rw (not_in t c (subst (λ (k : ℕ). OpenIn t k → ⊥) (sym g.named) g.not_open)),
)
  where
    told_open : OpenIn t c → (answer_to t (Told c)).number ≡ 18 → ⊥
    told_open q e = apart 18 (sym (told_0 q) ∙ e) refl
      where
        told_0 : OpenIn t c → (answer_to t (Told c)).number ≡ 0
        told_0 o = rw (in_open t r c o)
given_18 t Renew r = (λ e. absurd (apart 18 e refl), λ g. absurd g.named)

-- ======== A refusal leaves the table, save 12's top

same_table : (t : Table) (call : Call) → answered (answer_to t call) 0 ≡ false → answered (answer_to t call) 12 ≡ false → next_of t call ≡ t
unfolding answer_to next_of
same_table t (Open channel) e f = rw e
same_table t (Close channel) e f = pick_cases (λ (u : Table). u ≡ t) (is_open t channel) _ t (λ o. absurd (clash (ap (λ (u : Bool). eqb (pick u 0 18) 0) o) e)) (λ o. refl)
same_table t Request e f = rw e
same_table t (To channel said) e f = ⊎_elim (λ o. rw o (kept o (open_here t channel o))) (λ o. rw o) (two (is_open t channel))
  where
    kept : is_open t channel ≡ true → Here t channel (place_of t channel) → put t (place_of t channel) (holds (ledger.next_of (book_of t channel) (called channel said))) ≡ t
    kept o h =
        let c = called channel said in
        let same_book : ledger.next_of (book_of t channel) c ≡ book_of t channel =
        (keeps (book_of t channel) c).same (ap (λ (u : Bool). eqb (pick u (ledger.answer_to (book_of t channel) c) (unopened channel said)).number 0) (sym o) ∙ e) (ap (λ (u : Bool). eqb (pick u (ledger.answer_to (book_of t channel) c) (unopened channel said)).number 12) (sym o) ∙ f) in
        put_same t (place_of t channel) _ (h.is ∙ ap holds (sym (same_book ∙ ap book_in h.is)))
same_table t (Told channel) e f = refl
same_table t Renew e f = absurd (clash refl e)

-- 12 is answered to a tick alone
record TickOf (said : Said) : Type 0 where
  number : ℕ
  is : said ≡ Tick number

only_ticks : (b : Book) (c : ℕ) (said : Said) → ledger.number_to b (called c said) ≡ 12 → TickOf said
unfolding ledger.own_number
only_ticks b c (Tick n) e = record { number = n; is = refl }
only_ticks b c (Announce n) e =
    let k = checked_facts b (ledger.Announce c n) e (λ q. omega arith) (λ q. omega arith) in
    let s = skip (ltb largest n) 10 0 k.own (λ q. omega arith) in
    absurd (apart 12 s.1 refl)
only_ticks b c (Reply first status) e =
    let k = checked_facts b (ledger.Reply c first status) e (λ q. omega arith) (λ q. omega arith) in
    let s = skip (not (ledger.reply_status status)) 17 (pick (not (ledger.starts_at b.pending first)) 16 0) k.own (λ q. omega arith) in
    let u = skip (not (ledger.starts_at b.pending first)) 16 0 s.1 (λ q. omega arith) in
    absurd (apart 12 u.1 refl)
only_ticks b c (Between x y) e =
    let k = checked_facts b (ledger.Ask (ledger.Between c x y)) e (λ q. omega arith) (λ q. omega arith) in
    let s = skip (not (ledger.tick_number x && ledger.tick_number y)) 10 0 k.own (λ q. omega arith) in
    absurd (apart 12 s.1 refl)

request_not : (b : Book) (c : ℕ) → ledger.number_to b (ledger.Request c) ≡ 12 → ⊥
unfolding ledger.own_number
request_not b c e =
    let k = checked_facts b (ledger.Request c) e (λ q. omega arith) (λ q. omega arith) in
    let s = skip (is_pending b.pending) 14 (pick (eqb b.top b.floor) 15 0) k.own (λ q. omega arith) in
    let u = skip (eqb b.top b.floor) 15 0 s.1 (λ q. omega arith) in
    apart 12 u.1 refl

top_raised : (t : Table) (call : Call) → answered (answer_to t call) 12 ≡ true → Raises t call (next_of t call)
unfolding answer_to next_of ledger.answer_to open_in
top_raised t (Open c) e = absurd (at _ (opening t c) e)
  where
    at : (n : ℕ) → Opening t c n → eqb n 12 ≡ true → ⊥
    at n (wide_10 l) z = clash z refl
    at n (twice_22 l o) z = clash z refl
    at n (full_21 l o f) z = clash z refl
    at n (fine_0 l o f) z = clash z refl
top_raised t (Close c) e = absurd (pick_cases (λ n. eqb n 12 ≡ true → ⊥) (is_open t c) 0 18 (λ o z. clash z refl) (λ o z. clash z refl) e)
top_raised t Request e = absurd (at _ (asking_view t) e)
  where
    at : (n : ℕ) → Asking t n → eqb n 12 ≡ true → ⊥
    at n (busy_14 l) z = clash z refl
    at n (whole_15 l m) z = clash z refl
    at n (turns l m y) z = request_not (book_in (t.place (turn t))) _ (sym y ∙ eqb-true n 12 z)
top_raised t (To c said) e = ⊎_elim (λ o. rw o (raises o (rw o at e))) (λ o. absurd (clash e (ap (λ (u : Bool). eqb (pick u (ledger.answer_to (book_of t c) (called c said)) (unopened c said)).number 12) o))) (two (is_open t c))
  where
    raises : is_open t c ≡ true → answered (ledger.answer_to (book_of t c) (called c said)) 12 ≡ true → Raises t (To c said) (put t (place_of t c) (holds (ledger.next_of (book_of t c) (called c said))))
    raises o z =
        let k = only_ticks (book_of t c) c said (eqb-true _ 12 z) in
        subst (λ (s : Said). Raises t (To c s) (put t (place_of t c) (holds (ledger.next_of (book_of t c) (called c s))))) (sym k.is)
        (record {
          channel = c;
          n = k.number;
          is_tick_holds = refl;
          at = open_in t c o;
          book = ledger.next_of (book_of t c) (ledger.Tick c k.number);
          there = put_here t (place_of t c) _;
          only_top = (keeps (book_of t c) (ledger.Tick c k.number)).far (subst (λ (s : Said). answered (ledger.answer_to (book_of t c) (called c s)) 12 ≡ true) k.is z);
          others = λ i y. put_else t (place_of t c) i _ y;
          last_same = refl;
        })
top_raised t (Told c) e = absurd (pick_cases (λ (a : Paper). answered a 12 ≡ true → ⊥) (is_open t c) _ (refusal 18) (λ o z. clash z refl) (λ o z. clash z refl) e)
top_raised t Renew e = absurd (clash e refl)

pub refused_keeps : (t : Table) (call : Call) → Keeps t call (next_of t call) (answer_to t call)
refused_keeps t call = record { same = same_table t call; far = top_raised t call }

-- ======== 16, for a reply on an open channel that was not the one asked

pub other_reply_16 : (t : Table) (channel first status : ℕ) → TableRules t → OpenIn t channel → (p : SomePending t) → (p.channel ≡ channel → ⊥) → StatusRight status
    → (answer_to t (To channel (Reply first status))).number ≡ 16
other_reply_16 t channel first status r o p n s =
    (given_16 t channel first status r).1 (record {
      at = o;
      right = s;
      unasked = λ last e. n (sym p.at.own ∙ ap (λ (b : Book). b.channel) (same_book last e) ∙ o.own);
    })
  where
    same_book : (last : ℕ) → o.book.pending ≡ range first last → p.at.book ≡ o.book
    same_book last e =
        let i : p.at.place ≡ o.place = r.one_waits _ _ (ap waits p.at.is ∙ ap is_pending p.busy) (ap waits o.is ∙ ap is_pending e) in
        ap book_in (sym p.at.is ∙ ap t.place i ∙ o.is)

-- ======== No number is 13

pub never_13 : (t : Table) (call : Call) → TableRules t → answered (answer_to t call) 13 ≡ false
unfolding answer_to ledger.answer_to
never_13 t (Open channel) r = at _ (opening t channel)
  where
    at : (n : ℕ) → Opening t channel n → eqb n 13 ≡ false
    at n (wide_10 l) = refl
    at n (twice_22 l o) = refl
    at n (full_21 l o f) = refl
    at n (fine_0 l o f) = refl
never_13 t (Close channel) r = pick_cases (λ n. eqb n 13 ≡ false) (is_open t channel) 0 18 (λ o. refl) (λ o. refl)
never_13 t Request r = at (request_to t r)
  where
    at : RequestTo t → answered (answer_to t Request) 13 ≡ false
    at (is_due f e) = ap (λ (n : ℕ). eqb n 13) e
    at (is_busy s e) = ap (λ (n : ℕ). eqb n 13) e
    at (is_whole w e) = ap (λ (n : ℕ). eqb n 13) e
never_13 t (To channel said) r = ⊎_elim (λ o. rw o (sound_there (open_here t channel o))) (λ o. rw o) (two (is_open t channel))
  where
    sound_there : Here t channel (place_of t channel) → eqb (ledger.number_to (book_of t channel) (called channel said)) 13 ≡ false
    sound_there h = ne_eqb _ 13 (λ e. (goal.given_13 (book_of t channel) (called channel said)).0 e (r.sound (place_of t channel) (book_of t channel) (h.is ∙ ap holds (sym (ap book_in h.is)))))
never_13 t (Told channel) r = pick_cases (λ (a : Paper). answered a 13 ≡ false) (is_open t channel) _ (refusal 18) (λ o. refl) (λ o. refl)
never_13 t Renew r = refl

-- ======== A new session changes nothing but the pending request

-- a ledger with nothing pending stays as it is
unchanged : (b : Book) → StateRules b → b.pending ≡ nothing → ledger.next_of b ledger.Renew ≡ b
unfolding ledger.waiting
unchanged b r e = renew_next b r ∙ (λ i. record { channel = b.channel; floor = b.floor; top = b.top; bits = b.bits; pending = sym e i })

pub new_session : (t : Table) → TableRules t → NewSession t (answer_to t Renew) (next_of t Renew)
unfolding answer_to next_of
new_session t r =
    record {
      answer_is = refl;
      last_same = refl;
      free_same = λ i e. ap renewed_place e;
      others_same = λ i b e n. ap renewed_place e ∙ ap holds (unchanged b (r.sound i b e) n) ∙ sym e;
      next_book = λ i b e. ledger.next_of b ledger.Renew;
      there = λ i b e. ap renewed_place e;
      only_cleared = λ i b e. cleared_by b (r.sound i b e);
    }
  where
    cleared_by : (b : Book) → StateRules b → ledger-answers.NewSession b (answer 0 []) (ledger.next_of b ledger.Renew)
    cleared_by b s = subst (λ (p : Paper). ledger-answers.NewSession b p (ledger.next_of b ledger.Renew)) (renew_answer b s) (ledger-new-session b s)
