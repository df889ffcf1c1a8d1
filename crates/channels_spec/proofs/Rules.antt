-- Calls never break the table's rules. Assumes nothing.
use mathlib.Core.Path.{◌≡◌, refl, sym, ap, subst, ◌∙◌}
use mathlib.Core.Bool.{true}
use Prim.Native.Nat.{ℕ, ◌≤◌}
use native.Mathlib.Omega.{arith}
use lib.Dec.{eqb}
use Rattle.terms.specs.Cases.{clash}
use Rattle.terms.specs.Paper.{Paper, pick}
use Rattle.ledger_spec.specs.State.{Asked, nothing, Book, StateRules}
use Rattle.ledger_spec.specs.Calls as ledger
use Rattle.ledger_spec.specs.Calls.{is_pending, fresh}
use Rattle.ledger_spec.specs.Words.{answered, still_pending}
use Rattle.ledger_spec.proofs.Tests.{pick_cases}
use Rattle.ledger_spec.proofs.Steps.{Step, step, fresh_rules}
use Rattle.ledger_spec.proofs.Answers.{new_session}
use Rattle.channels_spec.specs.Table.{Place, free, holds, Table, empty, put, waits, book_in, place_of, free_place, pending_place, turn, is_open, book_of, TableRules}
use Rattle.channels_spec.specs.Calls.{Said, Tick, Announce, Reply, Between, Call, Open, Close, Request, To, Told, Renew, called, request_number, asking, granted, renewed_place, renewed, next_of}
use Rattle.channels_spec.specs.Trace.{Calls, none, ◌▸◌, after}
use Rattle.channels_spec.proofs.Places.{Here, open_here, its_open, one_book, not_free, rules_put, rules_freed, rules_last}
use Rattle.channels_spec.proofs.Views.{Opening, fine_0, wide_10, twice_22, full_21, opening, Asking, busy_14, whole_15, turns, asking_view, none_waits, TurnAt, turn_at}

pub empty_rules : TableRules empty
empty_rules =
    record {
      last_in = omega arith;
      sound = λ i b e. absurd (not_free e);
      within = λ i b e. absurd (not_free e);
      apart = λ i j b d e f c. absurd (not_free e);
      one_waits = λ i j e f. absurd (clash e refl);
    }

-- ---- what is said to a ledger leaves no request pending that was not

kept_pending : (channel : ℕ) (said : Said) (a : Paper) (was : Asked) → is_pending (still_pending (called channel said) a was) ≡ true → is_pending was ≡ true
unfolding still_pending
kept_pending channel (Tick n) a was e = e
kept_pending channel (Announce n) a was e = e
kept_pending channel (Between x z) a was e = e
kept_pending channel (Reply first status) a was e =
    pick_cases (λ p. is_pending p ≡ true → is_pending was ≡ true) (answered a 0) nothing was (λ y f. absurd (clash f refl)) (λ y f. f) e

pub said_rules : (t : Table) (channel i : ℕ) (said : Said) → TableRules t → (h : Here t channel i) → TableRules (put t i (holds (ledger.next_of h.book (called channel said))))
said_rules t channel i said r h =
    let s = step h.book (called channel said) (r.sound i h.book h.is) in
    rules_put t i _ r h.within s.rules (λ j d e c. r.apart j i d h.book e h.is (c ∙ s.channel_same))
    (λ e j f. r.one_waits j i f (ap waits h.is ∙ kept_pending channel said _ h.book.pending (ap is_pending (sym s.pending_is) ∙ e)))

-- ---- a granted request

pub granted_rules : (t : Table) → TableRules t → 32 ≤ pending_place t → TurnAt t (turn t) → TableRules (granted t)
granted_rules t r l g =
    let b : Book = book_in (t.place (turn t)) in
    let is : t.place (turn t) ≡ holds b = g.is ∙ ap holds (sym (ap book_in g.is)) in
    let s = step b (asking t) (r.sound (turn t) b is) in
    rules_last (put t (turn t) _) (turn t) g.within
    (rules_put t (turn t) _ r g.within s.rules (λ j d e c. r.apart j (turn t) d b e is (c ∙ s.channel_same)) (λ e j f. absurd (none_waits t r l j f)))

-- ---- a new session

-- what stands at a place was there before it
pub record Before (t : Table) (i : ℕ) (b : Book) : Type 0 where
  pub book : Book
  pub was : t.place i ≡ holds book
  pub is : ledger.next_of book ledger.Renew ≡ b

pub before : (t : Table) (i : ℕ) (b : Book) → (renewed t).place i ≡ holds b → Before t i b
before t i b e = at (t.place i) refl e
  where
    at : (p : Place) → t.place i ≡ p → renewed_place p ≡ holds b → Before t i b
    at free x y = absurd (not_free y)
    at (holds d) x y = record { book = d; was = x; is = one_book y }

pub renewed_rules : (t : Table) → TableRules t → TableRules (renewed t)
renewed_rules t r =
    record {
      last_in = r.last_in;
      sound = λ i b e. (let f = before t i b e in subst StateRules f.is (stepped i f.book f.was).rules);
      within = λ i b e. (let f = before t i b e in r.within i f.book f.was);
      apart = λ i j b d e g c. (let f = before t i b e in let k = before t j d g in
          r.apart i j f.book k.book f.was k.was (sym (same_channel i b f) ∙ c ∙ same_channel j d k));
      one_waits = λ i j e f. absurd (none_pending i (t.place i) refl e);
    }
  where
    stepped : (i : ℕ) (d : Book) → t.place i ≡ holds d → Step d ledger.Renew (ledger.next_of d ledger.Renew) (ledger.answer_to d ledger.Renew)
    stepped i d e = step d ledger.Renew (r.sound i d e)

    same_channel : (i : ℕ) (b : Book) (f : Before t i b) → b.channel ≡ f.book.channel
    same_channel i b f = ap (λ (q : Book). q.channel) (sym f.is) ∙ (stepped i f.book f.was).channel_same

    none_pending : (i : ℕ) (p : Place) → t.place i ≡ p → waits (renewed_place p) ≡ true → ⊥
    none_pending i free x y = clash y refl
    none_pending i (holds d) x y = clash y (ap is_pending (new_session d (r.sound i d x)).cleared)

-- ---- every call

open_rules : (t : Table) (channel n : ℕ) → TableRules t → Opening t channel n → TableRules (pick (eqb n 0) (put t (free_place t) (holds (fresh channel))) t)
unfolding fresh
open_rules t channel n r (wide_10 l) = r
open_rules t channel n r (twice_22 l e) = r
open_rules t channel n r (full_21 l e f) = r
open_rules t channel n r (fine_0 l e f) =
    rules_put t (free_place t) (fresh channel) r f (fresh_rules channel l) (λ j d x c. absurd (clash (its_open t r j d channel x c) e)) (λ y j z. absurd (clash y refl))

pub rules_kept : (t : Table) (call : Call) → TableRules t → TableRules (next_of t call)
unfolding next_of
rules_kept t (Open channel) r = open_rules t channel _ r (opening t channel)
rules_kept t (Close channel) r = pick_cases TableRules (is_open t channel) _ t (λ e. rules_freed t (place_of t channel) r) (λ e. r)
rules_kept t Request r = asked_rules (request_number t) (asking_view t)
  where
    asked_rules : (n : ℕ) → Asking t n → TableRules (pick (eqb n 0) (granted t) t)
    asked_rules n (busy_14 l) = r
    asked_rules n (whole_15 l m) = r
    asked_rules n (turns l m e) = pick_cases TableRules (eqb n 0) (granted t) t (λ y. granted_rules t r l (turn_at t m)) (λ y. r)
rules_kept t (To channel said) r = pick_cases TableRules (is_open t channel) _ t (λ e. said_at (open_here t channel e)) (λ e. r)
  where
    said_at : Here t channel (place_of t channel) → TableRules (put t (place_of t channel) (holds (ledger.next_of (book_of t channel) (called channel said))))
    said_at h = subst (λ (b : Book). TableRules (put t (place_of t channel) (holds (ledger.next_of b (called channel said))))) (sym (ap book_in h.is)) (said_rules t channel _ said r h)
rules_kept t (Told channel) r = r
rules_kept t Renew r = renewed_rules t r

pub reached_rules : (calls : Calls) → TableRules (after calls)
reached_rules none = empty_rules
reached_rules (calls ▸ call) = rules_kept (after calls) call (reached_rules calls)
