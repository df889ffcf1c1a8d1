-- Where each channel stands, and the place last asked, are told from the history alone: of the
-- table of `channels_spec` by induction over its calls, and so of a lent table. Assumes nothing.
use mathlib.Core.Path.{◌≡◌, refl, sym, ap, subst, ◌∙◌}
use mathlib.Core.Bool.{Bool, true, false}
use mathlib.Core.Logic.{⊎_elim}
use Prim.Native.Nat.{ℕ}
use lib.Dec.{eqb}
use borrow.Author.Tests.{eq-eqb, ne_eqb, eqb-true}
use Rattle.terms.specs.Cases.{clash, two}
use Rattle.terms.specs.Paper.{refusal, pick}
use Rattle.ledger_spec.specs.Calls.{fresh}
use Rattle.ledger_spec.specs.Words.{value_at, answered, one}
use Rattle.ledger_spec.proofs.Tests.{pick_true, pick_false}
use Rattle.channels_spec.specs.Table.{Place, free, holds, Table, put, least, is_free, is_for, place_of, free_place, is_open, TableRules}
use Rattle.channels_spec.specs.Calls.{Call, Open, Close, Request, To, Told, Renew, opening_number, answer_to, next_of}
use Rattle.channels_spec.specs.Trace.{Calls, none, ◌▸◌, after, History, ◌▸◌⇒◌, trace}
use Rattle.channels_spec.proofs.Least.{least_ext}
use Rattle.channels_spec.proofs.Places.{open_here, its_place}
use Rattle.channels_spec.proofs.Views.{Opening, fine_0, wide_10, twice_22, full_21, opening}
use Rattle.channels_spec.proofs.Rules.{reached_rules}
use Rattle.channels_spec.proofs.Fair.{last_asked}
use Rattle.channels.specs.declared.Channels.{Channels}
use Rattle.channels_seam.specs.Kept.{PlaceAt, LentRan}
use Rattle.channels_seam.specs.Table.{SameHolder, both_free, both_hold}
use Rattle.channels_seam.specs.Seats.{Seat, nobody, seated, is_empty, has_seat, seat, last_place, SeatAt, LentSeats}
use Rattle.channels_seam.proofs.Table.{places_stay}
use Rattle.channels_seam.proofs.Ran.{with_ran}

-- ---- who stands at a place of the table

abbrev seat_of : Place → Seat
seat_of free = nobody
seat_of (holds b) = seated b.channel

holder_seat : {p q : Place} → SameHolder p q → seat_of q ≡ seat_of p
holder_seat both_free = refl
holder_seat (both_hold c) = ap seated c

free_seat : (p : Place) → is_free p ≡ is_empty (seat_of p)
free_seat free = refl
free_seat (holds b) = refl

for_seat : (c : ℕ) (p : Place) → is_for c p ≡ has_seat c (seat_of p)
for_seat c free = refl
for_seat c (holds b) = refl

-- an open channel's place is the one that has its ledger
module _ (t : Table) (r : TableRules t) (c : ℕ) (o : is_open t c ≡ true) where
  its_seat : (i : ℕ) → eqb i (place_of t c) ≡ is_for c (t.place i)
  its_seat i = ⊎_elim (λ y. eq-eqb _ _ (sym (at (t.place i) refl y)) ∙ sym y) (λ n. ne_eqb _ _ (λ z. clash (ap (λ (j : ℕ). is_for c (t.place j)) z ∙ there) n) ∙ sym n) (two (is_for c (t.place i)))
    where
      at : (p : Place) → t.place i ≡ p → is_for c (t.place i) ≡ true → place_of t c ≡ i
      at free e y = absurd (clash y (ap (is_for c) e))
      at (holds b) e y = its_place t r i b c e (eqb-true _ _ (sym (ap (is_for c) e) ∙ y))

      there : is_for c (t.place (place_of t c)) ≡ true
      there = let h = open_here t c o in ap (is_for c) h.is ∙ eq-eqb _ _ h.own

-- ---- one call

record Seats (h : History) (t : Table) : Type 0 where
  each : (i : ℕ) → seat_of (t.place i) ≡ seat h i
  last : t.last ≡ last_place h

module _ (h : History) (t : Table) (r : TableRules t) (s : Seats h t) where
  lowest : free_place t ≡ least (λ j. is_empty (seat h j)) 32
  unfolding free_place
  lowest = least_ext _ _ 32 (λ i l. free_seat (t.place i) ∙ ap is_empty (s.each i))

  place_is : (c : ℕ) → place_of t c ≡ least (λ j. has_seat c (seat h j)) 32
  unfolding place_of
  place_is c = least_ext _ _ 32 (λ i l. for_seat c (t.place i) ∙ ap (has_seat c) (s.each i))

  one_seat : (i : ℕ) (b : Bool) (p : Place) → seat_of (pick b p (t.place i)) ≡ pick b (seat_of p) (seat h i)
  one_seat i true p = refl
  one_seat i false p = s.each i

  opened_seats : (c i n : ℕ) → Opening t c n → seat_of ((pick (eqb n 0) (put t (free_place t) (holds (fresh c))) t).place i) ≡ seat (h ▸ Open c ⇒ refusal n) i
  unfolding seat fresh
  opened_seats c i n (wide_10 l) = s.each i
  opened_seats c i n (twice_22 l o) = s.each i
  opened_seats c i n (full_21 l o f) = s.each i
  opened_seats c i n (fine_0 l o f) = one_seat i (eqb i (free_place t)) (holds (fresh c)) ∙ ap (λ (m : ℕ). pick (eqb i m) (seated c) (seat h i)) lowest

  closed_seats : (c i : ℕ) → is_open t c ≡ true → seat_of ((put t (place_of t c) free).place i) ≡ seat (h ▸ Close c ⇒ refusal 0) i
  unfolding seat
  closed_seats c i o = one_seat i (eqb i (place_of t c)) free
      ∙ ap (λ (b : Bool). pick b nobody (seat h i)) (its_seat t r c o i ∙ for_seat c (t.place i) ∙ ap (has_seat c) (s.each i))

  stays : (call : Call) (i : ℕ) → SameHolder (t.place i) ((next_of t call).place i) → seat_of ((next_of t call).place i) ≡ seat h i
  stays call i e = holder_seat e ∙ s.each i

  each_next : (call : Call) (i : ℕ) → seat_of ((next_of t call).place i) ≡ seat (h ▸ call ⇒ answer_to t call) i
  unfolding next_of answer_to seat
  each_next (Open c) i = opened_seats c i (opening_number t c) (opening t c)
  each_next (Close c) i = ⊎_elim (λ o. rw o (closed_seats c i o)) (λ o. rw o (s.each i)) (two (is_open t c))
  each_next Request i = stays Request i (places_stay t Request r (λ z. z) i)
  each_next (To c said) i = stays (To c said) i (places_stay t (To c said) r (λ z. z) i)
  each_next (Told c) i = s.each i
  each_next Renew i = stays Renew i (places_stay t Renew r (λ z. z) i)

  last_next : (call : Call) → (next_of t call).last ≡ last_place (h ▸ call ⇒ answer_to t call)
  unfolding last_place
  last_next (Open c) = (last_asked t (Open c) r).stays refl ∙ s.last
  last_next (Close c) = (last_asked t (Close c) r).stays refl ∙ s.last
  last_next Request = ⊎_elim
      (λ y. (last_asked t Request r).moves refl y ∙ place_is (value_at (answer_to t Request) 0) ∙ sym (pick_true (answered (answer_to t Request) 0) _ _ y))
      (λ n. (last_asked t Request r).stays (ap one n) ∙ s.last ∙ sym (pick_false (answered (answer_to t Request) 0) _ _ n))
      (two (answered (answer_to t Request) 0))
  last_next (To c said) = (last_asked t (To c said) r).stays refl ∙ s.last
  last_next (Told c) = (last_asked t (Told c) r).stays refl ∙ s.last
  last_next Renew = (last_asked t Renew r).stays refl ∙ s.last

-- ---- every row of calls

seats : (calls : Calls) → Seats (trace calls) (after calls)
unfolding trace seat last_place
seats none = record { each = λ i. refl; last = refl }
seats (calls ▸ call) =
    record { each = each_next (trace calls) (after calls) (reached_rules calls) (seats calls) call; last = last_next (trace calls) (after calls) (reached_rules calls) (seats calls) call }

pub lent_seats : {h : History} {x : Channels} → LentRan h x → LentSeats h x
lent_seats {h} {x} r = with_ran (λ g. LentSeats g x) r (λ calls k. record {
  seats = λ i l. subst (SeatAt x i) ((seats calls).each i) (at i ((after calls).place i) (k.each i l));
  last_is = k.last_is ∙ (seats calls).last;
})
  where
    at : (i : ℕ) (p : Place) → PlaceAt x i p → SeatAt x i (seat_of p)
    at i free a = a.unused
    at i (holds b) a = (a.used_is, a.name_is)
