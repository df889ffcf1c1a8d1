-- A closing is answered 0 exactly for an open channel; a telling call tells what the history says;
-- and no call but an opening or a closing moves a channel. Assumes nothing.
use mathlib.Core.Path.{◌≡◌, refl, sym, ap, subst, ◌∙◌}
use mathlib.Core.Bool.{Bool, true, false}
use mathlib.Core.Logic.{⊎_elim, ◌↔◌}
use mathlib.Core.List.{[], ◌∷◌}
use Prim.Native.Nat.{ℕ}
use lib.Dec.{eqb}
use borrow.Author.Tests.{eq-eqb}
use Rattle.terms.specs.Cases.{clash, two, same}
use Rattle.terms.specs.Paper.{Paper, answer, refusal, pick}
use Rattle.ledger_spec.specs.State.{Book}
use Rattle.ledger_spec.specs.Calls as ledger
use Rattle.ledger_spec.specs.Calls.{Question, Ask, Missing, Held, missing_count, held_count, count_of}
use Rattle.ledger_spec.specs.Words.{value_at, floor_of, known_top}
use Rattle.ledger_spec.proofs.Steps.{step}
use Rattle.ledger_spec.proofs.Tests.{pick_cases, false_of}
use Rattle.channels_spec.specs.Table.{Place, free, holds, Table, put, book_in, place_of, turn, is_open, book_of, TableRules}
use Rattle.channels_spec.specs.Calls.{Call, Open, Close, Request, To, Told, Renew, called, request_number, asking, granted, renewed_place, pending_told, told_of, answer_to, next_of}
use Rattle.channels_spec.specs.Trace.{Calls, after, trace}
use Rattle.channels_spec.specs.Words.{opened, own_history, line, pending_on}
use Rattle.channels_spec.specs.Given.{OpenIn}
use Rattle.channels_seam.specs.Table.{told_from, Tells, SameHolder, both_free, both_hold, TakesPlace, PlacesStay}
use Rattle.channels_spec.proofs.Places.{put_here, put_else, Here, open_here, its_open}
use Rattle.channels_spec.proofs.Views.{TurnAt, turn_at}
use Rattle.channels_spec.proofs.Agree.{agrees}
use Rattle.channels_spec.proofs.Demand.{each_channel, one_pending}
use Rattle.channels_spec.proofs.Fair.{went}

-- ======== A closing is answered 0 exactly for an open channel

pub given_0_closing : (t : Table) (channel : ℕ) → TableRules t → ((answer_to t (Close channel)).number ≡ 0) ↔ OpenIn t channel
unfolding answer_to
given_0_closing t channel r = (
  λ e. ⊎_elim (λ o. open_in (open_here t channel o)) (λ o. absurd (clash (eq-eqb _ 0 e) (ap (λ (u : Bool). eqb (pick u 0 18) 0) o))) (two (is_open t channel)),
  λ o. ap (λ (u : Bool). pick u 0 18) (its_open t r o.place o.book channel o.is o.own),
)
  where
    open_in : Here t channel (place_of t channel) → OpenIn t channel
    open_in h = record { place = place_of t channel; book = h.book; is = h.is; own = h.own }

-- ======== What a channel has to tell

-- a count that a ledger is asked for is the value of its answer
counted_is : (b : Book) (q : Question) (n : ℕ) → ledger.answer_to b (Ask q) ≡ answer 0 (n ∷ []) → count_of b q ≡ n
unfolding ledger.answer_to ledger.values_of
counted_is b q n e =
    let z : eqb (ledger.number_to b (Ask q)) 0 ≡ true = eq-eqb _ 0 (ap (λ (p : Paper). p.number) e) in
    sym (ap (λ (u : Bool). value_at (answer 0 (pick u (count_of b q ∷ []) (0 ∷ []))) 0) z) ∙ ap (λ (p : Paper). value_at p 0) e

pub tells : (channel : ℕ) (calls : Calls) → Tells channel (trace calls) (answer_to (after calls) (Told channel))
unfolding answer_to
tells channel calls = record { of_open = λ e. is_told e; else_18 = λ e. rw (closed e) }
  where
    t : Table
    t = after calls

    closed : opened channel (trace calls) ≡ false → is_open (after calls) channel ≡ false
    closed e = false_of _ (λ o. (let h = open_here (after calls) channel o in clash ((agrees calls).open_from _ h.book channel h.is h.own) e))

    is_told : opened channel (trace calls) ≡ true
        → pick (is_open (after calls) channel) (answer 0 (told_of (book_of (after calls) channel))) (refusal 18) ≡ answer 0 (told_from (own_history channel (trace calls)) (pending_on channel (line (trace calls))))
    is_told e =
        let m = (agrees calls).open_to channel e in
        let b = book_of (after calls) channel in
        let d = (each_channel channel calls e).demand in
        let floor : b.floor ≡ floor_of (own_history channel (trace calls)) = d.shown.floor_is in
        let top : b.top ≡ known_top (own_history channel (trace calls)) = d.shown.top_is in
        let lacks : missing_count b ≡ _ = counted_is b Missing _ d.counts.missing_is in
        let holds_now : held_count b ≡ _ = counted_is b Held _ d.counts.held_is in
        let waits : b.pending ≡ pending_on channel (line (trace calls)) = (one_pending calls).pending_is channel e in
        rw (its_open (after calls) (agrees calls).rules m.place m.book channel m.is m.own)
        (λ i. answer 0 (floor i ∷ top i ∷ lacks i ∷ holds_now i ∷ pending_told (waits i)))

-- ======== What stays at its place

holder_same : (p : Place) → SameHolder p p
holder_same free = both_free
holder_same (holds b) = both_hold refl

-- a ledger replaced by one of its own channel
put_holder : (t : Table) (i : ℕ) (b d : Book) → t.place i ≡ holds b → d.channel ≡ b.channel → PlacesStay t (put t i (holds d))
put_holder t i b d e c j =
    ⊎_elim
    (λ y. subst (λ (p : Place). SameHolder p ((put t i (holds d)).place j)) (sym (ap t.place y ∙ e))
    (subst (SameHolder (holds b)) (sym (ap (put t i (holds d)).place y ∙ put_here t i (holds d))) (both_hold c)))
    (λ n. subst (SameHolder (t.place j)) (sym (put_else t i j (holds d) n)) (holder_same (t.place j)))
    (same j i)

renewed_holder : (t : Table) → TableRules t → (i : ℕ) (p : Place) → t.place i ≡ p → SameHolder p (renewed_place p)
renewed_holder t r i free e = both_free
renewed_holder t r i (holds b) e = both_hold (step b ledger.Renew (r.sound i b e)).channel_same

pub places_stay : (t : Table) (call : Call) → TableRules t → (TakesPlace call → ⊥) → PlacesStay t (next_of t call)
unfolding next_of answer_to
places_stay t (Open c) r n j = absurd (n tt)
places_stay t (Close c) r n j = absurd (n tt)
places_stay t Request r n j = pick_cases (λ (u : Table). SameHolder (t.place j) (u.place j)) (eqb (request_number t) 0) (granted t) t (λ y. asked_now (turn_at t (went t y).0)) (λ y. holder_same (t.place j))
  where
    asked_now : TurnAt t (turn t) → SameHolder (t.place j) ((granted t).place j)
    asked_now g =
        let b : Book = book_in (t.place (turn t)) in
        let is : t.place (turn t) ≡ holds b = g.is ∙ ap holds (sym (ap book_in g.is)) in
        put_holder t (turn t) b _ is (step b (asking t) (r.sound (turn t) b is)).channel_same j
places_stay t (To c said) r n j = pick_cases (λ (u : Table). SameHolder (t.place j) (u.place j)) (is_open t c) _ t (λ o. said_now (open_here t c o)) (λ o. holder_same (t.place j))
  where
    said_now : Here t c (place_of t c) → SameHolder (t.place j) ((put t (place_of t c) (holds (ledger.next_of (book_of t c) (called c said)))).place j)
    said_now h =
        let is : t.place (place_of t c) ≡ holds (book_of t c) = h.is ∙ ap holds (sym (ap book_in h.is)) in
        put_holder t (place_of t c) (book_of t c) _ is (step (book_of t c) (called c said) (r.sound (place_of t c) (book_of t c) is)).channel_same j
places_stay t (Told c) r n j = holder_same (t.place j)
places_stay t Renew r n j = renewed_holder t r j (t.place j) refl
