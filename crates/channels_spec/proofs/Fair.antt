-- No channel waits for ever: one that stays open and misses something is asked within 32 granted
-- requests. The number of places from the one last asked round to its own falls with
-- each grant that goes elsewhere. Assumes nothing.
use mathlib.Core.Path.{◌≡◌, refl, sym, ap, subst, ◌∙◌}
use mathlib.Core.Bool.{Bool, true, false}
use mathlib.Core.Logic.{⊎_elim}
use mathlib.Core.List.{List, [], ◌∷◌}
use Prim.Native.Nat.{ℕ, ◌+◌, ◌-◌, ◌%◌, ◌≤◌, ◌<◌}
use native.Mathlib.Nat.{mod-add-mod, add-mod_right, mod-eq_of_lt}
use native.Mathlib.Omega.{arith}
use lib.Dec.{eqb}
use borrow.Author.Tests.{eq-eqb}
use Rattle.terms.specs.Cases.{clash, two, less}
use Rattle.terms.specs.Paper.{Paper, pick}
use Rattle.ledger_spec.specs.State.{Book}
use Rattle.ledger_spec.specs.Calls as ledger
use Rattle.ledger_spec.specs.Calls.{fresh}
use Rattle.ledger_spec.specs.Words.{answered, value_at, one}
use Rattle.ledger_spec.proofs.Tests.{pick_cases}
use Rattle.ledger_spec.proofs.Steps.{step}
use Rattle.channels_spec.specs.Table.{Place, free, holds, Table, empty, put, misses, book_in, place_of, free_place, next_place, counted, steps, turn, is_open, book_of, TableRules}
use Rattle.channels_spec.specs.Calls.{Call, Open, Close, Request, To, Told, Renew, called, opening_number, request_number, asking, granted, answer_to, next_of}
use Rattle.channels_spec.specs.Trace.{Calls, ◌▸◌, after, trace, followed}
use Rattle.channels_spec.specs.Words.{granted_to, grants, grants_on}
use Rattle.channels_spec.specs.Words as words
use Rattle.channels_spec.specs.Demand.{Misses, LastAsked, KeepsMissing, AskedWithin32}
use Rattle.channels_spec.proofs.Places.{After, here, else, after_put, one_book, not_free, Here, open_here, its_open, its_place}
use Rattle.channels_spec.proofs.Views.{Opening, fine_0, wide_10, twice_22, full_21, opening, Asking, busy_14, whole_15, turns, asking_view, TurnAt, turn_at}
use Rattle.channels_spec.proofs.Rules.{before, reached_rules}
use Rattle.channels_spec.proofs.Agree.{Holder, agrees}
use Rattle.channels_spec.proofs.Demand.{held_demand, none_missing, round, turn_low, misses_is}

-- ---- an open channel stays at its place

module _ (t : Table) (r : TableRules t) (i : ℕ) (b : Book) (channel : ℕ) (is : t.place i ≡ holds b) (own : b.channel ≡ channel) where
  -- another ledger of the channel is nowhere
  there : (j : ℕ) (d : Book) → t.place j ≡ holds d → d.channel ≡ channel → j ≡ i
  there j d e y = r.apart j i d b e is (y ∙ sym own)

  -- where one ledger is replaced by its next state
  stays_next : (k : ℕ) (p d : Book) (j : ℕ) → t.place k ≡ holds p → (q : Book) → q.channel ≡ p.channel → After t k (holds q) j (holds d) → d.channel ≡ channel → j ≡ i
  stays_next k p d j x q same_channel (here z e) y = z ∙ there k p x (sym same_channel ∙ ap (λ (f : Book). f.channel) (one_book e) ∙ y)
  stays_next k p d j x q same_channel (else n e) y = there j d e y

  stays : (call : Call) (j : ℕ) (d : Book) → (next_of t call).place j ≡ holds d → d.channel ≡ channel → j ≡ i
  unfolding next_of fresh
  stays (Open c) j d e y = at (opening_number t c) (opening t c) e
    where
      new : is_open t c ≡ false → After t (free_place t) (holds (fresh c)) j (holds d) → j ≡ i
      new o (here z f) = absurd (clash (its_open t r i b c is (own ∙ sym (ap (λ (q : Book). q.channel) (one_book f) ∙ y))) o)
      new o (else n f) = there j d f y

      at : (n : ℕ) → Opening t c n → (pick (eqb n 0) (put t (free_place t) (holds (fresh c))) t).place j ≡ holds d → j ≡ i
      at n (wide_10 l) f = there j d f y
      at n (twice_22 l o) f = there j d f y
      at n (full_21 l o m) f = there j d f y
      at n (fine_0 l o m) f = new o (after_put t (free_place t) j (holds (fresh c)) (holds d) f)
  stays (Close c) j d e y = pick_cases (λ (u : Table). u.place j ≡ holds d → j ≡ i) (is_open t c) (put t (place_of t c) free) t (λ o f. freed (after_put t _ j free (holds d) f)) (λ o f. there j d f y) e
    where
      freed : After t (place_of t c) free j (holds d) → j ≡ i
      freed (here z f) = absurd (not_free f)
      freed (else n f) = there j d f y
  stays Request j d e y = at (request_number t) (asking_view t) e
    where
      at : (n : ℕ) → Asking t n → (pick (eqb n 0) (granted t) t).place j ≡ holds d → j ≡ i
      at n (busy_14 l) f = there j d f y
      at n (whole_15 l m) f = there j d f y
      at n (turns l m z) f = pick_cases (λ (u : Table). u.place j ≡ holds d → j ≡ i) (eqb n 0) (granted t) t (λ w x. asks_now (turn_at t m) x) (λ w x. there j d x y) f
        where
          asks_now : TurnAt t (turn t) → (granted t).place j ≡ holds d → j ≡ i
          asks_now g x =
              let p : Book = book_in (t.place (turn t)) in
              let q : t.place (turn t) ≡ holds p = g.is ∙ ap holds (sym (ap book_in g.is)) in
              stays_next (turn t) p d j q _ (step p (asking t) (r.sound (turn t) p q)).channel_same (after_put t (turn t) j _ (holds d) x) y
  stays (To c said) j d e y = pick_cases (λ (u : Table). u.place j ≡ holds d → j ≡ i) (is_open t c) _ t (λ o f. told (open_here t c o) f) (λ o f. there j d f y) e
    where
      told : Here t c (place_of t c) → (put t (place_of t c) (holds (ledger.next_of (book_of t c) (called c said)))).place j ≡ holds d → j ≡ i
      told k f =
          let q : t.place (place_of t c) ≡ holds (book_of t c) = k.is ∙ ap holds (sym (ap book_in k.is)) in
          stays_next (place_of t c) (book_of t c) d j q _ (step (book_of t c) (called c said) (r.sound (place_of t c) (book_of t c) q)).channel_same (after_put t _ j _ (holds d) f) y
  stays (Told c) j d e y = there j d e y
  stays Renew j d e y =
      let f = before t j d e in
      there j f.book f.was (sym (step f.book ledger.Renew (r.sound j f.book f.was)).channel_same ∙ ap (λ (q : Book). q.channel) f.is ∙ y)

-- ---- only a granted request moves the place last asked

last_stays : (t : Table) (call : Call) → words.granted call (answer_to t call) ≡ 0 → (next_of t call).last ≡ t.last
unfolding next_of answer_to
last_stays t (Open c) e = pick_cases (λ (u : Table). u.last ≡ t.last) (eqb (opening_number t c) 0) _ t (λ o. refl) (λ o. refl)
last_stays t (Close c) e = pick_cases (λ (u : Table). u.last ≡ t.last) (is_open t c) _ t (λ o. refl) (λ o. refl)
last_stays t Request e = pick_cases (λ (u : Table). u.last ≡ t.last) (eqb (request_number t) 0) (granted t) t (λ o. absurd (clash refl (sym (some o) ∙ ap (λ (n : ℕ). eqb n 1) e))) (λ o. refl)
  where
    some : eqb (request_number t) 0 ≡ true → eqb (one (eqb (request_number t) 0)) 1 ≡ true
    some o = ap (λ (x : Bool). eqb (one x) 1) o
last_stays t (To c said) e = pick_cases (λ (u : Table). u.last ≡ t.last) (is_open t c) _ t (λ o. refl) (λ o. refl)
last_stays t (Told c) e = refl
last_stays t Renew e = refl

-- ---- counts never fall

grants_grow : (channel : ℕ) (calls : Calls) (more : List Call) → grants_on channel (trace calls) ≤ grants_on channel (trace (followed calls more))
unfolding grants_on trace
grants_grow channel calls [] = omega arith
grants_grow channel calls (call ∷ more) = let l : grants_on channel (trace (calls ▸ call)) ≤ grants_on channel (trace (followed (calls ▸ call) more)) = grants_grow channel (calls ▸ call) more in omega arith

-- ---- the distance

-- wherever the channel's ledger stands, it is k steps behind the place last asked
Near : Table → ℕ → ℕ → Type 0
Near t channel k = (j : ℕ) (d : Book) → t.place j ≡ holds d → d.channel ≡ channel → j ≡ counted t k

-- k steps from here are as many fewer from the place asked now
shorter : (last k m : ℕ) → m < k → ((last + 1 + m) % 32 + 1 + (k - m - 1)) % 32 ≡ (last + 1 + k) % 32
shorter last k m l =
    let e : (last + 1 + m) % 32 + 1 + (k - m - 1) ≡ (last + 1 + m) % 32 + (1 + (k - m - 1)) = omega arith in
    let f : last + 1 + m + (1 + (k - m - 1)) ≡ last + 1 + k = omega arith in
    ap (◌% 32) e ∙ mod-add-mod (last + 1 + m) 32 (1 + (k - m - 1)) ∙ ap (◌% 32) f

-- ---- one call

data GrantView : Call → Paper → Type 0 where
  other_call : {c : Call} {a : Paper} → words.granted c a ≡ 0 → GrantView c a
  grants_now : {a : Paper} → answered a 0 ≡ true → GrantView Request a

grant_view : (c : Call) (a : Paper) → GrantView c a
grant_view (Open c) a = other_call refl
grant_view (Close c) a = other_call refl
grant_view Request a = ⊎_elim (λ e. grants_now e) (λ e. other_call (ap one e)) (two (answered a 0))
grant_view (To c said) a = other_call refl
grant_view (Told c) a = other_call refl
grant_view Renew a = other_call refl

-- a granted request has gone to the place whose turn it was
pub went : (t : Table) → answered (answer_to t Request) 0 ≡ true → (steps t < 32) × ((next_of t Request).last ≡ turn t)
unfolding answer_to next_of
went t y = (at (request_number t) (asking_view t) y, ap (λ (x : Bool). (pick x (granted t) t).last) y)
  where
    at : (n : ℕ) → Asking t n → eqb n 0 ≡ true → steps t < 32
    at n (busy_14 l) e = absurd (clash e refl)
    at n (whole_15 l m) e = absurd (clash e refl)
    at n (turns l m z) e = m

first_value : (t : Table) → answered (answer_to t Request) 0 ≡ true → value_at (answer_to t Request) 0 ≡ (book_in (t.place (turn t))).channel
unfolding answer_to
first_value t y = rw y

-- and to that channel
went_to : (t : Table) (channel : ℕ) → answered (answer_to t Request) 0 ≡ true → (book_in (t.place (turn t))).channel ≡ channel → granted_to channel (answer_to t Request) ≡ true
unfolding answer_to
went_to t channel y c = rw y (eq-eqb _ _ c)

-- the counts before and behind these calls are plain numbers here: `all` requests granted in the
-- end, `own` of them to the channel
module _ (channel : ℕ) (calls : Calls) (all own k : ℕ) (l : k < 32) (misses-now : Misses channel (trace calls)) (near : Near (after calls) channel k) (more : grants (trace calls) + k < all) where
  abbrev t : Table
  t = after calls

  m : Holder t channel
  m = (agrees calls).open_to channel misses-now.is_open_holds

  m_at : m.place ≡ counted t k
  unfolding Near
  m_at = near m.place m.book m.is m.own

  m_misses : misses (t.place (counted t k)) ≡ true
  m_misses =
      ap (λ (j : ℕ). misses (t.place j)) (sym m_at)
      ∙ misses_is t m.place m.book m.is (none_missing m.book _ channel (held_demand calls m.place m.book channel m.is m.own) misses-now.some)

  m_stays : (call : Call) (j : ℕ) (d : Book) → (next_of t call).place j ≡ holds d → d.channel ≡ channel → j ≡ counted t k
  m_stays call j d e y = stays t (reached_rules calls) m.place m.book channel m.is m.own call j d e y ∙ m_at

  abbrev Onward : Call → Type 0
  Onward call = (n : ℕ) → n < 32 → Near (after (calls ▸ call)) channel n → grants (trace (calls ▸ call)) + n < all → grants_on channel (trace (calls ▸ call)) < own

  quiet_step : (call : Call) → words.granted call (answer_to t call) ≡ 0 → Onward call → grants_on channel (trace calls) < own
  unfolding grants grants_on trace Near
  quiet_step call e onward =
      let g : grants (trace (calls ▸ call)) + k < all = omega (arith, e) in
      let n = onward k l (λ j d x y. m_stays call j d x y ∙ ap (λ (i : ℕ). (i + 1 + k) % 32) (sym (last_stays t call e))) g in
      omega arith

  grant_step : answered (answer_to t Request) 0 ≡ true → grants_on channel (trace (calls ▸ Request)) ≤ own → Onward Request → grants_on channel (trace calls) < own
  unfolding grants grants_on trace Near
  grant_step y up onward =
      let w = went t y in
      let low : steps t ≤ k = turn_low t k l m_misses in
      ⊎_elim
      (λ (s : steps t < k). (
      let one_more : one (answered (answer_to t Request) 0) ≡ 1 = ap one y in
      let g : grants (trace (calls ▸ Request)) + (k - steps t - 1) < all = omega arith in
      let n = onward (k - steps t - 1) (omega arith)
      (λ j d x z. m_stays Request j d x z ∙ sym (shorter t.last k (steps t) s) ∙ ap (λ (i : ℕ). (i + 1 + (k - steps t - 1)) % 32) (sym w.1)) g in
      omega arith))
      (λ (s : k ≤ steps t). (
      let e : steps t ≡ k = omega arith in
      let c : (book_in (t.place (turn t))).channel ≡ channel = ap (λ (i : ℕ). (book_in (t.place (counted t i))).channel) e ∙ ap (λ (i : ℕ). (book_in (t.place i)).channel) (sym m_at) ∙ ap (λ (p : Place). (book_in p).channel) m.is ∙ m.own in
      let one_more : one (granted_to channel (answer_to t Request)) ≡ 1 = ap one (went_to t channel y c) in
      omega arith))
      (less (steps t) k)

  one_call : (call : Call) → GrantView call (answer_to t call) → grants_on channel (trace (calls ▸ call)) ≤ own → Onward call → grants_on channel (trace calls) < own
  one_call call (other_call e) up onward = quiet_step call e onward
  one_call call (grants_now y) up onward = grant_step y up onward

-- ---- all of them

within : (channel : ℕ) (calls : Calls) (more : List Call) (k : ℕ) → k < 32 → KeepsMissing channel calls more → Near (after calls) channel k
    → grants (trace calls) + k < grants (trace (followed calls more)) → grants_on channel (trace calls) < grants_on channel (trace (followed calls more))
within channel calls [] k l keeps near more-grants = absurd (too_many more-grants)
  where
    too_many : {g : ℕ} → g + k < g → ⊥
    too_many x = omega arith
within channel calls (call ∷ more) k l keeps near more-grants =
    one_call channel calls _ _ k l keeps.0 near more-grants call (grant_view call _) (grants_grow channel (calls ▸ call) more)
    (λ n j near-then grants-then. within channel (calls ▸ call) more n j keeps.1 near-then grants-then)

-- CR 3's fairness
pub asked_within_32 : AskedWithin32
unfolding Near
asked_within_32 channel calls [] keeps e = absurd (too_many e)
  where
    too_many : {g : ℕ} → g + 32 ≤ g → ⊥
    too_many x = omega arith
asked_within_32 channel calls (call ∷ more) keeps e =
    let m = (agrees calls).open_to channel keeps.0.is_open_holds in
    let r = reached_rules calls in
    let k = round (next_place (after calls)) m.place (r.within m.place m.book m.is) in
    let l : k.steps < 32 = k.below_32 in
    within channel calls (call ∷ more) k.steps l keeps (λ j d x y. there (after calls) r m.place m.book channel m.is m.own j d x y ∙ sym k.there) (omega arith)

-- ---- the place last asked

-- "at first from the first place"
pub counts_from_first : (k : ℕ) → k < 32 → counted empty k ≡ k
counts_from_first k l = ap (◌% 32) e ∙ add-mod_right k 32 ∙ mod-eq_of_lt l
  where
    e : 31 + 1 + k ≡ k + 32
    e = omega arith

-- a grant moves it to the place of the channel that the request went to, and nothing else moves it
pub last_asked : (t : Table) (call : Call) → TableRules t → LastAsked t call
last_asked t call r = record { moves = λ e. subst Moves (sym e) grant; stays = last_stays t call }
  where
    Moves : Call → Type 0
    Moves c = answered (answer_to t c) 0 ≡ true → (next_of t c).last ≡ place_of t (value_at (answer_to t c) 0)

    grant : Moves Request
    grant y = let w = went t y in let g = turn_at t w.0 in w.1 ∙ sym (its_place t r (turn t) g.book _ g.is (sym (went_channel g y)))
      where
        went_channel : (g : TurnAt t (turn t)) → answered (answer_to t Request) 0 ≡ true → value_at (answer_to t Request) 0 ≡ g.book.channel
        went_channel g z = first_value t z ∙ ap (λ (p : Place). (book_in p).channel) g.is
