-- 13 of a call on any table, sound or not: the tests that the code makes are the rules, in words.
-- Assumes nothing.
use mathlib.Core.Path.{◌≡◌, refl, sym, ap, ap₂, subst, ◌∙◌}
use mathlib.Core.Bool.{Bool, true, false, ◌&&◌, ◌||◌, not}
use mathlib.Core.Logic.{◌⊎◌, inl, inr, ⊎_elim, ◌↔◌}
use Prim.Native.Nat.{ℕ, zero, suc, ◌+◌, ◌%◌, ◌^◌, ◌≤◌, ◌<◌, max, min}
use native.Mathlib.Nat.{two-pow-succ, mod-lt}
use native.Mathlib.Omega.{arith}
use borrow.Author.Tests.{eq-eqb, ne_eqb, eqb-true, lt-ltb, le-leb, lt-leb, leb-true, ltb-true}
use lib.Bits.{bit_or, or_lt}
use lib.Dec.{eqb, leb, ltb}
use Rattle.terms.specs.Cases.{clash, two, less, same}
use Rattle.terms.specs.Paper.{Paper, answer, refusal, pick}
use Rattle.tick_map.specs.Bits.{bit, is_set}
use Rattle.tick_map.proofs.Digits.{bit_lt, bit_or_lem, bit_ext, bit_above, lt_of_clear}
use Rattle.ledger_spec.specs.State.{Asked, nothing, range, Book, sound_of}
use Rattle.ledger_spec.specs.Calls as ledger
use Rattle.ledger_spec.specs.Calls.{is_pending, fresh}
use Rattle.ledger_spec.proofs.Given as goal
use Rattle.ledger_spec.proofs.Rules.{rules_facts, rules_test}
use Rattle.ledger_spec.proofs.Tests.{both, and_false, false_of, zero_digit}
use Rattle.ledger.specs.declared.Ledger.{Ledger}
use Rattle.host_words.specs.Words.{book_in}
use Rattle.host_words.specs.Told.{retold}
use Rattle.host_ledger.specs.Words.{settled_row}
use Rattle.channels_spec.specs.Table.{holds, misses}
use Rattle.channels_spec.specs.Calls.{Call, Open, Close, Request, To, Told, Renew, Tick, Announce, Reply, Between, told_of}
use Rattle.channels_spec.proofs.Least.{least_low, least_is, least_none, least_all, least_at}
use Rattle.channels.specs.declared.Channels.{Channels}
use Rattle.channels.specs.declared.Index.{Index}
use Rattle.channels.specs.declared.Row.{Row}
use Rattle.channels.specs.declared.Turn.{Turn}
use Rattle.channels.specs.declared.ChannelCall.{ChannelCall}
use Rattle.channels.specs.declared.ChannelTold.{ChannelTold}
use Rattle.channels.specs.declared.Answered.{Answered}
use Rattle.channels.specs.Index.{open_for, place_in, place_from, once_in, free_in, steps_in, turn_in, open_at, index_sound}
use Rattle.channels.specs.Turn.{asked_or_turn, turn_of, once_of, turned_at}
use Rattle.channels.specs.Told.{told_as, named_paper, agree}
use Rattle.channels.specs.Answered.{row_of, blank, opened_at, closed_at, row_fits, kept_of, refused_of, stored_of, left_of, plain, said_of, status_in, none_there, taken_of, opened_of, closed_of, requested_of, telling_of, served_of, answered_of}
use Rattle.channels.specs.Serves.{row_at, turn_by, answered_by, Serves}
use Rattle.channels_seam.specs.Kept.{call_of}
use Rattle.channels_seam.specs.Lent.{is_used, name_at, book_at}
use Rattle.channels_seam.specs.Broken.{IndexRules, NamedOnce, HasPending, RowRules, Speaks, NamesNone, LooksAt, at_channel, at_asked, at_turn, Unsound, bad_index, twice, bad_row}

-- ======== The index's test is its rules

power : (n : ℕ) → n < 2 ^ n
power zero = omega arith
power (suc n) = let h : n < 2 ^ n = power n in let e : 2 ^ suc n ≡ 2 ^ n + 2 ^ n = two-pow-succ n in omega (arith, e, h)

or_false_left : (u v : Bool) → u ≡ false → u || v ≡ true → v ≡ true
or_false_left true v e f = absurd (clash refl e)
or_false_left false v e f = f

or_true_left : (u v : Bool) → u ≡ true → u || v ≡ true
or_true_left true v e = refl
or_true_left false v e = absurd (clash e refl)

or_true_right : (u v : Bool) → v ≡ true → u || v ≡ true
or_true_right true v e = refl
or_true_right false v e = e

pub index_rules : (x : Index) → index_sound x ≡ true → IndexRules x
unfolding index_sound
index_rules x e =
    let p = both _ _ e in
    let q = both _ _ p.0 in
    let r = both _ _ q.0 in
    record {
      places = ltb-true _ _ r.0;
      lacking_open = λ i y. subset i y (sym (bit_or_lem x.lacking x.used i) ∙ ap (λ (w : ℕ). bit w i) (eqb-true _ _ r.1));
      last_in = ltb-true _ _ q.1;
      asked_open = ⊎_elim (λ y. inl (eqb-true _ _ y)) (λ n. (let o = both _ _ (or_false_left _ _ n p.1) in inr (ltb-true _ _ o.0, o.1))) (two (eqb x.asked 32));
    }
  where
    subset : (i : ℕ) → is_set x.lacking i ≡ true → max (bit x.lacking i) (bit x.used i) ≡ bit x.used i → is_set x.used i ≡ true
    subset i y m =
        let d : bit x.lacking i ≡ 1 = eqb-true _ _ y in
        let u : bit x.used i ≡ 1 = omega (arith, d, m, bit_lt x.used i) in
        eq-eqb _ _ u

module _ (x : Index) (r : IndexRules x) where
  pub lacking_low : x.lacking < 2 ^ 32
  lacking_low = lt_of_clear x.lacking x.lacking 32 (power x.lacking) (λ i l. zero_digit (bit x.lacking i) (bit_lt x.lacking i)
      (false_of _ (λ y. clash (r.lacking_open i y) (ap (λ (d : ℕ). eqb d 1) (bit_above 32 i r.places l)))))

  within : bit_or x.lacking x.used ≡ x.used
  within = bit_ext 32 _ _ (or_lt 32 _ _ lacking_low r.places) r.places (λ i l. bit_or_lem _ _ i ∙ larger i)
    where
      larger : (i : ℕ) → max (bit x.lacking i) (bit x.used i) ≡ bit x.used i
      larger i = ⊎_elim
          (λ y. (let d : bit x.used i ≡ 1 = eqb-true _ _ (r.lacking_open i y) in omega (arith, d, bit_lt x.lacking i)))
          (λ n. (let d : bit x.lacking i ≡ 0 = zero_digit (bit x.lacking i) (bit_lt x.lacking i) n in omega (arith, d)))
          (two (is_set x.lacking i))

  pub index_test : index_sound x ≡ true
  unfolding index_sound
  index_test = simp (lt-ltb _ _ r.places, eq-eqb _ _ within, lt-ltb _ _ r.last_in, asked_fits r.asked_open)
    where
      asked_fits : (x.asked ≡ 32) ⊎ ((x.asked < 32) × (is_set x.used x.asked ≡ true)) → eqb x.asked 32 || open_at x.used x.asked ≡ true
      asked_fits (inl e) = or_true_left (eqb x.asked 32) (open_at x.used x.asked) (eq-eqb _ _ e)
      asked_fits (inr p) = or_true_right (eqb x.asked 32) (open_at x.used x.asked) (ap₂ (λ (u v : Bool). u && v) (lt-ltb _ _ p.0) p.1)

-- ======== A channel named once

module _ (x : Channels) (channel : ℕ) where
  abbrev own : ℕ
  own = place_in x.names.channels x.index.used channel

  abbrev so : ℕ → Bool
  so i = open_for x.names.channels x.index.used channel i

  so_of : (i : ℕ) → is_used x i → name_at x i ≡ channel → so i ≡ true
  so_of i u n = ap₂ (λ (a b : Bool). a && b) (eq-eqb _ _ n) u

  of_so : (i : ℕ) → so i ≡ true → is_used x i × (name_at x i ≡ channel)
  of_so i e = let p = both _ _ e in (p.1, eqb-true _ _ p.0)

  -- the one place
  pub own_is : once_in x.names.channels x.index.used channel ≡ true → (i : ℕ) → i < 32 → so i ≡ true → own ≡ i
  unfolding place_in place_from
  own_is o i l y =
      let low : own ≤ i = least_low so 32 i l y in
      ⊎_elim (λ g. absurd (clash (later g) (least_none (λ j. leb (own + 1) j && so j) 32 (leb-true _ _ o) i l))) (λ g. omega arith) (less own i)
    where
      later : own < i → leb (own + 1) i && so i ≡ true
      later g = ap₂ (λ (a b : Bool). a && b) (le-leb (own + 1) i (omega (arith, g))) y

  once_rules : once_in x.names.channels x.index.used channel ≡ true → NamedOnce x channel
  once_rules o i j l m u v a b = sym (own_is o i l (so_of i u a)) ∙ own_is o j m (so_of j v b)

  once_test : NamedOnce x channel → once_in x.names.channels x.index.used channel ≡ true
  unfolding place_in place_from
  once_test r = le-leb 32 _ (full (least_all (λ j. leb (own + 1) j && so j) 32 (λ j l. false_of _ (λ y. second j l (both _ _ y)))))
    where
      full : {n : ℕ} → n ≡ 32 → 32 ≤ n
      full e = omega (arith, e)

      second : (j : ℕ) → j < 32 → (leb (own + 1) j ≡ true) × (so j ≡ true) → ⊥
      second j l y =
          let g : own + 1 ≤ j = leb-true (own + 1) j y.0 in
          let p : own < 32 = omega arith in
          let f = of_so own (least_is so 32 p).is_so in
          let h = of_so j y.1 in
          let e : own ≡ j = r own j p l f.0 h.0 f.1 h.1 in
          omega (arith, e, g)

-- ======== The row's test is its rules

agree_of : (u v : Bool) → u ≡ v → agree u v ≡ true
agree_of true true e = refl
agree_of true false e = sym e
agree_of false true e = e
agree_of false false e = refl

of_agree : (u v : Bool) → agree u v ≡ true → u ≡ v
of_agree true v e = sym e
of_agree false true e = absurd (clash e refl)
of_agree false false e = refl

pending_fact : (b : Book) (p : Asked) → b.pending ≡ p → is_pending p ≡ true → HasPending b
pending_fact b nothing e y = absurd (clash y refl)
pending_fact b (range first last) e y = record { first = first; last = last; is = e }

module _ (x : Channels) (i : ℕ) (once : Bool) where
  abbrev b : Book
  b = book_at x i

  abbrev good : Bool
  good = row_fits b x.index (turned_at x.names.channels i once) && sound_of b

  bool_iff : {u v : Bool} → (u ≡ true → v ≡ true) → (v ≡ true → u ≡ true) → u ≡ v
  bool_iff {u} {v} f g = ⊎_elim (λ y. y ∙ sym (f y)) (λ n. n ∙ sym (false_of v (λ y. clash (g y) n))) (two u)

  pub row_rules : good ≡ true → RowRules x i
  unfolding row_fits
  row_rules e =
      let p = both _ _ e in
      let q = both _ _ p.0 in
      let n = both _ _ q.0 in
      let r = rules_facts b p.1 in
      let m : is_set x.index.lacking i ≡ misses (holds b) = of_agree _ _ n.1 in
      let w : is_pending b.pending ≡ eqb x.index.asked i = of_agree _ _ q.1 in
      record {
        sound = r;
        own = eqb-true _ _ n.0;
        lacks = (λ y. above r.low (λ z. clash (sym m ∙ y) (ap not (eq-eqb _ _ z))), λ l. m ∙ ap not (ne_eqb _ _ (λ z. equal l z)));
        asks = (λ y. pending_fact b b.pending refl (w ∙ eq-eqb _ _ y), λ h. eqb-true _ _ (sym w ∙ ap is_pending h.is));
      }
    where
      above : {f t : ℕ} → f ≤ t → (t ≡ f → ⊥) → f < t
      above {f} {t} l g = ⊎_elim (λ y. y) (λ y. absurd (g (omega arith))) (less f t)

      equal : {f t : ℕ} → f < t → t ≡ f → ⊥
      equal l z = omega arith

  row_test : RowRules x i → good ≡ true
  unfolding row_fits
  row_test r =
      let m : is_set x.index.lacking i ≡ misses (holds b) = bool_iff (λ y. ap not (ne_eqb _ _ (λ z. equal (r.lacks.0 y) z))) (λ y. r.lacks.1 (above r.sound.low (λ z. clash y (ap not (eq-eqb _ _ z))))) in
      let w : is_pending b.pending ≡ eqb x.index.asked i = bool_iff (λ y. eq-eqb _ _ (r.asks.1 (pending_fact b b.pending refl y))) (λ y. ap is_pending (r.asks.0 (eqb-true _ _ y)).is) in
      simp (eq-eqb _ _ r.own, agree_of _ _ m, agree_of _ _ w, rules_test b r.sound)
    where
      above : {f t : ℕ} → f ≤ t → (t ≡ f → ⊥) → f < t
      above {f} {t} l g = ⊎_elim (λ y. y) (λ y. absurd (g (omega arith))) (less f t)

      equal : {f t : ℕ} → f < t → t ≡ f → ⊥
      equal l z = omega arith

-- ======== The number 13, as a test

-- a ledger's own call is answered 13 exactly where its state breaks the rules
said_13 : (b : Book) (call : ledger.Call) → eqb (ledger.answer_to b call).number 13 ≡ not (sound_of b)
unfolding ledger.answer_to
said_13 b call = ⊎_elim
    (λ y. ne_eqb _ 13 (λ e. (goal.given_13 b call).0 e (rules_facts b y)) ∙ sym (ap not y))
    (λ n. eq-eqb _ 13 ((goal.given_13 b call).1 (λ r. clash (rules_test b r) n)) ∙ sym (ap not n))
    (two (sound_of b))

-- what is told stays, whether the next ledger is stored or not
pub left_told : (r : Row) (x : Index) (n : Turn) (next : Ledger) (t : ChannelTold) → (left_of r x n next t).told ≡ t
unfolding left_of
left_told r x n next t = at (eqb t.answer 0) (eqb t.answer 12)
  where
    at : (u v : Bool) → (pick u (stored_of x n next t) (pick v (stored_of x n next t) (kept_of r x n t))).told ≡ t
    at true v = refl
    at false true = refl
    at false false = refl

judged_13 : (r : Row) (x : Index) (n : Turn) (a : Answered) → eqb a.told.answer 13 ≡ false → eqb (pick (not (sound_of (book_in r.words))) (refused_of r x n 13) a).told.answer 13 ≡ not (sound_of (book_in r.words))
judged_13 r x n a f = at (sound_of (book_in r.words))
  where
    at : (u : Bool) → eqb (pick (not u) (refused_of r x n 13) a).told.answer 13 ≡ not u
    at true = f
    at false = refl

served_13 : (r : Row) (x : Index) (n : Turn) (call : ChannelCall) → eqb (served_of r x n call).told.answer 13 ≡ not (sound_of (book_in r.words))
unfolding served_of closed_of telling_of
served_13 r x n call = at (eqb call.code 1) (eqb call.code 2) (eqb call.code 3) (eqb call.code 4) (eqb call.code 5) (eqb call.code 6) (eqb call.code 7)
  where
    b : Book
    b = book_in r.words

    said : (form : Paper → Paper) → ((p : Paper) → (form p).number ≡ p.number) → (c : ledger.Call) → eqb (said_of form r x n c).told.answer 13 ≡ not (sound_of (book_in r.words))
    said form f c = ap (λ (t : ChannelTold). eqb t.answer 13) (left_told r x n _ _) ∙ ap (λ (m : ℕ). eqb m 13) (f _) ∙ said_13 (book_in r.words) c

    tells : eqb (telling_of r x n).told.answer 13 ≡ not (sound_of (book_in r.words))
    tells = judged_13 r x n (kept_of r x n (told_as (answer 0 (told_of (book_in r.words))))) refl

    at : (c1 c2 c3 c4 c5 c6 c7 : Bool) → eqb (pick c1 (closed_of r x n)
        (pick c2 (said_of plain r x n (ledger.Tick b.channel call.number))
        (pick c3 (said_of plain r x n (ledger.Announce b.channel call.number))
        (pick c4 (requested_of r x n)
        (pick c5 (said_of (retold settled_row) r x n (ledger.Reply b.channel call.number (status_in call.second)))
        (pick c6 (said_of plain r x n (ledger.Ask (ledger.Between b.channel call.number call.second)))
        (pick c7 (said_of plain r x n ledger.Renew)
        (telling_of r x n)))))))).told.answer 13 ≡ not (sound_of (book_in r.words))
    at true c2 c3 c4 c5 c6 c7 = judged_13 r x n (record { index = closed_at x n.at; name = 0; row = blank; told = told_as (refusal 0) }) refl
    at false true c3 c4 c5 c6 c7 = said plain (λ p. refl) (ledger.Tick b.channel call.number)
    at false false true c4 c5 c6 c7 = said plain (λ p. refl) (ledger.Announce b.channel call.number)
    at false false false true c5 c6 c7 = said (named_paper b.channel) (λ p. refl) (ledger.Request b.channel)
    at false false false false true c6 c7 = said (retold settled_row) (λ p. refl) (ledger.Reply b.channel call.number (status_in call.second))
    at false false false false false true c7 = said plain (λ p. refl) (ledger.Ask (ledger.Between b.channel call.number call.second))
    at false false false false false false true = said plain (λ p. refl) ledger.Renew
    at false false false false false false false = tells

-- whether the call looks at a row: an opening where the place is open, any other where it has one
abbrev looks_here : Index → ℕ → ℕ → Bool
looks_here x code at = pick (eqb code 0) (open_at x.used at) (not (leb 32 at))

answered_13 : (r : Row) (x : Index) (n : Turn) (call : ChannelCall) → index_sound x && n.once ≡ true
    → eqb (answered_of r x n call).told.answer 13 ≡ pick (looks_here x call.code n.at) (not (row_fits (book_in r.words) x n && sound_of (book_in r.words))) false
unfolding answered_of opened_of taken_of
answered_13 r x n call e = rw e (at (eqb call.code 0))
  where
    b : Book
    b = book_in r.words

    opened : (u v w : Bool) → eqb (pick u (pick (not v) (refused_of r x n 13) (pick w (refused_of r x n 10) (refused_of r x n 22)))
        (pick w (refused_of r x n 10) (pick (leb 32 n.at) (refused_of r x n 21)
        (record { index = opened_at x n.at; name = call.channel; row = row_of (fresh call.channel); told = told_as (refusal 0) })))).told.answer 13 ≡ pick u (not v) false
    opened true true true = refl
    opened true true false = refl
    opened true false w = refl
    opened false v true = refl
    opened false v false = free_13 (leb 32 n.at)
      where
        free_13 : (z : Bool) → eqb (pick z (refused_of r x n 21)
            (record { index = opened_at x n.at; name = call.channel; row = row_of (fresh call.channel); told = told_as (refusal 0) })).told.answer 13 ≡ false
        free_13 true = refl
        free_13 false = refl

    none_13 : (u v : Bool) → eqb (pick u 15 (pick v 0 18)) 13 ≡ false
    none_13 true v = refl
    none_13 false true = refl
    none_13 false false = refl

    rest : (l f : Bool) → eqb (pick l (refused_of r x n (none_there call.code)) (pick (not f) (refused_of r x n 13) (served_of r x n call))).told.answer 13
        ≡ pick (not l) (not (f && sound_of (book_in r.words))) false
    rest true f = none_13 (eqb call.code 4) (eqb call.code 7)
    rest false true = served_13 r x n call
    rest false false = refl

    at : (c : Bool) → eqb (pick c (opened_of r x n call.channel)
        (pick (leb 32 n.at) (refused_of r x n (none_there call.code))
        (pick (not (row_fits (book_in r.words) x n)) (refused_of r x n 13) (served_of r x n call)))).told.answer 13
        ≡ pick (pick c (open_at x.used n.at) (not (leb 32 n.at))) (not (row_fits (book_in r.words) x n && sound_of (book_in r.words))) false
    at true = opened (open_at x.used n.at) (row_fits (book_in r.words) x n && sound_of (book_in r.words)) (ltb 9999 call.channel)
    at false = rest (leb 32 n.at) (row_fits (book_in r.words) x n)

-- ======== Which row a call looks at

-- a call by its code: an opening, a request, a new session, or another call on the channel named
data Coded (call : ChannelCall) : Type 0 where
  is_opening : call.code ≡ 0 → call_of call ≡ Open call.channel → Coded call
  is_request : call.code ≡ 4 → call_of call ≡ Request → Coded call
  is_renewal_lem : call.code ≡ 7 → call_of call ≡ Renew → Coded call
  is_other : eqb call.code 0 ≡ false → eqb call.code 4 ≡ false → eqb call.code 7 ≡ false → Speaks (call_of call) call.channel → Coded call

coded : (call : ChannelCall) → Coded call
coded call =
    ⊎_elim (λ z. is_opening z (rw z)) (λ n0.
    ⊎_elim (λ z. is_request z (rw z)) (λ n4.
    ⊎_elim (λ z. is_renewal_lem z (rw z)) (λ n7.
    is_other (ne_eqb _ 0 n0) (ne_eqb _ 4 n4) (ne_eqb _ 7 n7) (rw (ne_eqb _ 0 n0, ne_eqb _ 4 n4, ne_eqb _ 7 n7) (speaks (eqb call.code 1) (eqb call.code 2) (eqb call.code 3) (eqb call.code 5) (eqb call.code 6))))
    (same call.code 7)) (same call.code 4)) (same call.code 0)
  where
    speaks : (c1 c2 c3 c5 c6 : Bool) → Speaks (pick c1 (Close call.channel) (pick c2 (To call.channel (Tick call.number)) (pick c3 (To call.channel (Announce call.number))
        (pick c5 (To call.channel (Reply call.number (status_in call.second))) (pick c6 (To call.channel (Between call.number call.second)) (Told call.channel)))))) call.channel
    speaks true c2 c3 c5 c6 = refl
    speaks false true c3 c5 c6 = refl
    speaks false false true c5 c6 = refl
    speaks false false false true c6 = refl
    speaks false false false false true = refl
    speaks false false false false false = refl

speaks_one : (c : Call) {a b : ℕ} → Speaks c a → Speaks c b → a ≡ b
speaks_one (Open c) e f = sym e ∙ f
speaks_one (Close c) e f = sym e ∙ f
speaks_one Request e f = absurd e
speaks_one (To c said) e f = sym e ∙ f
speaks_one (Told c) e f = sym e ∙ f
speaks_one Renew e f = absurd e

speaks_none : (c : Call) (a : ℕ) → Speaks c a → NamesNone c → ⊥
speaks_none (Open c) a e f = f
speaks_none (Close c) a e f = f
speaks_none Request a e f = e
speaks_none (To c said) a e f = f
speaks_none (Told c) a e f = f
speaks_none Renew a e f = e

abbrev is_renewal : Call → Bool
is_renewal (Open c) = false
is_renewal (Close c) = false
is_renewal Request = false
is_renewal (To c said) = false
is_renewal (Told c) = false
is_renewal Renew = true

-- where the call names a channel, no second place has it
once_named : (x : Channels) (call : ChannelCall) → once_of x.index x.names.channels call ≡ true → {channel : ℕ} → Speaks (call_of call) channel
    → (call.channel ≡ channel) × (once_in x.names.channels x.index.used call.channel ≡ true)
unfolding once_of
once_named x call o {channel} sp = at (coded call)
  where
    at : Coded call → (call.channel ≡ channel) × (once_in x.names.channels x.index.used call.channel ≡ true)
    at (is_opening z c) = (subst (λ (k : Call). Speaks k channel) c sp, rw z at o)
    at (is_request z c) = absurd (subst (λ (k : Call). Speaks k channel) c sp)
    at (is_renewal_lem z c) = absurd (subst (λ (k : Call). Speaks k channel) c sp)
    at (is_other n0 n4 n7 c) = (speaks_one (call_of call) c sp, rw (n4, n7) at o)

below : (n : ℕ) → not (leb 32 n) ≡ true → n < 32
below n e = ⊎_elim (λ l. l) (λ l. absurd (clash e (ap not (le-leb 32 n l)))) (less n 32)

module _ (x : Channels) (call : ChannelCall) (rules : IndexRules x.index) (o : once_of x.index x.names.channels call ≡ true) where
  abbrev index : Index
  index = x.index

  abbrev at : ℕ
  at = turn_by x call

  -- the turn, where no request is pending
  turn_steps : steps_in index.lacking index.last < 32 → turn_in index ≡ (index.last + 1 + steps_in index.lacking index.last) % 32
  unfolding turn_in
  turn_steps l = rw (lt-leb _ _ (lacking_low index rules), lt-leb _ _ rules.last_in, lt-leb _ _ l)

  turn_none : 32 ≤ steps_in index.lacking index.last → turn_in index ≡ 32
  unfolding turn_in
  turn_none l = rw (lt-leb _ _ (lacking_low index rules), lt-leb _ _ rules.last_in, le-leb _ _ l)

  -- ---- the place that it turns to is one that it looks at

  named_there : place_in x.names.channels index.used call.channel < 32 → Speaks (call_of call) call.channel → LooksAt x (call_of call) (place_in x.names.channels index.used call.channel)
  unfolding place_in
  named_there l sp =
      let f = of_so x call.channel _ (least_is (so x call.channel) 32 l).is_so in
      at_channel sp l f.0 f.1

  looks_at : looks_here index call.code at ≡ true → LooksAt x (call_of call) at
  unfolding turn_of asked_or_turn free_in steps_in
  looks_at y = by (coded call)
    where
      free_used : open_at index.used (free_in index.used) ≡ true → ⊥
      free_used e =
          let p = both _ _ e in
          clash p.1 (not_of _ (least_is (λ i. not (is_set index.used i)) 32 (ltb-true _ _ p.0)).is_so)
        where
          not_of : (u : Bool) → not u ≡ true → u ≡ false
          not_of true z = absurd (clash z refl)
          not_of false z = refl

      by : Coded call → LooksAt x (call_of call) at
      by (is_opening z c) =
          let own : ℕ = place_in x.names.channels index.used call.channel in
          let e : at ≡ pick (leb 32 own) (free_in index.used) own = rw z in
          ⊎_elim
          (λ l. subst (LooksAt x (call_of call)) (sym (e ∙ ap (λ (u : Bool). pick u (free_in index.used) own) (lt-leb _ _ l))) (named_there l (subst (λ (k : Call). Speaks k call.channel) (sym c) refl)))
          (λ l. absurd (free_used (ap (open_at index.used) (sym (e ∙ ap (λ (u : Bool). pick u (free_in index.used) own) (le-leb _ _ l))) ∙ opened z)))
          (less own 32)
        where
          opened : call.code ≡ 0 → open_at index.used at ≡ true
          opened q = sym (ap (λ (n : ℕ). pick (eqb n 0) (open_at index.used at) (not (leb 32 at))) q) ∙ y
      by (is_request z c) = subst (λ (k : Call). LooksAt x k at) (sym c) (asked_now rules.asked_open)
        where
          low : at < 32
          low = below at (sym (ap (λ (n : ℕ). pick (eqb n 0) (open_at index.used at) (not (leb 32 at))) z) ∙ y)

          turned : at ≡ pick (ltb index.asked 32) index.asked (turn_in index)
          turned = rw z

          asked_now : (index.asked ≡ 32) ⊎ ((index.asked < 32) × (is_set index.used index.asked ≡ true)) → LooksAt x Request at
          asked_now (inl e) = ⊎_elim
              (λ l. (let f = least_is (λ j. is_set index.lacking ((index.last + 1 + j) % 32)) 32 l in
              subst (LooksAt x Request) (sym (to_turn ∙ turn_steps l)) (at_turn _ l e f.is_so f.lowest)))
              (λ l. absurd (high (subst (λ (n : ℕ). n < 32) (to_turn ∙ turn_none l) low)))
              (less (steps_in index.lacking index.last) 32)
            where
              high : 32 < 32 → ⊥
              high q = omega arith

              to_turn : at ≡ turn_in index
              to_turn = turned ∙ ap (λ (u : Bool). pick u index.asked (turn_in index)) (ap (λ (n : ℕ). ltb n 32) e)
          asked_now (inr p) = subst (LooksAt x Request) (sym (turned ∙ ap (λ (u : Bool). pick u index.asked (turn_in index)) (lt-ltb _ _ p.0))) (at_asked tt p.0)
      by (is_renewal_lem z c) = subst (λ (k : Call). LooksAt x k at) (sym c) (subst (LooksAt x Renew) (sym is_asked) (at_asked tt asked_low))
        where
          low : at < 32
          low = below at (sym (ap (λ (n : ℕ). pick (eqb n 0) (open_at index.used at) (not (leb 32 at))) z) ∙ y)

          turned : at ≡ min index.asked 32
          turned = rw z

          asked_low : index.asked < 32
          asked_low = omega (arith, turned, low)

          is_asked : at ≡ index.asked
          is_asked = omega (arith, turned, low)
      by (is_other n0 n4 n7 c) =
          let e : at ≡ place_in x.names.channels index.used call.channel = rw (n4, n7, n0) in
          subst (LooksAt x (call_of call)) (sym e) (named_there (subst (λ (n : ℕ). n < 32) e (below at (sym (ap (λ (u : Bool). pick u (open_at index.used at) (not (leb 32 at))) n0) ∙ y))) c)

  -- ---- and a place that it looks at is the one that it turns to

  looks_other : (i : ℕ) → i < 32 → (call.code ≡ 4) ⊎ (call.code ≡ 7) → looks_here index call.code i ≡ true
  looks_other i l (inl z) = rw (z, lt-leb _ _ l)
  looks_other i l (inr z) = rw (z, lt-leb _ _ l)

  turns_to : (c : Call) → call_of call ≡ c → (i : ℕ) → LooksAt x c i → (at ≡ i) × (looks_here index call.code i ≡ true)
  unfolding turn_of asked_or_turn steps_in
  turns_to c e i (at_channel {channel = channel} sp l u n) =
      let q = once_named x call o (subst (λ (k : Call). Speaks k channel) (sym e) sp) in
      by (own_is x call.channel q.1 i l (so_of x call.channel i u (n ∙ sym q.0))) (coded call)
    where
      own : ℕ
      own = place_in x.names.channels index.used call.channel

      by : own ≡ i → Coded call → (at ≡ i) × (looks_here index call.code i ≡ true)
      by p (is_opening z k) =
          let t : at ≡ pick (leb 32 own) (free_in index.used) own = rw z in
          (t ∙ ap (λ (m : ℕ). pick (leb 32 m) (free_in index.used) m) p ∙ ap (λ (w : Bool). pick w (free_in index.used) i) (lt-leb _ _ l), rw (z, lt-ltb _ _ l, u))
      by p (is_request z k) = absurd (subst (λ (a : Call). Speaks a channel) (sym e ∙ k) sp)
      by p (is_renewal_lem z k) = absurd (subst (λ (a : Call). Speaks a channel) (sym e ∙ k) sp)
      by p (is_other n0 n4 n7 k) = (let t : at ≡ own = rw (n4, n7, n0) in (t ∙ p, rw (n0, lt-leb _ _ l)))
  turns_to c e i (at_asked nn l) = by (coded call)
    where
      by : Coded call → (at ≡ index.asked) × (looks_here index call.code index.asked ≡ true)
      by (is_opening z k) = absurd (subst NamesNone (sym e ∙ k) nn)
      by (is_request z k) = (let t : at ≡ pick (ltb index.asked 32) index.asked (turn_in index) = rw z in
          (t ∙ ap (λ (w : Bool). pick w index.asked (turn_in index)) (lt-ltb _ _ l), looks_other index.asked l (inl z)))
      by (is_renewal_lem z k) = (let t : at ≡ min index.asked 32 = rw z in (t ∙ low l, looks_other index.asked l (inr z)))
        where
          low : {n : ℕ} → n < 32 → min n 32 ≡ n
          low g = omega arith
      by (is_other n0 n4 n7 k) = absurd (speaks_none (call_of call) call.channel k (subst NamesNone (sym e) nn))
  turns_to c e i (at_turn k l a y before) = by (coded call)
    where
      steps : steps_in index.lacking index.last ≡ k
      steps = least_at (λ j. is_set index.lacking ((index.last + 1 + j) % 32)) 32 k l y before

      there : turn_in index ≡ (index.last + 1 + k) % 32
      there = turn_steps (subst (λ (n : ℕ). n < 32) (sym steps) l) ∙ ap (λ (n : ℕ). (index.last + 1 + n) % 32) steps

      by : Coded call → (at ≡ (index.last + 1 + k) % 32) × (looks_here index call.code ((index.last + 1 + k) % 32) ≡ true)
      by (is_opening z q) = absurd (subst NamesNone (sym e ∙ q) tt)
      by (is_request z q) = (let t : at ≡ pick (ltb index.asked 32) index.asked (turn_in index) = rw z in
          (t ∙ ap (λ (w : Bool). pick w index.asked (turn_in index)) (ap (λ (n : ℕ). ltb n 32) a) ∙ there, looks_other ((index.last + 1 + k) % 32) (mod-lt (index.last + 1 + k) (omega arith)) (inl z)))
      by (is_renewal_lem z q) = absurd (clash {b = is_renewal (call_of call)} (ap is_renewal q) (ap is_renewal e))
      by (is_other n0 n4 n7 q) = absurd (speaks_none (call_of call) call.channel q (subst NamesNone (sym e) tt))

-- ======== 13, both ways

abbrev once_at : Channels → ChannelCall → Bool
once_at x call = once_of x.index x.names.channels call

abbrev good_at : Channels → ChannelCall → ℕ → Bool
good_at x call i = row_fits (book_at x i) x.index (turned_at x.names.channels i (once_at x call)) && sound_of (book_at x i)

-- an index that breaks its rules, or a channel named twice
index_13 : (x : Channels) (call : ChannelCall) → index_sound x.index && once_at x call ≡ false → (answered_by x call).told.answer ≡ 13
unfolding answered_of
index_13 x call e = rw e

row_13 : (x : Channels) (call : ChannelCall) → index_sound x.index && once_at x call ≡ true
    → eqb (answered_by x call).told.answer 13 ≡ pick (looks_here x.index call.code (turn_by x call)) (not (good_at x call (turn_by x call))) false
row_13 x call e = answered_13 (row_at x (turn_by x call)) x.index (turned_at x.names.channels (turn_by x call) (once_at x call)) call e

named_twice : (x : Channels) (call : ChannelCall) → once_at x call ≡ false → Unsound x (call_of call)
unfolding once_of
named_twice x call n = at (coded call)
  where
    by_test : Speaks (call_of call) call.channel → once_in x.names.channels x.index.used call.channel ≡ false → Unsound x (call_of call)
    by_test sp f = twice sp (λ r. clash (once_test x call.channel r) f)

    at : Coded call → Unsound x (call_of call)
    at (is_opening z c) = by_test (subst (λ (k : Call). Speaks k call.channel) (sym c) refl) (rw z at n)
    at (is_request z c) = absurd (clash (rw z) n)
    at (is_renewal_lem z c) = absurd (clash (rw z) n)
    at (is_other n0 n4 n7 c) = by_test c (rw (n4, n7) at n)

to_unsound : (x : Channels) (call : ChannelCall) → (answered_by x call).told.answer ≡ 13 → Unsound x (call_of call)
to_unsound x call e = ⊎_elim
    (λ i. ⊎_elim (λ o. there i o (two (looks_here x.index call.code (turn_by x call))) (two (good_at x call (turn_by x call)))) (λ o. named_twice x call o) (two (once_at x call)))
    (λ i. bad_index (λ r. clash (index_test x.index r) i)) (two (index_sound x.index))
  where
    there : index_sound x.index ≡ true → once_at x call ≡ true → (looks_here x.index call.code (turn_by x call) ≡ true) ⊎ (looks_here x.index call.code (turn_by x call) ≡ false)
        → (good_at x call (turn_by x call) ≡ true) ⊎ (good_at x call (turn_by x call) ≡ false) → Unsound x (call_of call)
    there i o (inl l) (inr g) = bad_row (looks_at x call (index_rules x.index i) o l) (λ r. clash (row_test x (turn_by x call) (once_at x call) r) g)
    there i o (inl l) (inl g) = absurd (clash (sym (row_13 x call (ap₂ (λ (u v : Bool). u && v) i o)) ∙ eq-eqb _ _ e) (ap₂ (λ (u v : Bool). pick u (not v) false) l g))
    there i o (inr l) g = absurd (clash (sym (row_13 x call (ap₂ (λ (u v : Bool). u && v) i o)) ∙ eq-eqb _ _ e) (ap (λ (u : Bool). pick u (not (good_at x call (turn_by x call))) false) l))

from_unsound : (x : Channels) (call : ChannelCall) → Unsound x (call_of call) → (answered_by x call).told.answer ≡ 13
from_unsound x call (bad_index n) = index_13 x call (ap (λ (u : Bool). u && once_at x call) (false_of _ (λ y. n (index_rules x.index y))))
from_unsound x call (twice {channel = channel} sp n) = index_13 x call (ap (λ (u : Bool). index_sound x.index && u) (false_of _ (λ y. n (named y))) ∙ and_false (index_sound x.index))
  where
    named : once_at x call ≡ true → NamedOnce x channel
    named y = let q = once_named x call y sp in subst (NamedOnce x) q.0 (once_rules x call.channel q.1)
from_unsound x call (bad_row {i = i} la n) = ⊎_elim (λ y. sound_index y (both _ _ y)) (λ f. index_13 x call f) (two (index_sound x.index && once_at x call))
  where
    sound_index : index_sound x.index && once_at x call ≡ true → (index_sound x.index ≡ true) × (once_at x call ≡ true) → (answered_by x call).told.answer ≡ 13
    sound_index y p =
        let q = turns_to x call (index_rules x.index p.0) p.1 (call_of call) refl i la in
        let g : good_at x call i ≡ false = false_of _ (λ z. n (row_rules x i (once_at x call) z)) in
        eqb-true _ _ (row_13 x call y ∙ ap (λ (m : ℕ). pick (looks_here x.index call.code m) (not (good_at x call m)) false) q.0 ∙ ap₂ (λ (u v : Bool). pick u (not v) false) q.1 g)

-- 13 is answered exactly where the index, or the row that the call looks at, breaks its rules
pub given_13 : {x next : Channels} {told : ChannelTold} (call : ChannelCall) → Serves x call told next → (told.answer ≡ 13) ↔ Unsound x (call_of call)
given_13 {x} call s =
    (λ e. to_unsound x call (sym (ap (λ (t : ChannelTold). t.answer) s.told_is) ∙ e), λ u. ap (λ (t : ChannelTold). t.answer) s.told_is ∙ from_unsound x call u)
