-- A call on a table as it is kept is that call on the table: the caller sees the call's paper, and
-- finds the next table, kept. Assumes nothing.
use mathlib.Core.Path.{◌≡◌, refl, sym, ap, ap₂, subst, ◌∙◌, fun_ext}
use mathlib.Core.Bool.{Bool, true, false, ◌&&◌, not}
use mathlib.Core.Logic.{◌⊎◌, inl, inr, ⊎_elim}
use mathlib.Core.List.{[], ◌∷◌}
use Prim.Native.Nat.{ℕ, ◌≤◌, ◌<◌, min}
use native.Mathlib.Omega.{arith}
use borrow.Author.Tests.{eq-eqb, ne_eqb, lt-ltb, le-ltb, le-leb, lt-leb, ltb-true, ltb-false}
use lib.Dec.{eqb, leb, ltb}
use lib.ListN.{get_or, set}
use Rattle.terms.specs.Cases.{clash, two, less, same}
use Rattle.terms.specs.Paper.{Paper, answer, refusal, pick}
use Rattle.tick_map.specs.Bits.{is_set}
use Rattle.ledger_spec.specs.State.{Book, StateRules, sound_of}
use Rattle.ledger_spec.specs.Calls as ledger
use Rattle.ledger_spec.specs.Calls.{is_pending, fresh}
use Rattle.ledger_spec.specs.Words.{answered}
use Rattle.ledger_spec.proofs.Answers.{renew_answer}
use Rattle.ledger_spec.proofs.Numbers.{checked_test}
use Rattle.ledger_spec.proofs.Rules.{rules_test}
use Rattle.ledger_spec.proofs.Tests.{false_of, pick_true, pick_false}
use Rattle.ledger_spec.proofs.Demand3.{nothing_pending}
use Rattle.ledger_spec.proofs.Steps.{step}
use Rattle.ledger.specs.declared.Ledger.{Ledger}
use Rattle.ledger.specs.State.{ledger_of, next_in}
use Rattle.ledger.specs.State as ledger-state
use Rattle.ledger.proofs.Seam.{book_of_lem, topped_of, next_keeps}
use Rattle.host_words.specs.Words.{ledger_in, book_in}
use Rattle.host_words.proofs.Back.{book_words}
use Rattle.channels_spec.specs.Table.{Place, free, holds, Table, put, misses, waits, place_of, free_place, pending_place, steps, turn, is_open, book_of, TableRules}
use Rattle.channels_spec.specs.Table as table
use Rattle.channels_spec.specs.Calls.{Call, Open, Close, Request, To, Told, Renew, Said, Tick, Announce, Reply, Between, called, told_of, opening_number, request_number, asked, granted, renewed_place, renewed, answer_to, next_of}
use Rattle.channels_spec.proofs.Places.{Here, open_here, put_here, put_else, rules_last}
use Rattle.channels_spec.proofs.Views.{Opening, fine_0, wide_10, twice_22, full_21, opening, free_there, none_waits, turn_at}
use Rattle.channels_spec.proofs.Rules.{rules_kept, renewed_rules}
use Rattle.channels_spec.proofs.Given.{refused_keeps, new_session}
use Rattle.channels.specs.declared.Channels.{Channels}
use Rattle.channels.specs.declared.Index.{Index}
use Rattle.channels.specs.declared.Row.{Row}
use Rattle.channels.specs.declared.Turn.{Turn}
use Rattle.channels.specs.declared.ChannelCall.{ChannelCall}
use Rattle.channels.specs.declared.ChannelTold.{ChannelTold}
use Rattle.channels.specs.declared.Answered.{Answered}
use Rattle.channels.specs.Index.{place_in, turn_in, open_at}
use Rattle.channels.specs.Turn.{asked_or_turn, opening_turn, turn_of, turned_at}
use Rattle.channels.specs.Told.{told_as, named_paper, index_at}
use Rattle.channels.specs.Answered.{row_of, blank, row_fits, kept_of, refused_of, stored_of, left_of, plain, said_of, status_in, opened_at, closed_at, last_at, moved_of, taken_of, opened_of, closed_of, requested_of, telling_of, served_of, answered_of}
use Rattle.channels.proofs.Keeps.{set_same}
use Rattle.channels.specs.Serves.{row_at, no_row, turn_by, answered_by, stored_at, served_by}
use Rattle.channels_seam.specs.Kept.{FreeAt, HeldAt, PlaceAt, Kept, call_of, seen}
use Rattle.channels_seam.proofs.Bits.{with_here, with_else, with_lt}
use Rattle.channels_seam.proofs.Turns.{place_is, free_is, pending_low, index_sound_lem, once_is, turn_is, no_turn, held_at, row_book, row_fits_lem}
use Rattle.channels_seam.proofs.Puts.{waits_at, pending_put, row_here, name_here, kept_put}
use Rattle.channels_seam.proofs.Sees.{form_of, form_number, sees_unopened, sees_said, sees_request, sees_told}

-- what a call comes to
pub record Done (x : Channels) (t : Table) (call : ChannelCall) : Type 0 where
  pub seen_is : seen (call_of call) (answered_by x call).told ≡ answer_to t (call_of call)
  pub kept : Kept (served_by x call) (next_of t (call_of call))

module _ (x : Channels) (t : Table) (k : Kept x t) (call : ChannelCall) where
  abbrev index : Index
  index = x.index

  abbrev turned : ℕ → Turn
  turned at = turned_at x.names.channels at true

  -- what is put back as it was
  unchanged : (at : ℕ) (told : ChannelTold) → stored_at x at (kept_of (row_at x at) index (turned at) told) ≡ x
  unchanged at told = λ i. record { names = record { channels = set_same x.names.channels at 0 i }; index = index; rows = set_same x.rows at no_row i }

  -- from where it turned to, and what came of it
  finish : (at : ℕ) (a : Answered) (c : Call) → turn_by x call ≡ at → answered_of (row_at x at) index (turned at) call ≡ a → call_of call ≡ c
      → seen c a.told ≡ answer_to t c → Kept (stored_at x at a) (next_of t c) → Done x t call
  finish at a c e f g told kept =
      let all : answered_by x call ≡ a = ap₂ (λ (n : ℕ) (o : Bool). answered_of (row_at x n) index (turned_at x.names.channels n o) call) e (once_is x t k call) ∙ f in
      record {
        seen_is = ap₂ (λ (z : Call) (y : Answered). seen z y.told) g all ∙ told ∙ ap (answer_to t) (sym g);
        kept = subst (λ (z : Channels). Kept z (next_of t (call_of call))) (λ i. stored_at x (sym e i) (sym all i))
            (subst (λ (z : Call). Kept (stored_at x at a) (next_of t z)) (sym g) kept);
      }

  -- index, name and row stay, and so does the table
  stays : (at : ℕ) (told : ChannelTold) (c : Call) → turn_by x call ≡ at → answered_of (row_at x at) index (turned at) call ≡ kept_of (row_at x at) index (turned at) told
      → call_of call ≡ c → seen c told ≡ answer_to t c → next_of t c ≡ t → Done x t call
  stays at told c e f g sees same_table =
      finish at (kept_of (row_at x at) index (turned at) told) c e f g sees
      (subst (Kept (stored_at x at (kept_of (row_at x at) index (turned at) told))) (sym same_table) (subst (λ (z : Channels). Kept z t) (sym (unchanged at told)) k))

  -- a ledger at a place comes to its next state; the place last asked may move
  came_to : (at : ℕ) (b b' : Book) (n : ℕ) → at < 32 → t.place at ≡ holds b → b'.channel ≡ b.channel
      → TableRules (record { place = (put t at (holds b')).place; last = n }) → TableRules (put t at (holds b'))
      → Kept (record {
        names = record { channels = set x.names.channels at (get_or x.names.channels at 0) };
        index = record { used = index.used; lacking = (index_at index at b').lacking; asked = (index_at index at b').asked; last = n };
        rows = set x.rows at (row_of b');
      }) (record { place = (put t at (holds b')).place; last = n })
  unfolding index_at pending_place
  came_to at b b' n l e c r r₀ =
      let a : HeldAt x at b = held_at x t k at b l e in
      kept_put x t k at l (holds b') n _ (get_or x.names.channels at 0) (row_of b') r k.used_low (with_lt (misses (holds b')) index.lacking at k.lacking_low l) refl
      (ap (λ (q : ℕ). pick (is_pending b'.pending) at (pick (eqb q at) 32 q)) k.asked_is ∙ pending_put t at (holds b') k.rules r₀ l)
      (λ j g z. refl) (λ j g z. with_else (misses (holds b')) index.lacking at j (omega arith) (omega arith) z)
      (record {
        used_is = a.used_is;
        lacks_is = with_here (misses (holds b')) index.lacking at (omega arith);
        name_is = name_here x t k at l (holds b') n index (get_or x.names.channels at 0) (row_of b') ∙ a.name_is ∙ sym c;
        row_is = row_here x t k at l (holds b') n index (get_or x.names.channels at 0) (row_of b');
      })

  -- ======== What is said to the ledger at a place

  module _ (at : ℕ) (b : Book) (l : at < 32) (e : t.place at ≡ holds b) where
    sound : StateRules b
    sound = k.rules.sound at b e

    row_ledger : ledger_in (row_at x at).words ≡ ledger_of b
    row_ledger = ap (λ (r : Row). ledger_in r.words) (held_at x t k at b l e).row_is ∙ book_words b sound

    -- the call, and how it is told, by the row's channel
    said_left : (form : ℕ → Paper → Paper) (asks : ℕ → ledger.Call)
        → said_of (form (book_in (row_at x at).words).channel) (row_at x at) index (turned at) (asks (book_in (row_at x at).words).channel)
        ≡ left_of (row_at x at) index (turned at) (ledger_of (ledger.next_of b (asks b.channel))) (told_as (form b.channel (ledger.answer_to b (asks b.channel))))
    said_left form asks =
        ap (λ (m : Ledger). left_of (row_at x at) index (turned at) (next_in m (asks (ledger-state.book_of m).channel)) (told_as (form (ledger-state.book_of m).channel (ledger.answer_to (ledger-state.book_of m) (asks (ledger-state.book_of m).channel))))) row_ledger
        ∙ ap (λ (q : Book). left_of (row_at x at) index (turned at) (next_in (ledger_of b) (asks q.channel)) (told_as (form q.channel (ledger.answer_to q (asks q.channel))))) back
        ∙ ap (λ (m : Ledger). left_of (row_at x at) index (turned at) m (told_as (form b.channel (ledger.answer_to b (asks b.channel))))) (next_keeps ledger-state.book_of ledger_of b back (topped_of b) (asks b.channel))
      where
        back : ledger-state.book_of (ledger_of b) ≡ b
        back = book_of_lem b sound.places

    -- what is stored beside 0 or 12
    stored_is : (b' : Book) (told : ChannelTold) → StateRules b' → stored_of index (turned at) (ledger_of b') told ≡ record { index = index_at index at b'; name = get_or x.names.channels at 0; row = row_of b'; told = told }
    stored_is b' told r = ap (λ (q : Book). record { index = index_at index at q; name = get_or x.names.channels at 0; row = row_of b'; told = told }) (book_of_lem b' r.places)

    left_stored : (b' : Book) (told : ChannelTold) → StateRules b' → (told.answer ≡ 0) ⊎ (told.answer ≡ 12)
        → left_of (row_at x at) index (turned at) (ledger_of b') told ≡ record { index = index_at index at b'; name = get_or x.names.channels at 0; row = row_of b'; told = told }
    unfolding left_of
    left_stored b' told r (inl z) = pick_true (eqb told.answer 0) _ _ (eq-eqb _ _ z) ∙ stored_is b' told r
    left_stored b' told r (inr z) =
        pick_false (eqb told.answer 0) _ _ (ap (λ (n : ℕ). eqb n 0) z) ∙ pick_true (eqb told.answer 12) _ _ (eq-eqb _ _ z) ∙ stored_is b' told r

    left_kept : (m : Ledger) (told : ChannelTold) → (told.answer ≡ 0 → ⊥) → (told.answer ≡ 12 → ⊥) → left_of (row_at x at) index (turned at) m told ≡ kept_of (row_at x at) index (turned at) told
    unfolding left_of
    left_kept m told z y = rw (ne_eqb _ 0 z, ne_eqb _ 12 y)

    -- the next ledger is kept, at the same turn
    next_kept : (b' : Book) (told : ChannelTold) → b'.channel ≡ b.channel → TableRules (put t at (holds b'))
        → Kept (stored_at x at (record { index = index_at index at b'; name = get_or x.names.channels at 0; row = row_of b'; told = told })) (put t at (holds b'))
    unfolding index_at
    next_kept b' told c r =
        subst (λ (n : ℕ). Kept (record {
          names = record { channels = set x.names.channels at (get_or x.names.channels at 0) };
          index = record { used = index.used; lacking = (index_at index at b').lacking; asked = (index_at index at b').asked; last = n };
          rows = set x.rows at (row_of b');
        }) (put t at (holds b'))) (sym k.last_is) (came_to at b b' t.last l e c r r)

  -- ======== A call that names its channel, and no opening

  module _ (channel : ℕ) (named : call.channel ≡ channel) (here : turn_by x call ≡ place_in x.names.channels index.used channel) (code : eqb call.code 0 ≡ false) (no-request : eqb call.code 4 ≡ false) (no-renewal : eqb call.code 7 ≡ false) where
    there : turn_by x call ≡ place_of t channel
    there = here ∙ place_is x t k channel

    -- 18
    not_open : is_open t channel ≡ false → answered_of (row_at x (place_of t channel)) index (turned (place_of t channel)) call ≡ refused_of (row_at x (place_of t channel)) index (turned (place_of t channel)) 18
    unfolding answered_of
    not_open o = rw (index_sound_lem x t k, code, le-leb _ _ (ltb-false _ _ o), no-request, no-renewal)

    is_open_holds : (h : Here t channel (place_of t channel)) → answered_of (row_at x (place_of t channel)) index (turned (place_of t channel)) call ≡ served_of (row_at x (place_of t channel)) index (turned (place_of t channel)) call
    unfolding answered_of
    is_open_holds h =
        let at = place_of t channel in
        let f : row_fits (book_in (row_at x at).words) index (turned at) ≡ true =
        ap (λ (b : Book). row_fits b index (turned at)) (row_book x t k _ h.book h.within h.is) ∙ row_fits_lem x t k _ h.book true h.within h.is in
        rw (index_sound_lem x t k, code, lt-leb _ _ h.within, f)

    -- a tick, an announcement, a reply, a question
    said : (s : Said) → call_of call ≡ To channel s
        → ((r : Row) (n : Turn) → served_of r index n call ≡ said_of (form_of s) r index n (called (book_in r.words).channel s)) → Done x t call
    unfolding answer_to next_of
    said s g f = ⊎_elim (λ o. opened o (open_here t channel o)) (λ o. stays _ _ (To channel s) there (not_open o) g (sees_unopened channel s ∙ sym (rw o)) (rw o)) (two (is_open t channel))
      where
        opened : is_open t channel ≡ true → Here t channel (place_of t channel) → Done x t call
        opened o h = by_number (same (ledger.answer_to b c).number 0) (same (ledger.answer_to b c).number 12)
          where
            at : ℕ
            at = place_of t channel

            b : Book
            b = h.book

            c : ledger.Call
            c = called channel s

            told : ChannelTold
            told = told_as (form_of s (ledger.answer_to b c))

            b_is : book_of t channel ≡ b
            b_is = ap table.book_in h.is

            -- what the table answers, and the table after it
            paper : answer_to t (To channel s) ≡ ledger.answer_to b c
            paper = rw o (ap (λ (q : Book). ledger.answer_to q c) b_is)

            after : next_of t (To channel s) ≡ put t at (holds (ledger.next_of b c))
            after = rw o (ap (λ (q : Book). put t at (holds (ledger.next_of q c))) b_is)

            left : answered_of (row_at x at) index (turned at) call ≡ left_of (row_at x at) index (turned at) (ledger_of (ledger.next_of b c)) told
            left =
                is_open_holds h ∙ f (row_at x at) (turned at) ∙ said_left at b h.within h.is (λ n. form_of s) (λ n. called n s)
                ∙ ap (λ (n : ℕ). left_of (row_at x at) index (turned at) (ledger_of (ledger.next_of b (called n s))) (told_as (form_of s (ledger.answer_to b (called n s))))) h.own

            sees : seen (To channel s) told ≡ answer_to t (To channel s)
            sees = sees_said b channel s (sound at b h.within h.is) ∙ sym paper

            stores : (told.answer ≡ 0) ⊎ (told.answer ≡ 12) → Done x t call
            stores z =
                let st = step b c (sound at b h.within h.is) in
                finish at _ (To channel s) there (left ∙ left_stored at b h.within h.is (ledger.next_of b c) told st.rules z) g sees
                (subst (Kept _) (sym after) (next_kept at b h.within h.is (ledger.next_of b c) told st.channel_same (subst TableRules after (rules_kept t (To channel s) k.rules))))

            by_number : ((ledger.answer_to b c).number ≡ 0) ⊎ ((ledger.answer_to b c).number ≡ 0 → ⊥) → ((ledger.answer_to b c).number ≡ 12) ⊎ ((ledger.answer_to b c).number ≡ 12 → ⊥) → Done x t call
            by_number (inl z) y = stores (inl (form_number s _ ∙ z))
            by_number (inr z) (inl y) = stores (inr (form_number s _ ∙ y))
            by_number (inr z) (inr y) =
                stays at told (To channel s) there (left ∙ left_kept at b h.within h.is _ told (λ q. z (sym (form_number s _) ∙ q)) (λ q. y (sym (form_number s _) ∙ q))) g sees
                ((refused_keeps t (To channel s)).same (ap (λ (p : Paper). answered p 0) paper ∙ ne_eqb _ 0 z) (ap (λ (p : Paper). answered p 12) paper ∙ ne_eqb _ 12 y))

    sound_there : (h : Here t channel (place_of t channel)) → sound_of (book_in (row_at x (place_of t channel)).words) ≡ true
    sound_there h = ap sound_of (row_book x t k _ h.book h.within h.is) ∙ rules_test h.book (k.rules.sound _ h.book h.is)

    -- closing
    closes : call_of call ≡ Close channel → ((r : Row) (n : Turn) → served_of r index n call ≡ closed_of r index n) → Done x t call
    unfolding answer_to next_of closed_at pending_place closed_of seen
    closes g f = ⊎_elim (λ o. opened o (open_here t channel o)) (λ o. stays _ _ (Close channel) there (not_open o) g (sym (rw o)) (rw o)) (two (is_open t channel))
      where
        opened : is_open t channel ≡ true → Here t channel (place_of t channel) → Done x t call
        opened o h =
            let at = place_of t channel in
            let l = h.within in
            let r = rw o at (rules_kept t (Close channel) k.rules) in
            finish at (record { index = closed_at index at; name = 0; row = blank; told = told_as (refusal 0) }) (Close channel) there (is_open_holds h ∙ f (row_at x at) (turned at) ∙ rw (sound_there h)) g (sym (rw o))
            (rw o (kept_put x t k at l free t.last (closed_at index at) 0 blank r
            (with_lt false index.used at k.used_low l) (with_lt false index.lacking at k.lacking_low l) k.last_is
            (ap (λ (q : ℕ). pick (eqb q at) 32 q) k.asked_is ∙ pending_put t at free k.rules r l)
            (λ j q z. with_else false index.used at j (omega arith) (omega arith) z) (λ j q z. with_else false index.lacking at j (omega arith) (omega arith) z)
            (record {
              unused = with_here false index.used at (omega arith);
              whole = with_here false index.lacking at (omega arith);
              name_is = name_here x t k at l free t.last (closed_at index at) 0 blank;
              row_is = row_here x t k at l free t.last (closed_at index at) 0 blank;
            })))

    -- what a channel has to tell
    tells : call_of call ≡ Told channel → ((r : Row) (n : Turn) → served_of r index n call ≡ telling_of r index n) → Done x t call
    unfolding answer_to next_of telling_of seen
    tells g f = ⊎_elim (λ o. opened o (open_here t channel o)) (λ o. stays _ _ (Told channel) there (not_open o) g (sym (rw o)) refl) (two (is_open t channel))
      where
        opened : is_open t channel ≡ true → Here t channel (place_of t channel) → Done x t call
        opened o h =
            let at = place_of t channel in
            let e : book_in (row_at x at).words ≡ book_of t channel = row_book x t k at h.book h.within h.is ∙ sym (ap table.book_in h.is) in
            stays at (told_as (answer 0 (told_of (book_in (row_at x at).words)))) (Told channel) there (is_open_holds h ∙ f (row_at x at) (turned at) ∙ rw (sound_there h)) g
            (sees_told channel _ ∙ ap (λ (b : Book). answer 0 (told_of b)) e ∙ sym (rw o)) refl

  -- ======== Opening

  opens : call.code ≡ 0 → Done x t call
  unfolding turn_of answer_to next_of answered_of opened_of taken_of fresh pending_place seen
  opens z = at (opening_number t channel) (opening t channel) refl
    where
      channel : ℕ
      channel = call.channel

      place : ℕ
      place = free_place t

      own : ℕ
      own = place_of t channel

      -- the channel's own place, if it is open, or else the lowest free one
      to_place : turn_by x call ≡ pick (leb 32 own) place own
      to_place =
          ap (λ (n : ℕ). pick (eqb n 4) (asked_or_turn index) (pick (eqb n 7) (min index.asked 32) (pick (eqb n 0) (opening_turn index (place_in x.names.channels index.used channel)) (place_in x.names.channels index.used channel)))) z
          ∙ ap₂ (λ (p f : ℕ). pick (leb 32 p) f p) (place_is x t k channel) (free_is x t k)

      to_own : is_open t channel ≡ true → turn_by x call ≡ own
      to_own o = to_place ∙ ap (λ (u : Bool). pick u place own) (lt-leb 32 own (ltb-true own 32 o))

      to_free : is_open t channel ≡ false → turn_by x call ≡ place
      to_free o = to_place ∙ ap (λ (u : Bool). pick u place own) (le-leb 32 own (ltb-false own 32 o))

      is_call : call_of call ≡ Open channel
      is_call = rw z

      answers : (n : ℕ) → answered_of (row_at x n) index (turned n) call ≡ opened_of (row_at x n) index (turned n) channel
      answers n = rw (index_sound_lem x t k, z)

      keeps_table : (n : ℕ) → eqb n 0 ≡ false → opening_number t channel ≡ n → pick (eqb (opening_number t channel) 0) (put t place (holds (fresh channel))) t ≡ t
      keeps_table n f e = ap (λ (m : ℕ). pick (eqb m 0) (put t place (holds (fresh channel))) t) e ∙ ap (λ (u : Bool). pick u (put t place (holds (fresh channel))) t) f

      -- an open channel: its row is looked at, then 10 or 22
      taken : (o : is_open t channel ≡ true) → opened_of (row_at x own) index (turned own) channel ≡ pick (ltb 9999 channel) (refused_of (row_at x own) index (turned own) 10) (refused_of (row_at x own) index (turned own) 22)
      taken o =
          let h = open_here t channel o in
          let a : HeldAt x own h.book = held_at x t k own h.book h.within h.is in
          let f : row_fits (book_in (row_at x own).words) index (turned own) ≡ true =
          ap (λ (b : Book). row_fits b index (turned own)) (row_book x t k _ h.book h.within h.is) ∙ row_fits_lem x t k _ h.book true h.within h.is in
          let s : sound_of (book_in (row_at x own).words) ≡ true = ap sound_of (row_book x t k _ h.book h.within h.is) ∙ rules_test h.book (k.rules.sound _ h.book h.is) in
          rw (lt-ltb _ _ h.within, a.used_is, f, s)

      -- the lowest free place is not open
      not_used : open_at index.used place ≡ false
      not_used = ⊎_elim
          (λ m. ap₂ (λ (u v : Bool). u && v) (lt-ltb _ _ m) (subst (PlaceAt x place) (free_there t m) (k.each place m)).unused)
          (λ m. ap (λ (u : Bool). u && is_set index.used place) (le-ltb _ _ m)) (less place 32)

      new : opened_of (row_at x place) index (turned place) channel
          ≡ pick (ltb 9999 channel) (refused_of (row_at x place) index (turned place) 10)
          (pick (leb 32 place) (refused_of (row_at x place) index (turned place) 21)
          (record { index = opened_at index place; name = channel; row = row_of (fresh channel); told = told_as (refusal 0) }))
      new = ap (λ (u : Bool). pick u (taken_of (row_at x place) index (turned place) channel) (pick (ltb 9999 channel) (refused_of (row_at x place) index (turned place) 10)
          (pick (leb 32 place) (refused_of (row_at x place) index (turned place) 21)
          (record { index = opened_at index place; name = channel; row = row_of (fresh channel); told = told_as (refusal 0) })))) not_used

      wide : 9999 < channel → opening_number t channel ≡ 10 → (is_open t channel ≡ true) ⊎ (is_open t channel ≡ false) → Done x t call
      wide l e (inl o) = stays own _ (Open channel) (to_own o) (answers own ∙ taken o ∙ ap (λ (u : Bool). pick u (refused_of (row_at x own) index (turned own) 10) (refused_of (row_at x own) index (turned own) 22)) (lt-ltb _ _ l)) is_call (ap refusal (sym e)) (keeps_table 10 refl e)
      wide l e (inr o) = stays place _ (Open channel) (to_free o) (answers place ∙ new ∙ pick_true (ltb 9999 channel) _ _ (lt-ltb _ _ l)) is_call (ap refusal (sym e)) (keeps_table 10 refl e)

      fresh_kept : place < 32 → TableRules (put t place (holds (fresh channel)))
          → Kept (stored_at x place (record { index = opened_at index place; name = channel; row = row_of (fresh channel); told = told_as (refusal 0) })) (put t place (holds (fresh channel)))
      fresh_kept g r =
          let was : FreeAt x place = subst (PlaceAt x place) (free_there t g) (k.each place g) in
          let apart : pending_place t ≡ place → ⊥ = λ y. clash (ap (λ (n : ℕ). waits (t.place n)) (sym y) ∙ waits_at t (subst (λ (n : ℕ). n < 32) (sym y) g)) (ap waits (free_there t g)) in
          kept_put x t k place g (holds (fresh channel)) t.last (opened_at index place) channel (row_of (fresh channel)) r
          (with_lt true index.used place k.used_low g) k.lacking_low k.last_is
          (k.asked_is ∙ sym (ap (λ (u : Bool). pick u 32 (pending_place t)) (ne_eqb _ _ apart)) ∙ pending_put t place (holds (fresh channel)) k.rules r g)
          (λ j q y. with_else true index.used place j (omega arith) (omega arith) y) (λ j q y. refl)
          (record {
            used_is = with_here true index.used place (omega arith);
            lacks_is = was.whole;
            name_is = name_here x t k place g (holds (fresh channel)) t.last index channel (row_of (fresh channel));
            row_is = row_here x t k place g (holds (fresh channel)) t.last index channel (row_of (fresh channel));
          })

      at : (n : ℕ) → Opening t channel n → opening_number t channel ≡ n → Done x t call
      at n (wide_10 l) e = wide l e (two (is_open t channel))
      at n (twice_22 l o) e =
          stays own _ (Open channel) (to_own o) (answers own ∙ taken o ∙ pick_false (ltb 9999 channel) _ _ (le-ltb _ _ l)) is_call (ap refusal (sym e)) (keeps_table 22 refl e)
      at n (full_21 l o m) e =
          stays place _ (Open channel) (to_free o) (answers place ∙ new ∙ pick_false (ltb 9999 channel) _ _ (le-ltb _ _ l) ∙ pick_true (leb 32 place) _ _ (le-leb _ _ m)) is_call (ap refusal (sym e)) (keeps_table 21 refl e)
      at n (fine_0 l o m) e =
          finish place (record { index = opened_at index place; name = channel; row = row_of (fresh channel); told = told_as (refusal 0) }) (Open channel) (to_free o)
          (answers place ∙ new ∙ pick_false (ltb 9999 channel) _ _ (le-ltb _ _ l) ∙ pick_false (leb 32 place) _ _ (lt-leb _ _ m)) is_call (ap refusal (sym e))
          (subst (λ (q : ℕ). Kept (stored_at x place (record { index = opened_at index place; name = channel; row = row_of (fresh channel); told = told_as (refusal 0) })) (pick (eqb q 0) (put t place (holds (fresh channel))) t)) (sym e)
          (fresh_kept m (subst (λ (q : ℕ). TableRules (pick (eqb q 0) (put t place (holds (fresh channel))) t)) e (rules_kept t (Open channel) k.rules))))

  -- ======== A new session

  renews : call.code ≡ 7 → Done x t call
  unfolding turn_of answer_to next_of answered_of served_of seen
  renews z = ⊎_elim (λ l. clears l (t.place place) refl (waits_at t l)) (λ l. whole l) (less place 32)
    where
      place : ℕ
      place = pending_place t

      here : turn_by x call ≡ place
      here = rw z (ap (λ (n : ℕ). min n 32) k.asked_is ∙ low (pending_low x t k))
        where
          low : {n : ℕ} → n ≤ 32 → min n 32 ≡ n
          low l = omega arith

      is_renewal_lem : call_of call ≡ Renew
      is_renewal_lem = rw z

      same_places : (u : Table) → u.last ≡ t.last → ((i : ℕ) → (renewed t).place i ≡ u.place i) → renewed t ≡ u
      same_places u e f = λ i. record { place = fun_ext f i; last = sym e i }

      -- a place with nothing pending stays as it is
      quiet_place : (i : ℕ) (p : Place) → t.place i ≡ p → waits p ≡ false → (renewed t).place i ≡ t.place i
      quiet_place i free e w = (new_session t k.rules).free_same i e ∙ sym e
      quiet_place i (holds b) e w = (new_session t k.rules).others_same i b e (nothing_pending _ w)

      whole : 32 ≤ place → Done x t call
      whole l =
          stays place (told_as (refusal 0)) Renew here (rw (index_sound_lem x t k, z, le-leb _ _ l)) is_renewal_lem refl
          (same_places t refl (λ i. quiet_place i (t.place i) refl (false_of _ (λ y. none_waits t k.rules l i y))))

      clears : place < 32 → (p : Place) → t.place place ≡ p → waits (t.place place) ≡ true → Done x t call
      clears l free e w = absurd (clash w (ap waits e))
      clears l (holds b) e w =
          let b' = ledger.next_of b ledger.Renew in
          let r = sound place b l e in
          let told = told_as (ledger.answer_to b ledger.Renew) in
          let st = step b ledger.Renew r in
          let f : row_fits (book_in (row_at x place).words) index (turned place) ≡ true =
          ap (λ (q : Book). row_fits q index (turned place)) (row_book x t k _ b l e) ∙ row_fits_lem x t k _ b true l e in
          let left : answered_of (row_at x place) index (turned place) call ≡ left_of (row_at x place) index (turned place) (ledger_of b') told =
          rw (index_sound_lem x t k, z, lt-leb _ _ l, f) (said_left place b l e (λ n. plain) (λ n. ledger.Renew)) in
          let after : renewed t ≡ put t place (holds b') = same_places (put t place (holds b')) refl (λ i. ⊎_elim
          (λ y. ap (renewed t).place y ∙ ap renewed_place e ∙ sym (put_here t place (holds b')) ∙ ap (put t place (holds b')).place (sym y))
          (λ n. quiet_place i (t.place i) refl (false_of _ (λ y. n (k.rules.one_waits i place y w))) ∙ sym (put_else t place i (holds b') n)) (same i place)) in
          finish place _ Renew here (left ∙ left_stored place b l e b' told st.rules (inl (ap (λ (p : Paper). p.number) (renew_answer b r)))) is_renewal_lem
          (ap (λ (p : Paper). answer p.number []) (renew_answer b r))
          (subst (Kept _) (sym after) (next_kept place b l e b' told st.channel_same (subst TableRules after (renewed_rules t k.rules))))

  -- ======== A request

  module _ (z : call.code ≡ 4) where
    abbrev request_of : Book → ledger.Call
    request_of b = ledger.Request b.channel

    -- at a place that holds a ledger
    asks_there : (at : ℕ) (b : Book) → at < 32 → t.place at ≡ holds b
        → answered_of (row_at x at) index (turned at) call
        ≡ moved_of (left_of (row_at x at) index (turned at) (ledger_of (ledger.next_of b (request_of b))) (told_as (named_paper b.channel (ledger.answer_to b (request_of b))))) at
    unfolding answered_of served_of
    asks_there at b l e =
        let f : row_fits (book_in (row_at x at).words) index (turned at) ≡ true = ap (λ (q : Book). row_fits q index (turned at)) (row_book x t k at b l e) ∙ row_fits_lem x t k at b true l e in
        let g : answered_of (row_at x at) index (turned at) call ≡ requested_of (row_at x at) index (turned at) = rw (index_sound_lem x t k, z, lt-leb _ _ l, f) in
        g ∙ ap (λ (a : Answered). moved_of a at) (said_left at b l e named_paper ledger.Request)

    is_request : call_of call ≡ Request
    is_request = rw z

    to_turn : turn_by x call ≡ asked_or_turn index
    unfolding turn_of
    to_turn = rw z

    -- the ledger's own number
    own_number_lem : (b : Book) → StateRules b → ledger.number_to b (request_of b) ≡ pick (is_pending b.pending) 14 (pick (eqb b.top b.floor) 15 0)
    unfolding ledger.own_number
    own_number_lem b r = checked_test b (request_of b) r (ap not (eq-eqb b.channel b.channel refl))

    -- refused: what was there is put back
    put_back : (at : ℕ) (n : ℕ) → eqb n 0 ≡ false → (told : ChannelTold) → told.answer ≡ n → moved_of (kept_of (row_at x at) index (turned at) told) at ≡ kept_of (row_at x at) index (turned at) told
    put_back at n f told e = ap (λ (m : ℕ). record { index = record { used = index.used; lacking = index.lacking; asked = index.asked; last = m }; name = get_or x.names.channels at 0; row = row_at x at; told = told })
        (ap (λ (m : ℕ). pick (eqb m 0) at index.last) e ∙ ap (λ (u : Bool). pick u at index.last) f)

    busy : pending_place t < 32 → Done x t call
    unfolding asked_or_turn answer_to next_of request_number ledger.answer_to seen
    busy l = at (t.place (pending_place t)) refl (waits_at t l)
      where
        place : ℕ
        place = pending_place t

        here : turn_by x call ≡ place
        here = to_turn ∙ ap (λ (n : ℕ). pick (ltb n 32) n (turn_in index)) k.asked_is ∙ ap (λ (u : Bool). pick u place (turn_in index)) (lt-ltb _ _ l)

        at : (p : Place) → t.place place ≡ p → waits (t.place place) ≡ true → Done x t call
        at free e w = absurd (clash w (ap waits e))
        at (holds b) e w =
            let r = sound place b l e in
            let n : ledger.number_to b (request_of b) ≡ 14 = own_number_lem b r ∙ ap (λ (u : Bool). pick u 14 (pick (eqb b.top b.floor) 15 0)) (sym (ap waits e) ∙ w) in
            let num : request_number t ≡ 14 = ap (λ (u : Bool). pick u 14 (pick (ltb (steps t) 32) (asked t).number 15)) (lt-ltb _ _ l) in
            let told : ChannelTold = told_as (named_paper b.channel (ledger.answer_to b (request_of b))) in
            stays place told Request here
            (asks_there place b l e ∙ ap (λ (a : Answered). moved_of a place) (left_kept place b l e _ told (λ q. apart14 (sym n ∙ q)) (λ q. apart14' (sym n ∙ q))) ∙ put_back place 14 refl told n) is_request
            (ap (λ (m : ℕ). answer m (pick (eqb m 0) (get_or told.values 0 0 ∷ get_or told.values 1 0 ∷ get_or told.values 2 0 ∷ []) [])) n
            ∙ sym (ap (λ (m : ℕ). answer m (pick (eqb m 0) ((table.book_in (t.place (turn t))).channel ∷ (asked t).values) [])) num))
            (ap (λ (m : ℕ). pick (eqb m 0) (granted t) t) num)
          where
            apart14 : ◌≡◌ {A = ℕ} 14 0 → ⊥
            apart14 q = omega arith

            apart14' : ◌≡◌ {A = ℕ} 14 12 → ⊥
            apart14' q = omega arith

    whole : 32 ≤ pending_place t → 32 ≤ steps t → Done x t call
    unfolding asked_or_turn answer_to next_of request_number answered_of seen
    whole l m =
        let num : request_number t ≡ 15 = simp (le-ltb _ _ l, le-ltb _ _ m) in
        let here : turn_by x call ≡ 32 = to_turn ∙ ap (λ (n : ℕ). pick (ltb n 32) n (turn_in index)) k.asked_is ∙ ap (λ (u : Bool). pick u (pending_place t) (turn_in index)) (le-ltb _ _ l) ∙ no_turn x t k m in
        stays 32 (told_as (refusal 15)) Request here (rw (index_sound_lem x t k, z)) is_request
        (sym (ap (λ (n : ℕ). answer n (pick (eqb n 0) ((table.book_in (t.place (turn t))).channel ∷ (asked t).values) [])) num)) (ap (λ (n : ℕ). pick (eqb n 0) (granted t) t) num)

    -- granted: the place is the one last asked
    moves : (at : ℕ) (b' : Book) (told : ChannelTold) → told.answer ≡ 0
        → ◌≡◌ {A = Answered} (moved_of (record { index = index_at index at b'; name = get_or x.names.channels at 0; row = row_of b'; told = told }) at)
        (record { index = record { used = index.used; lacking = (index_at index at b').lacking; asked = (index_at index at b').asked; last = at }; name = get_or x.names.channels at 0; row = row_of b'; told = told })
    unfolding index_at
    moves at b' told e = ap (λ (q : ℕ). record { index = last_at (index_at index at b') at q; name = get_or x.names.channels at 0; row = row_of b'; told = told }) e

    grants : 32 ≤ pending_place t → steps t < 32 → Done x t call
    unfolding asked_or_turn answer_to next_of request_number ledger.answer_to
    grants l m =
        let g = turn_at t m in
        let place = turn t in
        let b = table.book_in (t.place place) in
        let e : t.place place ≡ holds b = g.is ∙ ap holds (sym (ap table.book_in g.is)) in
        let missing : b.top ≡ b.floor → ⊥ = subst (λ (q : Book). q.top ≡ q.floor → ⊥) (sym (ap table.book_in g.is)) g.missing in
        let r = sound place b g.within e in
        let quiet : is_pending b.pending ≡ false = false_of _ (λ y. none_waits t k.rules l place (ap waits e ∙ y)) in
        let n : ledger.number_to b (request_of b) ≡ 0 = own_number_lem b r ∙ simp (quiet, ne_eqb _ _ missing) in
        let num : request_number t ≡ 0 = simp (le-ltb _ _ l, lt-ltb _ _ m) n in
        let here : turn_by x call ≡ place = to_turn ∙ ap (λ (q : ℕ). pick (ltb q 32) q (turn_in index)) k.asked_is ∙ ap (λ (u : Bool). pick u (pending_place t) (turn_in index)) (le-ltb _ _ l) ∙ turn_is x t k m in
        let b' = ledger.next_of b (request_of b) in
        let st = step b (request_of b) r in
        let told : ChannelTold = told_as (named_paper b.channel (ledger.answer_to b (request_of b))) in
        let rules : TableRules (granted t) = subst (λ (q : ℕ). TableRules (pick (eqb q 0) (granted t) t)) num (rules_kept t Request k.rules) in
        finish place _ Request here
        (asks_there place b g.within e ∙ ap (λ (a : Answered). moved_of a place) (left_stored place b g.within e b' told st.rules (inl n)) ∙ moves place b' told n) is_request
        (sees_request b b.channel n ∙ sym (ap (λ (q : ℕ). answer q (pick (eqb q 0) (b.channel ∷ (asked t).values) [])) num))
        (subst (Kept _) (ap (λ (q : ℕ). pick (eqb q 0) (granted t) t) (sym num))
        (came_to place b b' place g.within e st.channel_same rules (rules_last (granted t) t.last k.rules.last_in rules)))

    requested : Done x t call
    requested = ⊎_elim (λ l. busy l) (λ l. ⊎_elim (λ m. grants l m) (λ m. whole l m) (less (steps t) 32)) (less (pending_place t) 32)

  -- ======== Every call

  pub call_done : Done x t call
  unfolding turn_of served_of
  call_done =
      ⊎_elim (λ z. opens z) (λ n0.
      ⊎_elim (λ z. closes call.channel refl (rw z) (ap (λ (n : ℕ). eqb n 0) z) (ap (λ (n : ℕ). eqb n 4) z) (ap (λ (n : ℕ). eqb n 7) z) (rw z) (λ r n. rw z)) (λ n1.
      ⊎_elim (λ z. said call.channel refl (rw z) (ap (λ (n : ℕ). eqb n 0) z) (ap (λ (n : ℕ). eqb n 4) z) (ap (λ (n : ℕ). eqb n 7) z) (Tick call.number) (rw z) (λ r n. rw z)) (λ n2.
      ⊎_elim (λ z. said call.channel refl (rw z) (ap (λ (n : ℕ). eqb n 0) z) (ap (λ (n : ℕ). eqb n 4) z) (ap (λ (n : ℕ). eqb n 7) z) (Announce call.number) (rw z) (λ r n. rw z)) (λ n3.
      ⊎_elim (λ z. requested z) (λ n4.
      ⊎_elim (λ z. said call.channel refl (rw z) (ap (λ (n : ℕ). eqb n 0) z) (ap (λ (n : ℕ). eqb n 4) z) (ap (λ (n : ℕ). eqb n 7) z) (Reply call.number (status_in call.second)) (rw z) (λ r n. rw z)) (λ n5.
      ⊎_elim (λ z. said call.channel refl (rw z) (ap (λ (n : ℕ). eqb n 0) z) (ap (λ (n : ℕ). eqb n 4) z) (ap (λ (n : ℕ). eqb n 7) z) (Between call.number call.second) (rw z) (λ r n. rw z)) (λ n6.
      ⊎_elim (λ z. renews z) (λ n7.
      tells call.channel refl (rw (ne_eqb call.code 4 n4, ne_eqb call.code 7 n7, ne_eqb call.code 0 n0)) (ne_eqb call.code 0 n0) (ne_eqb call.code 4 n4) (ne_eqb call.code 7 n7)
      (rw (ne_eqb call.code 0 n0, ne_eqb call.code 1 n1, ne_eqb call.code 2 n2, ne_eqb call.code 3 n3, ne_eqb call.code 4 n4, ne_eqb call.code 5 n5, ne_eqb call.code 6 n6, ne_eqb call.code 7 n7))
      (λ r n. rw (ne_eqb call.code 1 n1, ne_eqb call.code 2 n2, ne_eqb call.code 3 n3, ne_eqb call.code 4 n4, ne_eqb call.code 5 n5, ne_eqb call.code 6 n6, ne_eqb call.code 7 n7)))
      (same call.code 7)) (same call.code 6)) (same call.code 5)) (same call.code 4)) (same call.code 3)) (same call.code 2)) (same call.code 1)) (same call.code 0)
