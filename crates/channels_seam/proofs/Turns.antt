-- The index's places are the table's: of a channel, the lowest free one, the pending one, the one
-- whose turn it is; the index keeps its rules; and row and index fit. Assumes nothing.
use mathlib.Core.Path.{◌≡◌, refl, sym, ap, ap₂, subst, ◌∙◌}
use mathlib.Core.Bool.{Bool, true, false, ◌&&◌, ◌||◌, not}
use mathlib.Core.Logic.{⊎_elim}
use Prim.Native.Nat.{ℕ, ◌+◌, ◌%◌, ◌≤◌, ◌<◌, max}
use native.Mathlib.Nat.{mod-lt}
use native.Mathlib.Omega.{arith}
use borrow.Author.Tests.{eq-eqb, ne_eqb, lt-ltb, le-leb, lt-leb, eqb-true}
use lib.Bits.{bit_or, or_lt}
use lib.Dec.{eqb, leb}
use lib.ListN.{get_or}
use Rattle.terms.specs.Cases.{clash, two, less}
use Rattle.terms.specs.Paper.{pick}
use Rattle.tick_map.specs.Bits.{bit, is_set}
use Rattle.tick_map.proofs.Digits.{bit_lt, bit_or_lem, bit_ext}
use Rattle.ledger_spec.specs.State.{Book}
use Rattle.ledger_spec.specs.Calls.{is_pending}
use Rattle.ledger_spec.proofs.Tests.{and_false, and_true, false_of, zero_digit}
use Rattle.host_words.specs.Words.{book_in}
use Rattle.host_words.proofs.Back.{book_back}
use Rattle.channels_spec.specs.Table.{Place, free, holds, Table, least, is_free, is_for, misses, waits, place_of, free_place, pending_place, counted, steps, turn}
use Rattle.channels_spec.proofs.Least.{least_ext, least_all, least_top}
use Rattle.channels_spec.proofs.Places.{its_place}
use Rattle.channels.specs.declared.Channels.{Channels}
use Rattle.channels.specs.declared.ChannelCall.{ChannelCall}
use Rattle.channels.specs.declared.Row.{Row}
use Rattle.channels.specs.Index.{open_for, place_in, place_from, once_in, free_in, steps_in, turn_in, open_at, index_sound}
use Rattle.channels.specs.Told.{agree}
use Rattle.channels.specs.Turn.{once_of, turned_at}
use Rattle.channels.specs.Answered.{row_fits}
use Rattle.channels.specs.Serves.{row_at}
use Rattle.channels_seam.specs.Kept.{HeldAt, PlaceAt, Kept}
use Rattle.channels_seam.proofs.Puts.{waits_one, waits_at}

module _ (x : Channels) (t : Table) (k : Kept x t) where
  -- ---- places

  used_at : (i : ℕ) (p : Place) → PlaceAt x i p → is_set x.index.used i ≡ not (is_free p)
  used_at i free a = a.unused
  used_at i (holds b) a = a.used_is

  lacking_at : (i : ℕ) (p : Place) → PlaceAt x i p → is_set x.index.lacking i ≡ misses p
  lacking_at i free a = a.whole
  lacking_at i (holds b) a = a.lacks_is

  for_at : (channel i : ℕ) (p : Place) → PlaceAt x i p → open_for x.names.channels x.index.used channel i ≡ is_for channel p
  for_at channel i free a = ap (λ (u : Bool). eqb (get_or x.names.channels i 0) channel && u) a.unused ∙ and_false (eqb (get_or x.names.channels i 0) channel)
  for_at channel i (holds b) a = ap₂ (λ (n : ℕ) (u : Bool). eqb n channel && u) a.name_is a.used_is ∙ and_true (eqb b.channel channel)

  not_not : (u : Bool) → not (not u) ≡ u
  not_not true = refl
  not_not false = refl

  pub place_is : (channel : ℕ) → place_in x.names.channels x.index.used channel ≡ place_of t channel
  unfolding place_in place_of
  place_is channel = least_ext _ _ 32 (λ i l. for_at channel i (t.place i) (k.each i l))

  pub free_is : free_in x.index.used ≡ free_place t
  unfolding free_in free_place
  free_is = least_ext _ _ 32 (λ i l. ap not (used_at i (t.place i) (k.each i l)) ∙ not_not _)

  pub steps_are : steps_in x.index.lacking x.index.last ≡ steps t
  unfolding steps_in steps
  steps_are = ap (λ (n : ℕ). least (λ j. is_set x.index.lacking ((n + 1 + j) % 32)) 32) k.last_is
      ∙ least_ext _ _ 32 (λ j l. lacking_at (counted t j) (t.place (counted t j)) (k.each (counted t j) (mod-lt _ (omega arith))))

  -- ---- no channel is named twice

  its : (channel i : ℕ) (p : Place) → t.place i ≡ p → is_for channel p ≡ true → place_of t channel ≡ i
  its channel i free e y = absurd (clash y refl)
  its channel i (holds b) e y = its_place t k.rules i b channel e (eqb-true _ _ y)

  once_in_lem : (channel : ℕ) → once_in x.names.channels x.index.used channel ≡ true
  unfolding place_from
  once_in_lem channel = le-leb 32 _ (full (least_all _ 32 (λ j l. false_of _ (λ y. second j l (both_of _ _ y)))))
    where
      full : {n : ℕ} → n ≡ 32 → 32 ≤ n
      full e = omega (arith, e)

      both_of : (u v : Bool) → u && v ≡ true → (u ≡ true) × (v ≡ true)
      both_of true true e = (refl, refl)
      both_of true false e = absurd (clash e refl)
      both_of false v e = absurd (clash e refl)

      second : (j : ℕ) → j < 32 → (leb (place_in x.names.channels x.index.used channel + 1) j ≡ true) × (open_for x.names.channels x.index.used channel j ≡ true) → ⊥
      second j l y =
          let at : place_in x.names.channels x.index.used channel ≡ j =
          place_is channel ∙ its channel j (t.place j) refl (sym (for_at channel j (t.place j) (k.each j l)) ∙ y.1) in
          clash y.0 (later at)
        where
          later : {n : ℕ} → n ≡ j → leb (n + 1) j ≡ false
          later {n} e = lt-leb (n + 1) j (omega (arith, e))

  pub once_is : (call : ChannelCall) → once_of x.index x.names.channels call ≡ true
  unfolding once_of
  once_is call = at (eqb call.code 4) (eqb call.code 7)
    where
      at : (u v : Bool) → pick u true (pick v true (once_in x.names.channels x.index.used call.channel)) ≡ true
      at true v = refl
      at false true = refl
      at false false = once_in_lem call.channel

  -- ---- the index is sound

  last_low : x.index.last < 32
  last_low = subst (λ (n : ℕ). n < 32) (sym k.last_is) k.rules.last_in

  pub pending_low : pending_place t ≤ 32
  unfolding pending_place
  pending_low = least_top (λ i. waits (t.place i)) 32

  within : bit_or x.index.lacking x.index.used ≡ x.index.used
  within = bit_ext 32 _ _ (or_lt 32 _ _ k.lacking_low k.used_low) k.used_low (λ i l. bit_or_lem _ _ i ∙ larger i (t.place i) (k.each i l))
    where
      bit_is : (w i : ℕ) (u : Bool) → is_set w i ≡ u → bit w i ≡ pick u 1 0
      bit_is w i true e = eqb-true _ _ e
      bit_is w i false e = zero_digit (bit w i) (bit_lt w i) e

      larger : (i : ℕ) (p : Place) → PlaceAt x i p → max (bit x.index.lacking i) (bit x.index.used i) ≡ bit x.index.used i
      larger i free a = omega (arith, bit_is _ i false a.whole)
      larger i (holds b) a = omega (arith, bit_is _ i true a.used_is, bit_lt x.index.lacking i)

  -- `asked` is an open place, or 32
  asked_fits : eqb x.index.asked 32 || open_at x.index.used x.index.asked ≡ true
  asked_fits = ⊎_elim (λ l. pending_there (t.place (pending_place t)) refl l (waits_at t l)) (λ l. (let e : x.index.asked ≡ 32 = omega (arith, k.asked_is, pending_low) in ap (λ (u : Bool). u || open_at x.index.used x.index.asked) (eq-eqb _ _ e))) (less (pending_place t) 32)
    where
      or_true : (u : Bool) → u || true ≡ true
      or_true true = refl
      or_true false = refl

      pending_there : (p : Place) → t.place (pending_place t) ≡ p → pending_place t < 32 → waits (t.place (pending_place t)) ≡ true → eqb x.index.asked 32 || open_at x.index.used x.index.asked ≡ true
      pending_there free e l y = absurd (clash y (ap waits e))
      pending_there (holds b) e l y =
          let a : HeldAt x (pending_place t) b = subst (PlaceAt x (pending_place t)) e (k.each (pending_place t) l) in
          ap (λ (n : ℕ). eqb n 32 || open_at x.index.used n) k.asked_is ∙ ap₂ (λ (u v : Bool). eqb (pending_place t) 32 || (u && v)) (lt-ltb _ _ l) a.used_is ∙ or_true (eqb (pending_place t) 32)

  pub index_sound_lem : index_sound x.index ≡ true
  unfolding index_sound
  index_sound_lem = simp (lt-ltb _ _ k.used_low, eq-eqb _ _ within, lt-ltb _ _ last_low, asked_fits)

  -- ---- a request turns to the place whose request is pending, or else to the one whose turn it is

  pub turn_is : steps t < 32 → turn_in x.index ≡ turn t
  unfolding turn_in
  turn_is l =
      let m : steps_in x.index.lacking x.index.last < 32 = subst (λ (n : ℕ). n < 32) (sym steps_are) l in
      simp (lt-leb _ _ k.lacking_low, lt-leb _ _ last_low, lt-leb _ _ m) (ap₂ (λ (n s : ℕ). (n + 1 + s) % 32) k.last_is steps_are)

  pub no_turn : 32 ≤ steps t → turn_in x.index ≡ 32
  unfolding turn_in
  no_turn l =
      let m : 32 ≤ steps_in x.index.lacking x.index.last = subst (λ (n : ℕ). 32 ≤ n) (sym steps_are) l in
      simp (lt-leb _ _ k.lacking_low, lt-leb _ _ last_low, le-leb _ _ m)

  -- ---- the row fits

  -- a ledger's request is pending exactly where `asked` says
  waits_there : (i : ℕ) (b : Book) → i < 32 → t.place i ≡ holds b → is_pending b.pending ≡ eqb (pending_place t) i
  waits_there i b l e = ⊎_elim (λ y. y ∙ sym (eq-eqb _ _ (waits_one t k.rules i l (ap waits e ∙ y)))) (λ n. n ∙ sym (ne_eqb _ _ (λ z. clash (at z) n))) (two (is_pending b.pending))
    where
      at : pending_place t ≡ i → is_pending b.pending ≡ true
      at z = sym (ap waits e) ∙ ap (λ (j : ℕ). waits (t.place j)) (sym z) ∙ waits_at t (subst (λ (n : ℕ). n < 32) (sym z) l)

  same_agree : (u v : Bool) → u ≡ v → agree u v ≡ true
  same_agree true true e = refl
  same_agree true false e = sym e
  same_agree false true e = e
  same_agree false false e = refl

  pub held_at : (i : ℕ) (b : Book) → i < 32 → t.place i ≡ holds b → HeldAt x i b
  held_at i b l e = subst (PlaceAt x i) e (k.each i l)

  pub row_book : (i : ℕ) (b : Book) → i < 32 → t.place i ≡ holds b → book_in (row_at x i).words ≡ b
  row_book i b l e = ap (λ (r : Row). book_in r.words) (held_at i b l e).row_is ∙ book_back b (k.rules.sound i b e)

  pub row_fits_lem : (i : ℕ) (b : Book) (once : Bool) → i < 32 → t.place i ≡ holds b → row_fits b x.index (turned_at x.names.channels i once) ≡ true
  unfolding row_fits
  row_fits_lem i b once l e =
      let a : HeldAt x i b = held_at i b l e in
      let w : is_pending b.pending ≡ eqb x.index.asked i = waits_there i b l e ∙ ap (λ (n : ℕ). eqb n i) (sym k.asked_is) in
      simp (eq-eqb _ _ a.name_is, same_agree _ _ a.lacks_is, same_agree _ _ w)
