-- What a call on a lent table leaves, by `Ran` and the theorems of `channels_spec`. Assumes
-- nothing.
use mathlib.Core.Path.{◌≡◌, sym, ap, ap₂, subst, ◌∙◌}
use mathlib.Core.Bool.{Bool, true, ◌&&◌}
use Prim.Native.Nat.{ℕ, ◌<◌}
use Rattle.terms.specs.Paper.{Paper}
use Rattle.tick_map.specs.Bits.{is_set}
use Rattle.ledger_spec.specs.State.{Book, sound_of}
use Rattle.ledger_spec.proofs.Rules.{rules_test}
use Rattle.channels_spec.specs.Table.{Place, Table}
use Rattle.channels_spec.specs.Calls.{Renew, answer_to, next_of}
use Rattle.channels_spec.specs.Trace.{Calls, after, History, ◌▸◌⇒◌, trace}
use Rattle.channels_spec.specs.Words.{granted}
use Rattle.channels_spec.specs.Demand.{SessionTold}
use Rattle.channels_seam.specs.Table.{SameHolder, both_free, both_hold, TakesPlace}
use Rattle.channels_spec.proofs.Demand.{new_session_told}
use Rattle.channels_spec.proofs.Fair.{last_asked}
use Rattle.channels_seam.proofs.Table.{places_stay}
use Rattle.channels.specs.declared.Channels.{Channels}
use Rattle.channels.specs.declared.ChannelCall.{ChannelCall}
use Rattle.channels.specs.declared.ChannelTold.{ChannelTold}
use Rattle.channels.specs.Answered.{row_fits}
use Rattle.channels.specs.Serves.{Serves}
use Rattle.channels.specs.Turn.{turned_at}
use Rattle.channels_seam.specs.Kept.{PlaceAt, Kept, call_of, seen, LentRan}
use Rattle.channels_seam.specs.Lent.{is_used, name_at, book_at}
use Rattle.channels_seam.specs.Broken.{RowRules}
use Rattle.channels_seam.specs.Stays.{LentStays, LentLast, LentRules}
use Rattle.channels_seam.proofs.Turns.{index_sound_lem, row_fits_lem}
use Rattle.channels_seam.proofs.Ran.{with_ran}
use Rattle.channels_seam.proofs.Broken.{index_rules, row_rules}
use Rattle.channels_seam.proofs.Lent.{standing, is_free_holds, free_at, book_is, one_call, lent_turn}

-- ======== The rules

module _ (x : Channels) (t : Table) (k : Kept x t) where
  right_row : (i : ℕ) → i < 32 → is_used x i → RowRules x i
  right_row i l u =
      let s = standing x t k i l u in
      let b : book_at x i ≡ s.book = book_is x t k i l s.book s.is in
      row_rules x i true (ap (λ (d : Book). row_fits d x.index (turned_at x.names.channels i true) && sound_of d) b
      ∙ ap₂ (λ (u v : Bool). u && v) (row_fits_lem x t k i s.book true l s.is) (rules_test s.book (k.rules.sound i s.book s.is)))

  kept_rules : LentRules x
  kept_rules =
      record {
        index_right = index_rules x.index (index_sound_lem x t k);
        named_once = λ c i j l m u v p q. (let s = standing x t k i l u in let w = standing x t k j m v in
            k.rules.apart i j s.book w.book s.is w.is (sym s.held.name_is ∙ p ∙ sym q ∙ w.held.name_is));
        rows_right = right_row;
        free_blank = λ i l e. (free_at x t k i l (is_free_holds x t k i l e)).row_is;
        free_unnamed = λ i l e. (free_at x t k i l (is_free_holds x t k i l e)).name_is;
      }

pub lent_rules : {h : History} {x : Channels} → LentRan h x → LentRules x
lent_rules {h} {x} r = with_ran (λ g. LentRules x) r (λ calls k. kept_rules x (after calls) k)

-- ======== The places

-- a place that the same channel holds, or none, is kept alike
holder_alike : (x y : Channels) (i : ℕ) {p q : Place} → SameHolder p q → PlaceAt x i p → PlaceAt y i q → (is_set y.index.used i ≡ is_set x.index.used i) × (name_at y i ≡ name_at x i)
holder_alike x y i both_free a b = (b.unused ∙ sym a.unused, b.name_is ∙ sym a.name_is)
holder_alike x y i (both_hold c) a b = (b.used_is ∙ sym a.used_is, b.name_is ∙ c ∙ sym a.name_is)

module _ {h : History} {x : Channels} (r : LentRan h x) {next : Channels} {told : ChannelTold} (call : ChannelCall) (s : Serves x call told next) where
  abbrev a : Paper
  a = seen (call_of call) told

  pub lent_stays : (TakesPlace (call_of call) → ⊥) → LentStays x next
  lent_stays n = one_call r call s (λ g. LentStays x next) (λ calls k e m. record { used_same = λ i l. (at calls k m i l).0; name_same = λ i l. (at calls k m i l).1 })
    where
      at : (calls : Calls) → Kept x (after calls) → Kept next (next_of (after calls) (call_of call)) → (i : ℕ) → i < 32 → (is_set next.index.used i ≡ is_set x.index.used i) × (name_at next i ≡ name_at x i)
      at calls k m i l = holder_alike x next i (places_stay (after calls) (call_of call) k.rules n i) (k.each i l) (m.each i l)

  -- ======== The place last asked

  pub lent_last : LentLast x (call_of call) a next
  lent_last = one_call r call s (λ g. LentLast x (call_of call) a next) (λ calls k e m. record {
    below_32 = subst (λ (n : ℕ). n < 32) (sym m.last_is) m.rules.last_in;
    moves_used = λ f y. (let w = lent_turn r call s f y in subst (is_used x) (sym w.now_last) w.used);
    moves_name = λ f y. (let w = lent_turn r call s f y in ap (name_at x) w.now_last ∙ w.name_is);
    stays = λ z. m.last_is ∙ (last_asked (after calls) (call_of call) k.rules).stays (ap (granted (call_of call)) (sym e) ∙ z) ∙ sym k.last_is;
  })

  -- ======== A new session, told from the calls

  pub lent_session_told : call_of call ≡ Renew → SessionTold h (h ▸ Renew ⇒ a)
  unfolding trace
  lent_session_told f = one_call r call s (λ g. SessionTold g (g ▸ Renew ⇒ a)) (λ calls k e m.
      subst (λ (p : Paper). SessionTold (trace calls) (trace calls ▸ Renew ⇒ p)) (sym (e ∙ ap (answer_to (after calls)) f)) (new_session_told calls))
