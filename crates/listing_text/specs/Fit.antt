-- The numbers of each record of document 01's walk fit their widths, so that no record loses a
-- digit in its 64 bytes.
use Prim.Native.Nat.{ℕ, zero, suc, ◌+◌, ◌^◌, ◌<◌, ◌≤◌}
use Rattle.std.specs.Prelude.{◌≡◌, refl, Bool, true, false, not, List, [], ◌∷◌, ltb, drop}
use Rattle.std.proofs.Math.Logic.{⊎_elim}
use Rattle.std.proofs.Common.{arith, lit<}
use Rattle.std.proofs.Math.ListN.{length}
use borrow.Author.Tests.{le-leb, lt-leb, eq-eqb, ne_eqb}
use Rattle.terms.specs.Paper.{pick}
use Rattle.terms.specs.Cases.{less, same}
use Rattle.octets.specs.Octets.{be, Bytes}
use Rattle.octets.specs.Numerals.{numeral_below, below_drop}
use Rattle.rules.specs.declared.Kind.{Kind}
use Rattle.rules.specs.declared.Kind.TheVariants.{S001, S002, S003, P001, P002, M101, M102, M201, Unknown}
use Rattle.frame_spec.specs.Frame.{read_of}
use Rattle.frame_spec.specs.Given.{Reads}
use Rattle.frame_spec.specs.GivenRead.{read_given}
use Rattle.frame_spec.specs.Search.{search_of}
use Rattle.ledger_spec.specs.State.{Book, largest, has, sound_of}
use Rattle.ledger_spec.specs.Calls.{Tick, Announce, tick_number, elsewhere, own_number, checked_of, number_to}
use Rattle.ledger_spec.specs.Trace.{Calls, none, ◌▸◌, after}
use Rattle.ledger_spec.proofs.Agree.{agrees}
use Rattle.record.specs.Record.{blank_of}
use Rattle.record.specs.Fields.{Fits}
use Rattle.walk_spec.specs.Literal.{type_in, length_in, tick_in, channel_in, answer_in, ledger_in, ledger_after, frame_record, stopped, go_on, walk_from, literal_walk}
use Rattle.listing_text.specs.Laws.{AllFit, all_none, all_more}

-- ANSWERS: a reading's is at most 7, the ledger's at most 18

reading_few : (n : ℕ) (s : List ℕ) → Reads n s → n ≤ 7
reading_few zero s h = omega arith
reading_few (suc zero) s h = omega arith
reading_few (suc (suc zero)) s h = omega arith
reading_few (suc (suc (suc zero))) s h = omega arith
reading_few (suc (suc (suc (suc zero)))) s h = omega arith
reading_few (suc (suc (suc (suc (suc zero))))) s h = omega arith
reading_few (suc (suc (suc (suc (suc (suc zero)))))) s h = omega arith
reading_few (suc (suc (suc (suc (suc (suc (suc zero))))))) s h = omega arith
reading_few (suc (suc (suc (suc (suc (suc (suc (suc n)))))))) s h = absurd h

few : (t : Bool) (a b : ℕ) → a ≤ 18 → b ≤ 18 → pick t a b ≤ 18
few true a b h k = h
few false a b h k = k

module _ (b : Book) where
  -- 13 and 18 come before a call's own number
  checked_few : (other : Bool) (own : ℕ) → own ≤ 18 → checked_of b other own ≤ 18
  unfolding checked_of
  checked_few other own h = few (not (sound_of b)) 13 (pick other 18 own) (omega arith) (few other 18 own (omega arith) h)

  tick_few : (channel n : ℕ) → number_to b (Tick channel n) ≤ 18
  unfolding number_to own_number
  tick_few channel n =
      let far : pick (ltb (b.floor + 256) n) 12 0 ≤ 18 = few (ltb (b.floor + 256) n) 12 0 (omega arith) (omega arith) in
      let old : pick (has b n) 11 (pick (ltb (b.floor + 256) n) 12 0) ≤ 18 = few (has b n) 11 (pick (ltb (b.floor + 256) n) 12 0) (omega arith) far in
      checked_few (elsewhere b (Tick channel n)) (own_number b (Tick channel n)) (few (not (tick_number n)) 10 (pick (has b n) 11 (pick (ltb (b.floor + 256) n) 12 0)) (omega arith) old)

  announce_few : (channel n : ℕ) → number_to b (Announce channel n) ≤ 18
  unfolding number_to own_number
  announce_few channel n = checked_few (elsewhere b (Announce channel n)) (own_number b (Announce channel n)) (few (ltb largest n) 10 0 (omega arith) (omega arith))

-- THE LEDGER after any calls keeps its state rules

module _ (calls : Calls) where
  floor_fits : (after 100 calls).floor < 256 ^ 8
  floor_fits = let r = (agrees 100 (omega arith) calls).rules in omega (arith, r.low, r.top_small)

  top_fits : (after 100 calls).top < 256 ^ 8
  top_fits = omega (arith, (agrees 100 (omega arith) calls).rules.top_small)

-- A FRAME of each type: its answer, counters, and the calls behind it
record Small (k : Kind) (calls : Calls) (f : List ℕ) : Type 0 where
  answer : answer_in k (after 100 calls) f ≤ 18
  tick : tick_in k f < 256 ^ 8
  channel : channel_in k f < 256 ^ 2
  later : Calls
  ledger : ledger_in k (after 100 calls) f ≡ after 100 later

small : (k : Kind) (calls : Calls) (f : List ℕ) → Bytes f → Small k calls f
small S001 calls f b = record { answer = omega arith; tick = lit< tt; channel = lit< tt; later = calls; ledger = refl }
small S002 calls f b = record { answer = omega arith; tick = lit< tt; channel = lit< tt; later = calls; ledger = refl }
small S003 calls f b = record { answer = omega arith; tick = lit< tt; channel = lit< tt; later = calls; ledger = refl }
small P001 calls f b = record { answer = announce_few _ _ _; tick = numeral_below 256 8 27 f b; channel = numeral_below 256 2 25 f b; later = calls ▸ Announce (be 2 25 f) (be 8 27 f); ledger = refl }
small P002 calls f b = record { answer = omega arith; tick = numeral_below 256 8 27 f b; channel = numeral_below 256 2 24 f b; later = calls; ledger = refl }
small M101 calls f b = record { answer = omega arith; tick = lit< tt; channel = lit< tt; later = calls; ledger = refl }
small M102 calls f b = record { answer = omega arith; tick = lit< tt; channel = lit< tt; later = calls; ledger = refl }
small M201 calls f b = record { answer = tick_few _ _ _; tick = numeral_below 256 8 27 f b; channel = numeral_below 256 2 25 f b; later = calls ▸ Tick (be 2 25 f) (be 8 27 f); ledger = refl }
small Unknown calls f b = record { answer = omega arith; tick = lit< tt; channel = lit< tt; later = calls; ledger = refl }

frame_fits : (place : ℕ) (calls : Calls) (f : List ℕ) → place < 256 ^ 8 → Bytes f → Small (type_in f) calls f → Fits (frame_record place (after 100 calls) f)
frame_fits place calls f h b s =
    record {
      place = h;
      msg_type_holds = numeral_below 256 4 0 f b;
      answer = omega (arith, s.answer);
      seq = numeral_below 256 8 12 f b;
      tick = s.tick;
      channel = s.channel;
      body_len = numeral_below 256 4 20 f b;
      floor = rw s.ledger (floor_fits s.later);
      top = rw s.ledger (top_fits s.later);
    }

refusal_fits : (place number : ℕ) (calls : Calls) → place < 256 ^ 8 → number ≤ 7 → Fits (blank_of place number (after 100 calls).floor (after 100 calls).top)
unfolding blank_of
refusal_fits place number calls h n =
    record {
      place = h;
      msg_type_holds = lit< tt;
      answer = omega arith;
      seq = lit< tt;
      tick = lit< tt;
      channel = lit< tt;
      body_len = lit< tt;
      floor = floor_fits calls;
      top = top_fits calls;
    }

-- THE WALK

module _ (s : List ℕ) (bytes : Bytes s) (short : length s < 256 ^ 8) where
  -- behind a refusal, wherever the search goes
  fit_on : (k : ℕ) (b : Book) (vs : List ℕ) → ((q : ℕ) → AllFit (walk_from k s q b).records) → AllFit (go_on (λ q. walk_from k s q b) (stopped b) vs).records
  fit_on k b [] ih = all_none
  fit_on k b (q ∷ vs) ih = ih q

  fit_from : (k p : ℕ) (calls : Calls) → AllFit (walk_from k s p (after 100 calls)).records
  unfolding walk_from
  fit_from zero p calls = all_none
  fit_from (suc k) p calls =
      let f : Bytes (drop p s) = below_drop 256 p s bytes in
      let m : Small (type_in (drop p s)) calls (drop p s) = small (type_in (drop p s)) calls (drop p s) f in
      let next : AllFit (walk_from k s (p + length_in (drop p s)) (ledger_after (after 100 calls) (drop p s))).records =
      rw m.ledger (fit_from k (p + length_in (drop p s)) m.later) in
      ⊎_elim (λ (h : p < length s).
      ⊎_elim (λ (z : (read_of (drop p s)).number ≡ 0).
      rw (lt-leb (length s) p h, eq-eqb (read_of (drop p s)).number 0 z)
      (all_more (frame_fits p calls (drop p s) (omega arith) f m) next))
      (λ (ne : (read_of (drop p s)).number ≡ 0 → ⊥).
      rw (lt-leb (length s) p h, ne_eqb (read_of (drop p s)).number 0 ne)
      (all_more (refusal_fits p (read_of (drop p s)).number calls (omega arith) (reading_few (read_of (drop p s)).number (drop p s) ((read_given (read_of (drop p s)).number (drop p s)).0 refl)))
      (fit_on k (after 100 calls) (search_of s (p + 1)).values (λ q. fit_from k q calls))))
      (same (read_of (drop p s)).number 0))
      (λ (h : length s ≤ p). rw (le-leb (length s) p h) all_none)
      (less p (length s))

  pub walk_fits : AllFit (literal_walk s).records
  unfolding literal_walk
  walk_fits = fit_from (length s) 0 none
