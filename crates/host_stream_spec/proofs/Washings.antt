-- `cleaned_as_it_arrives` of every row of calls through the host. Assumes nothing.
use Prim.Native.Nat.{ℕ}
use mathlib.Core.Path.{◌≡◌, refl, sym, ap, ap₂, ◌∙◌}
use mathlib.Core.Bool.{Bool, true, false}
use mathlib.Core.Logic.{⊎_elim}
use mathlib.Core.List.{List, [], ◌++◌}
use native.Mathlib.Omega.{arith}
use lib.Dec.{eqb}
use lib.ListN.{length, get_or, take}
use borrow.Author.Tests.{eqb-true, eqb-false, ne_eqb}
use Rattle.terms.specs.Paper.{pick}
use Rattle.terms.specs.Cases.{two}
use Rattle.octets.specs.Octets.{laid, Bytes}
use Rattle.octets.specs.Overlays.{take_front}
use Rattle.tick_map.specs.Bits.{map_of}
use Rattle.ledger.specs.State.{ledger_of}
use Rattle.stream_spec.specs.declared.Stream.{Stream}
use Rattle.stream_spec.specs.State.{value_of, opened, StreamRules}
use Rattle.stream_spec.specs.Calls.{Call, cut_of, closes}
use Rattle.stream_spec.specs.Trace.{Calls, none, ◌▸◌}
use Rattle.stream_spec.proofs.Rules.{rules_facts}
use Rattle.stream_spec.proofs.Cuttings.{bytes_more}
use Rattle.stream_clean_spec.specs.declared.Sums.{Sums}
use Rattle.stream_clean_spec.specs.Wash.{no_sums, plus}
use Rattle.stream_clean_spec.specs.Calls.{counts_in, reads_for, washed_for, sums_for, wash_behind, number_to, next_for, next_of, answer_for, answer_to, leaves_for, leaves}
use Rattle.stream_clean_spec.specs.LayLaws.{washed_length}
use Rattle.stream_clean_spec.specs.Trace.{after, accepted, written, counted, taken}
use Rattle.stream_clean_spec.proofs.Arrives.{cleaned_as_it_arrives, cleaned_whole}
use Rattle.host_words.specs.Told.{told_by, seen}
use Rattle.host_stream_spec.specs.Lent.{Lent, lent_of, stream_in}
use Rattle.host_stream_spec.specs.Calls.{kept_beside}
use Rattle.host_stream_spec.specs.Washes.{wash_told, wash_after, WashCalled, Washes, opening, one_more, wash_heard, wash_counted, HostWashes}
use Rattle.host_stream_spec.proofs.Back.{lent_back}

-- the ledger is never touched: its map has four words
abbrev Four : Stream → Type 0
Four x = length x.tally.ledger.map.words ≡ 4

four_next : (x : Stream) (call : Call) (room : ℕ) → Four x → Four (next_of x call room)
unfolding next_for wash_behind
four_next x call room f =
    ⊎_elim (λ (t : eqb (number_to x call room) 0 ≡ true). rw t f) (λ (g : eqb (number_to x call room) 0 ≡ false). rw g f) (two (eqb (number_to x call room) 0))

four : (calls : Calls) → Four (after calls)
unfolding opened value_of ledger_of map_of
four none = refl
four (calls ▸ a) = four_next (after calls) a.call a.room (four calls)

rules : (calls : Calls) → StreamRules (after calls)
rules calls = rules_facts (after calls) (cleaned_as_it_arrives calls).rules

-- on the words and bytes of a stream that they stand for: the stream's own call
left_is : (x : Stream) (call : Call) (room : ℕ) → kept_beside (answer_to x call room).number (next_of x call room) (lent_of x) ≡ lent_of (next_of x call room)
unfolding kept_beside answer_for next_for
left_is x call room =
    ⊎_elim (λ (t : eqb (number_to x call room) 0 ≡ true). rw t) (λ (f : eqb (number_to x call room) 0 ≡ false). rw f) (two (eqb (number_to x call room) 0))

module _ (x : Stream) (four_words : Four x) (r : StreamRules x) (call : Call) (was d : List ℕ) (n : ℕ) (k' : Lent) (row d' : List ℕ) (p : WashCalled (lent_of x) call was d n k' row d') where
  back : stream_in (lent_of x) ≡ x
  back = lent_back x four_words r

  number_is : n ≡ number_to x call (length d)
  unfolding answer_for
  number_is = p.0.answered ∙ ap (λ (y : Stream). number_to y call (length d)) back

  left : k' ≡ lent_of (next_of x call (length d))
  unfolding wash_after
  left = p.1.0 ∙ ap (λ (y : Stream). kept_beside (answer_to y call (length d)).number (next_of y call (length d)) (lent_of x)) back ∙ left_is x call (length d)

  counts_told : (t : Bool) → eqb (number_to x call (length d)) 0 ≡ t → counts_in (seen n row).values ≡ pick t (sums_for x (closes call) (cut_of call)) no_sums
  unfolding told_by answer_for
  counts_told true e =
      let z : number_to x call (length d) ≡ 0 = eqb-true _ 0 e in
      let m : number_to (stream_in (lent_of x)) call (length d) ≡ 0 = ap (λ (y : Stream). number_to y call (length d)) back ∙ z in
      let told : row ≡ told_by (wash_told (lent_of x) call (length d)) was = p.0.told in
      rw (number_is ∙ z) (ap counts_in told ∙ rw (m, back))
  counts_told false e = rw (ne_eqb n 0 (λ (z : n ≡ 0). eqb-false _ 0 e (sym number_is ∙ z)))

  bytes_told : (t : Bool) → eqb (number_to x call (length d)) 0 ≡ t → take (get_or (seen n row).values 0 0) d' ≡ pick t (washed_for x (closes call) (cut_of call)) []
  unfolding leaves_for
  bytes_told true e =
      let w : d' ≡ laid 0 (washed_for x (closes call) (cut_of call)) d = p.1.1 ∙ ap (λ (y : Stream). leaves y call d) back ∙ rw e in
      let b : get_or (seen n row).values 0 0 ≡ length (washed_for x (closes call) (cut_of call)) =
      ap (λ (t : Sums). t.bytes) (counts_told true e) ∙ washed_length x.seeking (reads_for x (closes call) (cut_of call)) in
      rw (b, w) (take_front (length (washed_for x (closes call) (cut_of call))) (washed_for x (closes call) (cut_of call)) d refl)
  bytes_told false e = rw (ap (λ (t : Sums). t.bytes) (counts_told false e))

washes_is : {calls : Calls} {k : Lent} → Washes calls k → k ≡ lent_of (after calls)
washes_is (opening e) = e
washes_is (one_more {calls} {k} call was d n k' row d' f b p) = left (after calls) (four calls) (rules calls) call was d n k' row d' (rw (washes_is f) at p)

-- what is taken are bytes
pub washes_bytes : {calls : Calls} {k : Lent} → Washes calls k → Bytes (taken calls)
unfolding taken
washes_bytes (opening e) = λ i. omega arith
washes_bytes (one_more {calls} {k} call was d n k' row d' f b p) = bytes_more (taken calls) (cut_of call) (accepted calls (record { call = call; room = length d })) (washes_bytes f) b

heard_written : {calls : Calls} {k : Lent} (f : Washes calls k) → wash_heard f ≡ written calls
unfolding written
heard_written (opening e) = refl
heard_written (one_more {calls} {k} call was d n k' row d' f b p) =
    ap₂ (λ (a b : List ℕ). a ++ b) (heard_written f) (bytes_told (after calls) (four calls) (rules calls) call was d n k' row d' (rw (washes_is f) at p) _ refl)

counted_is : {calls : Calls} {k : Lent} (f : Washes calls k) → wash_counted f ≡ counted calls
unfolding counted
counted_is (opening e) = refl
counted_is (one_more {calls} {k} call was d n k' row d' f b p) =
    ap₂ plus (counted_is f) (counts_told (after calls) (four calls) (rules calls) call was d n k' row d' (rw (washes_is f) at p) _ refl)

-- OF EVERY ROW OF CALLS THROUGH THE HOST
pub every_host_cleaning : {calls : Calls} {k : Lent} (f : Washes calls k) → HostWashes calls k (wash_heard f) (wash_counted f)
every_host_cleaning {calls} f =
    record {
      stands = washes_is f;
      rules = rw (washes_is f, lent_back (after calls) (four calls) (rules calls)) (rules calls);
      bytes = heard_written f ∙ (cleaned_as_it_arrives calls).bytes;
      whole = λ e. heard_written f ∙ (cleaned_whole calls e).bytes;
      length_told = rw (counted_is f, heard_written f) (cleaned_as_it_arrives calls).length_told;
      frames = rw (counted_is f) (cleaned_as_it_arrives calls).frames;
      found = rw (counted_is f) (cleaned_as_it_arrives calls).found;
      unjudged = rw (counted_is f) (cleaned_as_it_arrives calls).unjudged;
      told = λ e. rw (counted_is f) (cleaned_whole calls e).told;
    }
