-- `cleaned_as_it_arrives`: for every row of calls, refused calls and empty cuts among them, the
-- bytes of all calls joined are the cleaned capture. It stands on CR 1's `every_cutting`: the calls
-- not refused are a row of a stream's own calls, with room enough. Assumes nothing.
use Prim.Native.Nat.{ℕ, zero, suc, ◌+◌, ◌*◌, ◌/◌, ◌≤◌}
use mathlib.Core.Path.{◌≡◌, refl, sym, ap, ap₂, ◌∙◌}
use mathlib.Core.Bool.{Bool, true, false, not}
use mathlib.Core.Logic.{⊎_elim}
use mathlib.Core.List.{List, [], ◌∷◌, ◌++◌, append-nil}
use native.Mathlib.Omega.{arith}
use lib.Dec.{eqb}
use lib.ListN.{length, take, drop}
use lib.Seq.{drop-drop}
use borrow.Author.Tests.{eqb-true, eq-eqb, le-leb}
use Rattle.terms.specs.Paper.{Paper, pick}
use Rattle.terms.specs.Cases.{two}
use Rattle.ledger_spec.specs.State.{or_else}
use Rattle.octets.specs.Octets.{laid}
use Rattle.octets.specs.Overlays.{take_front}
use Rattle.private.specs.Scrub.{scrubbed}
use Rattle.walk_laws.specs.Walk.{Says, frame, more, bad, Sight, Mode, within, seeking, next, found, noted, sights_of}
use Rattle.walk_laws.specs.Waits.{Got, ran_of, ran_append}
use Rattle.walk_laws.specs.Closing.{final_of, final_seen, final_after, ran_below}
use Rattle.walk_laws.specs.Cuts as Cuts
use Rattle.walk_laws.specs.Frames.{joined, each_of}
use Rattle.reading.specs.declared.Seen.{Seen}
use Rattle.reading.specs.Seen.{seen_of, seen_number, says_of}
use Rattle.walk_spec.specs.Walk.{accepts, frames_of}
use Rattle.clean_spec.specs.Clean.{frames_in, clean_in, clean_of, found_by, found_in, fits_in, clean_answer}
use Rattle.clean_spec.specs.Turns.{adds}
use Rattle.stream_spec.specs.declared.Stream.{Stream}
use Rattle.stream_spec.specs.declared.Tally.{Tally}
use Rattle.stream_spec.specs.Tally.{fresh_tally}
use Rattle.stream_spec.specs.State.{last_place, meant_by, value_of, waits_right, sound_of, opened}
use Rattle.stream_spec.specs.StateLaws.{sound_checked, checked_sound}
use Rattle.stream_spec.proofs.Rules.{opening_sound}
use Rattle.stream_spec.specs.Calls as Plain
use Rattle.stream_spec.specs.Calls.{Call, Feed, Close, cut_of, closes, feed_of, behind_of, share, may_take}
use Rattle.stream_spec.specs.CallLaws as PlainLaws
use Rattle.stream_spec.specs.Trace as Trace
use Rattle.stream_spec.specs.Trace.{Asked, Calls, none, ◌▸◌}
use Rattle.stream_spec.specs.Words.{readings}
use Rattle.stream_spec.proofs.Cuttings.{every_cutting, closing_call, stands_for}
use Rattle.stream_clean_spec.specs.declared.Sums.{Sums}
use Rattle.stream_spec.specs.declared.Fed.{Fed}
use Rattle.std.specs.Prelude.{Result, Ok, Err}
use Rattle.std.specs.Result.{result_unwrap_or}
use Rattle.terms.specs.declared.Refusal.{Refusal}
use Rattle.stream_clean_spec.specs.CallLaws.{Promised}
use Rattle.stream_clean_spec.specs.Wash as Wash
use Rattle.stream_clean_spec.specs.Wash.{Cut, says_by, washed, no_sums, plus, one_of, seeks_after, sums_of, unjudged_by}
use Rattle.stream_clean_spec.specs.Calls.{counts_in, reads_for, washed_for, sums_for, with_tally, wash_behind, number_for, number_to, next_for, next_of, leaves_for, answer_for, summed_paper, washed_paper, wrote}
use Rattle.stream_clean_spec.specs.LayLaws.{plus_none, washed_append, washed_length}
use Rattle.stream_clean_spec.specs.CutLaws.{plain, same_run, cut_kept, Stands, reads_behind, seeks_behind, sums_run, other_tally}
use Rattle.stream_clean_spec.specs.Trace.{after, accepted, written, counted, taken, ended, Row, opening, one_more, heard, heard_counts, unjudged_of, Arrives, Cleaned}

-- ======== THE CALLS NOT REFUSED, as a stream's own calls

room_for : Stream → Call → ℕ
room_for x call = 64 * length (share x call)

unfoldable kept : Calls → Calls
kept none = none
kept (calls ▸ a) = pick (accepted calls a) (kept calls ▸ record { call = a.call; room = room_for (Trace.after (kept calls)) a.call }) (kept calls)

-- a call that nothing refuses before the room is answered 0 with so much room
plain_0 : (x : Stream) (call : Call) → may_take x (length (cut_of call)) ≡ 0 → Plain.number_to x call (room_for x call) ≡ 0
unfolding room_for
plain_0 x call z =
    let f = PlainLaws.may_facts x (length (cut_of call)) z in
    let n = length (share x call) in
    PlainLaws.number_0 x (closes call) (cut_of call) (64 * n) f.0 f.1.0 (le-leb _ _ f.1.1) (le-leb n (64 * n / 64) (omega arith))

number_may : (x : Stream) (closing : Bool) (cut : List ℕ) (room : ℕ) → number_for x closing cut room ≡ 0 → may_take x (length cut) ≡ 0
unfolding number_for
number_may x closing cut room e =
    ⊎_elim (λ (t : eqb (may_take x (length cut)) 0 ≡ true). eqb-true _ 0 t) (λ (f : eqb (may_take x (length cut)) 0 ≡ false). rw f at e) (two (eqb (may_take x (length cut)) 0))

-- a stream that keeps the rules keeps them with the counts and the ledger of one just opened
fresh_sound : (y : Stream) → sound_of y ≡ true → sound_of (with_tally y fresh_tally) ≡ true
unfolding waits_right opened value_of
fresh_sound y s =
    let c = sound_checked y s in
    let o = sound_checked opened opening_sound in
    checked_sound (with_tally y fresh_tally) (record { few = c.few; blank = c.blank; counts = omega arith; right = o.right; places = c.places; waits = c.waits })

-- THE INVARIANT: but for counts and ledger the stream is that of the calls not refused
record InStep (calls : Calls) : Type 0 where
  stream : after calls ≡ with_tally (Trace.after (kept calls)) fresh_tally
  bytes : taken calls ≡ Trace.taken (kept calls)
  over : ended calls ≡ Trace.ended (kept calls)

in_step_start : InStep none
unfolding kept taken ended Trace.taken Trace.ended opened value_of
in_step_start = record { stream = refl; bytes = refl; over = refl }

or_false : (b : Bool) → or_else b false ≡ b
or_false true = refl
or_false false = refl

module _ (calls : Calls) (a : Asked) where
  -- a refused call changes nothing
  module _ (f : accepted calls a ≡ false) where
    kept_refused : kept (calls ▸ a) ≡ kept calls
    unfolding kept
    kept_refused = rw f

    after_refused : after (calls ▸ a) ≡ after calls
    unfolding next_for
    after_refused = rw f

    taken_refused : taken (calls ▸ a) ≡ taken calls
    unfolding taken
    taken_refused = rw (f, append-nil (taken calls))

    ended_refused : ended (calls ▸ a) ≡ ended calls
    unfolding ended
    ended_refused = rw (f, or_false (ended calls))

    written_refused : written (calls ▸ a) ≡ written calls
    unfolding written
    written_refused = rw (f, append-nil (written calls))

    counted_refused : counted (calls ▸ a) ≡ counted calls
    unfolding counted
    counted_refused = rw (f, plus_none (counted calls))

    in_step_refused : InStep calls → InStep (calls ▸ a)
    in_step_refused z =
        record {
          stream = after_refused ∙ z.stream ∙ ap (λ (c : Calls). with_tally (Trace.after c) fresh_tally) (sym kept_refused);
          bytes = taken_refused ∙ z.bytes ∙ ap Trace.taken (sym kept_refused);
          over = ended_refused ∙ z.over ∙ ap Trace.ended (sym kept_refused);
        }

  -- one that is not
  module _ (t : accepted calls a ≡ true) (z : InStep calls) where
    abbrev y : Stream
    y = Trace.after (kept calls)

    abbrev one : Asked
    one = record { call = a.call; room = room_for y a.call }

    may : may_take (after calls) (length (cut_of a.call)) ≡ 0
    may = number_may (after calls) (closes a.call) (cut_of a.call) a.room (eqb-true _ 0 t)

    facts : (y.closed ≡ false) × (y.place + (y.len + length (cut_of a.call)) ≤ last_place)
    facts = rw z.stream at (PlainLaws.may_facts (after calls) (length (cut_of a.call)) may).1

    plain_may : may_take y (length (cut_of a.call)) ≡ 0
    plain_may = PlainLaws.may_0 y (length (cut_of a.call)) (every_cutting (kept calls)).rules facts.0 (le-leb _ _ facts.1)

    plain_accepted : Trace.accepted (kept calls) one ≡ true
    plain_accepted = eq-eqb _ 0 (plain_0 y a.call plain_may)

    not_ended : ended calls ≡ false
    not_ended = z.over ∙ sym (every_cutting (kept calls)).closed ∙ facts.0

    kept_more : kept (calls ▸ a) ≡ kept calls ▸ one
    unfolding kept
    kept_more = rw t

    plain_after : Trace.after (kept calls ▸ one) ≡ behind_of y (closes a.call) (cut_of a.call)
    unfolding Plain.next_for
    plain_after = rw plain_accepted

    after_more : after (calls ▸ a) ≡ wash_behind (after calls) (closes a.call) (cut_of a.call)
    unfolding next_for
    after_more = rw t

    behind_more : wash_behind (with_tally y fresh_tally) (closes a.call) (cut_of a.call) ≡ with_tally (behind_of y (closes a.call) (cut_of a.call)) fresh_tally
    unfolding wash_behind
    behind_more = other_tally y fresh_tally (closes a.call) (cut_of a.call) fresh_tally

    taken_more : taken (calls ▸ a) ≡ taken calls ++ cut_of a.call
    unfolding taken
    taken_more = rw t

    plain_taken : Trace.taken (kept calls ▸ one) ≡ Trace.taken (kept calls) ++ cut_of a.call
    unfolding Trace.taken
    plain_taken = rw plain_accepted

    ended_more : ended (calls ▸ a) ≡ closes a.call
    unfolding ended
    ended_more = rw (not_ended, t)

    plain_ended : Trace.ended (kept calls ▸ one) ≡ closes a.call
    unfolding Trace.ended
    plain_ended = rw (sym z.over ∙ not_ended, plain_accepted)

    written_more : written (calls ▸ a) ≡ written calls ++ washed_for (after calls) (closes a.call) (cut_of a.call)
    unfolding written
    written_more = rw t

    counted_more : counted (calls ▸ a) ≡ plus (counted calls) (sums_for (after calls) (closes a.call) (cut_of a.call))
    unfolding counted
    counted_more = rw t

    in_step_more : InStep (calls ▸ a)
    in_step_more =
        record {
          stream = after_more
              ∙ ap (λ (x : Stream). wash_behind x (closes a.call) (cut_of a.call)) z.stream
              ∙ behind_more
              ∙ ap (λ (x : Stream). with_tally x fresh_tally) (sym plain_after)
              ∙ ap (λ (c : Calls). with_tally (Trace.after c) fresh_tally) (sym kept_more);
          bytes = taken_more ∙ ap (λ (l : List ℕ). l ++ cut_of a.call) z.bytes ∙ sym plain_taken ∙ ap Trace.taken (sym kept_more);
          over = ended_more ∙ sym plain_ended ∙ ap Trace.ended (sym kept_more);
        }

in_step : (calls : Calls) → InStep calls
in_step none = in_step_start
in_step (calls ▸ a) =
    ⊎_elim (λ (t : accepted calls a ≡ true). in_step_more calls a t (in_step calls)) (λ (f : accepted calls a ≡ false). in_step_refused calls a f (in_step calls)) (two (accepted calls a))

-- ======== THE READINGS of the bytes taken, in one cut

unfoldable reads_to : Bool → List ℕ → List (Sight Cut)
reads_to true s = sights_of Wash.cut_of (says_by false) (within zero) 0 s
reads_to false s = (ran_of Wash.cut_of (says_by false) (within zero) 0 s).seen

abbrev run : List ℕ → Got Cut
run s = ran_of Wash.cut_of (says_by false) (within zero) 0 s

-- before the closing call the stream stands where they leave it
stands : (calls : Calls) → ended calls ≡ false → Stands (after calls) (run (taken calls))
unfolding meant_by Cuts.feed_of
stands calls n =
    let z = in_step calls in
    let m = stands_for (kept calls) (sym z.over ∙ n) in
    let r = same_run false (within zero) 0 (taken calls) in
    rw (z.stream, z.bytes)
    (record {
      mode = ap (λ (y : Cuts.Stream Tally). y.mode) m ∙ ap (λ (g : Got Seen). g.mode) (rw z.bytes at r);
      place = ap (λ (y : Cuts.Stream Tally). y.place) m ∙ ap (λ (g : Got Seen). g.place) (rw z.bytes at r);
      kept = ap (λ (y : Cuts.Stream Tally). y.kept) m ∙ ap (λ (g : Got Seen). g.kept) (rw z.bytes at r);
    })

-- one more cut, or the closing call, behind what was taken
reads_more : (x : Stream) (s : List ℕ) → Stands x (run s) → (call : Call) → reads_to (closes call) (s ++ cut_of call) ≡ reads_to false s ++ reads_for x (closes call) (cut_of call)
unfolding reads_to
reads_more x s z (Feed cut) =
    ap (λ (g : Got Cut). g.seen) (ran_append Wash.cut_of (says_by false) cut_kept (within zero) 0 s cut)
    ∙ ap (λ (l : List (Sight Cut)). (run s).seen ++ l) (sym (reads_behind x (run s) z false cut))
reads_more x s z Close =
    ap (sights_of Wash.cut_of (says_by false) (within zero) 0) (append-nil s)
    ∙ sym (final_seen Wash.cut_of (says_by false) (within zero) 0 s)
    ∙ ap (λ (g : Got Cut). g.seen) (final_after Wash.cut_of (says_by false) (within zero) 0 s)
    ∙ ap (λ (l : List ℕ). (run s).seen ++ (final_of Wash.cut_of (says_by false) (run s).mode (run s).place l).seen) (sym (append-nil (run s).kept))
    ∙ ap (λ (l : List (Sight Cut)). (run s).seen ++ l) (sym (reads_behind x (run s) z true []))

sums_more : (x : Stream) (s : List ℕ) → Stands x (run s) → (ys : List (Sight Cut)) → sums_of false (reads_to false s ++ ys) ≡ plus (sums_of false (reads_to false s)) (sums_of x.seeking ys)
unfolding reads_to
sums_more x s z ys = sums_run false false 0 s ys ∙ ap (λ (b : Bool). plus (sums_of false (run s).seen) (sums_of b ys)) (seeks_behind x (run s) z)

record Made (calls : Calls) : Type 0 where
  bytes : written calls ≡ washed (reads_to (ended calls) (taken calls))
  sums : counted calls ≡ sums_of false (reads_to (ended calls) (taken calls))

made : (calls : Calls) → Made calls
unfolding written counted taken ended reads_to washed joined each_of sums_of ran_of
made none = record { bytes = refl; sums = refl }
made (calls ▸ a) =
    ⊎_elim
    (λ (t : accepted calls a ≡ true).
    let z = in_step calls in
    let n = not_ended calls a t z in
    let st = stands calls n in
    let x = after calls in
    let new = reads_for x (closes a.call) (cut_of a.call) in
    let e : reads_to (ended (calls ▸ a)) (taken (calls ▸ a)) ≡ reads_to false (taken calls) ++ new = ap₂ reads_to (ended_more calls a t z) (taken_more calls a t z) ∙ reads_more x (taken calls) st a.call in
    let m : Made calls = made calls in
    record {
      bytes = written_more calls a t z ∙ ap (λ (l : List ℕ). l ++ washed new) (m.bytes ∙ ap (λ (b : Bool). washed (reads_to b (taken calls))) n) ∙ sym (washed_append (reads_to false (taken calls)) new) ∙ ap washed (sym e);
      sums = counted_more calls a t z ∙ ap (λ (s : Sums). plus s (sums_of x.seeking new)) (m.sums ∙ ap (λ (b : Bool). sums_of false (reads_to b (taken calls))) n) ∙ sym (sums_more x (taken calls) st new) ∙ ap (sums_of false) (sym e);
    })
    (λ (f : accepted calls a ≡ false).
    let m : Made calls = made calls in
    let e : reads_to (ended (calls ▸ a)) (taken (calls ▸ a)) ≡ reads_to (ended calls) (taken calls) = ap₂ reads_to (ended_refused calls a f) (taken_refused calls a f) in
    record { bytes = written_refused calls a f ∙ m.bytes ∙ ap washed (sym e); sums = counted_refused calls a f ∙ m.sums ∙ ap (sums_of false) (sym e) })
    (two (accepted calls a))

-- ======== IN THE WALK'S OWN WORDS

plain_reads : (e : Bool) (s : List ℕ) → plain (reads_to e s) ≡ readings e s
unfolding reads_to readings
plain_reads true s =
    ap plain (sym (final_seen Wash.cut_of (says_by false) (within zero) 0 s))
    ∙ sym (ap (λ (g : Got Seen). g.seen) (same_run true (within zero) 0 s))
    ∙ final_seen seen_of says_of (within zero) 0 s
plain_reads false s = sym (ap (λ (g : Got Seen). g.seen) (same_run false (within zero) 0 s)) ∙ ran_below seen_of says_of (within zero) 0 s

-- each reading is that of its place
data Owned (s : List ℕ) : List (Sight Cut) → Type 0 where
  o_nil : Owned s []
  o_cons : {x : Sight Cut} {xs : List (Sight Cut)} → x.read ≡ Wash.cut_of (drop x.place s) → Owned s xs → Owned s (x ∷ xs)

owned_append : (s : List ℕ) (a b : List (Sight Cut)) → Owned s a → Owned s b → Owned s (a ++ b)
owned_append s a b o_nil h = h
owned_append s a b (o_cons e r) h = o_cons e (owned_append s _ b r h)

owned_front : (s : List ℕ) (a b : List (Sight Cut)) → Owned s (a ++ b) → Owned s a
owned_front s [] b h = o_nil
owned_front s (x ∷ a) b (o_cons e r) = o_cons e (owned_front s a b r)

module _ (s : List ℕ) (p : ℕ) where
  abbrev c : Cut
  c = Wash.cut_of (drop p s)

  owned_found : (w : Says) → Owned s (found w p c)
  unfolding found
  owned_found (frame n) = o_cons refl o_nil
  owned_found more = o_nil
  owned_found bad = o_nil

  owned_noted : (m : Mode) (w : Says) → Owned s (noted m w p c)
  unfolding noted
  owned_noted (within zero) w = o_cons refl o_nil
  owned_noted (within (suc k)) w = o_nil
  owned_noted seeking w = owned_found w

owned_sights : (s : List ℕ) (m : Mode) (p : ℕ) (t : List ℕ) → drop p s ≡ t → Owned s (sights_of Wash.cut_of (says_by false) m p t)
unfolding sights_of
owned_sights s m p [] d = o_nil
owned_sights s m p (b ∷ t) d =
    let w = says_of (seen_of (b ∷ t)) in
    owned_append s (noted m w p (Wash.cut_of (b ∷ t))) _ (rw d at (owned_noted s p m w)) (owned_sights s (next m w) (p + 1) t (sym (drop-drop 1 p s) ∙ ap (drop 1) d))

owned_reads : (e : Bool) (s : List ℕ) → Owned s (reads_to e s)
unfolding reads_to
owned_reads true s = owned_sights s (within zero) 0 s refl
owned_reads false s =
    let e = sym (final_seen Wash.cut_of (says_by false) (within zero) 0 s) ∙ ap (λ (g : Got Cut). g.seen) (final_after Wash.cut_of (says_by false) (within zero) 0 s) in
    owned_front s (run s).seen _ (rw e at (owned_sights s (within zero) 0 s refl))

washed_is : (s : List ℕ) (xs : List (Sight Cut)) → Owned s xs → washed xs ≡ clean_in s (plain xs)
unfolding washed joined each_of frames_in
washed_is s xs o_nil = refl
washed_is s xs (o_cons {x = x} {xs = t} e r) =
    let own : x.read.own ≡ take (seen_of (drop x.place s)).size (drop x.place s) = ap (λ (y : Cut). y.own) e in
    let at : x.read.seen ≡ seen_of (drop x.place s) = ap (λ (y : Cut). y.seen) e in
    ap₂ (λ (f l : List ℕ). scrubbed f ++ l) own (washed_is s t r)
    ∙ sym (adds s x.place (seen_of (drop x.place s)) refl (plain t))
    ∙ ap (λ (y : Seen). clean_in s (record { place = x.place; read = y } ∷ plain t)) (sym at)

frames_is : (b : Bool) (xs : List (Sight Cut)) → (sums_of b xs).frames ≡ frames_of (plain xs)
unfolding sums_of plus one_of frames_of each_of
frames_is b [] = refl
frames_is b (x ∷ xs) = ap (λ (n : ℕ). accepts (seen_number x.read.seen) + n) (frames_is (seeks_after x.read.seen) xs)

unjudged_is : (b : Bool) (xs : List (Sight Cut)) → (sums_of b xs).unjudged ≡ unjudged_of (plain xs)
unfolding sums_of plus one_of unjudged_of each_of
unjudged_is b [] = refl
unjudged_is b (x ∷ xs) = ap (λ (n : ℕ). unjudged_by x.read.seen.msg_type + n) (unjudged_is (seeks_after x.read.seen) xs)

one_found : (t : Bool) (n : ℕ) → pick (not t) n 0 ≡ pick t 0 n
one_found true n = refl
one_found false n = refl

found_is : (before : ℕ) (xs : List (Sight Cut)) → (sums_of (not (eqb before 0)) xs).found ≡ found_in before (plain xs)
unfolding sums_of plus one_of found_in found_by each_of
found_is before [] = refl
found_is before (x ∷ xs) = ap₂ (λ (m n : ℕ). m + n) (one_found (eqb before 0) (accepts (seen_number x.read.seen))) (found_is (seen_number x.read.seen) xs)

-- ======== THE THEOREM, for every row of calls
pub cleaned_as_it_arrives : (calls : Calls) → Arrives calls
cleaned_as_it_arrives calls =
    let z = in_step calls in
    let f = every_cutting (kept calls) in
    let m = made calls in
    let s = taken calls in
    let xs = reads_to (ended calls) s in
    let p = plain_reads (ended calls) s in
    record {
      bytes = m.bytes ∙ washed_is s xs (owned_reads (ended calls) s) ∙ ap (clean_in s) p;
      length_told = ap (λ (t : Sums). t.bytes) m.sums ∙ washed_length false xs ∙ ap length (sym m.bytes);
      frames = ap (λ (t : Sums). t.frames) m.sums ∙ frames_is false xs ∙ ap frames_of p;
      found = ap (λ (t : Sums). t.found) m.sums ∙ found_is 0 xs ∙ ap (found_in 0) p;
      unjudged = ap (λ (t : Sums). t.unjudged) m.sums ∙ unjudged_is false xs ∙ ap unjudged_of p;
      few = rw z.stream f.few;
      keeps_last = rw (z.stream, z.bytes) f.keeps_last;
      stands_there = λ n. rw (z.stream, z.bytes) (f.stands_there (sym z.over ∙ n));
      rules = rw z.stream (fresh_sound (Trace.after (kept calls)) f.rules);
      closed = rw (z.stream, z.over) f.closed;
    }

-- after the closing call: the cleaned capture
pub cleaned_whole : (calls : Calls) → ended calls ≡ true → Cleaned calls
unfolding readings clean_of clean_answer fits_in
cleaned_whole calls e =
    let a = cleaned_as_it_arrives calls in
    let z = in_step calls in
    let b : written calls ≡ clean_of (taken calls) = a.bytes ∙ rw e in
    record {
      bytes = b;
      told = λ room h. rw (le-leb (length (clean_of (taken calls))) room h, a.length_told, b, a.frames, a.found, e);
      none = rw z.stream (closing_call (kept calls) (sym z.over ∙ e)).1.none;
    }

-- ======== OF THE CODE'S CALLS

pub ran_is : {calls : Calls} {x : Stream} → Row calls x → x ≡ after calls
ran_is (opening e) = e
ran_is (one_more {calls} {x} call d d' r row p) = p.1.0 ∙ ap (λ (y : Stream). next_of y call (length d)) (ran_is row)

-- what a call wrote is what its paper tells
wrote_by : (a : Result Sums Refusal) → result_unwrap_or a no_sums ≡ counts_in (summed_paper a).values
wrote_by (Ok s) = refl
wrote_by (Err w) = refl

wrote_in : (r : Fed Sums) → wrote r ≡ counts_in (washed_paper r).values
wrote_in r = wrote_by r.answer

module _ (x : Stream) (call : Call) (d d' : List ℕ) (r : Fed Sums) (p : Promised x (closes call) (cut_of call) d d' r) where
  pub sums_are : wrote r ≡ pick (eqb (number_to x call (length d)) 0) (sums_for x (closes call) (cut_of call)) no_sums
  unfolding answer_for
  sums_are = wrote_in r ∙ ap (λ (y : Paper). counts_in y.values) p.0

  found_by_lem : (t : Bool) → eqb (number_to x call (length d)) 0 ≡ t → take (wrote r).bytes d' ≡ pick t (washed_for x (closes call) (cut_of call)) []
  unfolding leaves_for
  found_by_lem true e =
      let w : d' ≡ laid 0 (washed_for x (closes call) (cut_of call)) d = p.1.1 ∙ rw e in
      let n : (wrote r).bytes ≡ length (washed_for x (closes call) (cut_of call)) = ap (λ (t : Sums). t.bytes) sums_are ∙ rw e (washed_length x.seeking (reads_for x (closes call) (cut_of call))) in
      rw (n, w) (take_front (length (washed_for x (closes call) (cut_of call))) (washed_for x (closes call) (cut_of call)) d refl)
  found_by_lem false e = rw (sums_are, e)

heard_written : {calls : Calls} {x : Stream} (row : Row calls x) → heard row ≡ written calls
unfolding written
heard_written (opening e) = refl
heard_written (one_more {calls} {x} call d d' r row p) = ap₂ (λ (a b : List ℕ). a ++ b) (heard_written row) (found_by_lem x call d d' r p _ refl ∙ rw (ran_is row))

-- what a host then has: the decided frames, each scrubbed, end to end
pub heard_so_far : {calls : Calls} {x : Stream} (row : Row calls x) → heard row ≡ clean_in (taken calls) (readings (ended calls) (taken calls))
heard_so_far {calls} row = heard_written row ∙ (cleaned_as_it_arrives calls).bytes

-- after the closing call, the cleaned capture
pub heard_whole : {calls : Calls} {x : Stream} (row : Row calls x) → ended calls ≡ true → heard row ≡ clean_of (taken calls)
heard_whole {calls} row e = heard_written row ∙ (cleaned_whole calls e).bytes

-- and what it has counted is what cleaning counts
pub heard_counted : {calls : Calls} {x : Stream} (row : Row calls x) → heard_counts row ≡ counted calls
unfolding counted
heard_counted (opening e) = refl
heard_counted (one_more {calls} {x} call d d' r row p) = ap₂ plus (heard_counted row) (sums_are x call d d' r p ∙ rw (ran_is row))
