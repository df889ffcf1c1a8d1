-- CR 1: every row of calls, refusals among them, gives what the closed walk gives over the joined
-- bytes of the calls not refused. It rests on frame laws 1 to 3 (`seen_kept`, `seen_fits`,
-- `seen_enough`), not on the text of reading. Assumes nothing.
use Prim.Native.Nat.{ℕ, zero, suc, ◌+◌, ◌-◌, ◌/◌, ◌≤◌, ◌<◌}
use mathlib.Core.Path.{◌≡◌, refl, sym, ap, ap₂, ◌∙◌}
use mathlib.Core.Bool.{Bool, true, false, not}
use mathlib.Core.Logic.{⊎_elim}
use mathlib.Core.List.{List, [], ◌∷◌, ◌++◌, append-nil}
use native.Mathlib.Omega.{arith}
use native.Mathlib.Nat.{zero-add}
use lib.Dec.{leb, ltb}
use lib.ListN.{length, drop, replicate, length-append}
use borrow.Author.Tests.{eqb-true, lt-leb, le-leb}
use Rattle.terms.specs.Paper.{pick}
use Rattle.terms.specs.Cases.{two, less}
use Rattle.octets.specs.Octets.{Bytes}
use Rattle.ledger_spec.specs.State.{or_else, Book}
use Rattle.ledger_spec.specs.Calls.{fresh}
use Rattle.ledger_spec.proofs.Steps.{fresh_rules}
use Rattle.record.specs.declared.Record.{Record}
use Rattle.frame_spec.specs.Frame.{read_of}
use Rattle.walk_laws.specs.Walk.{Sight, within}
use Rattle.walk_laws.specs.Waits.{ran_of}
use Rattle.walk_laws.specs.Kept.{Between, e_within, rested}
use Rattle.walk_laws.specs.Closing.{below, wait_of, final_kept, ran_below, ran_place, ran_kept, wait_there, wait_first}
use Rattle.walk_laws.specs.Account as Account
use Rattle.walk_laws.specs.Account.{Account, account_of}
use Rattle.walk_laws.specs.Cuts as Cuts
use Rattle.reading.specs.declared.Seen.{Seen}
use Rattle.reading.specs.Seen.{seen_of, says_of}
use Rattle.reading.specs.SeenLaws.{more_says, says_more}
use Rattle.reading.proofs.SeenLaws.{seen_kept, seen_fits, seen_answer}
use Rattle.walk_spec.specs.Records.{Covers, covered}
use Rattle.walk_spec.specs.Walk.{made_of, record_by, book_by, sights, walk_of, frames_of, refused_of}
use Rattle.stream_spec.specs.declared.Stream.{Stream}
use Rattle.stream_spec.specs.declared.Tally.{Tally}
use Rattle.stream_spec.specs.Tally.{fresh_tally, record_at, tally_after}
use Rattle.stream_spec.specs.State.{last_place, head_of, meant_by, value_of, opened, sound_of}
use Rattle.stream_spec.specs.Run.{says_in}
use Rattle.stream_spec.specs.Calls.{Call, Feed, Close, cut_of, closes, feed_of, given_of, behind_of, share, number_for, number_to, next_for, next_of}
use Rattle.stream_spec.specs.CallLaws.{number_19}
use Rattle.stream_spec.specs.StateLaws.{sound_checked}
use Rattle.stream_spec.specs.CutLaws.{meant_value, head_front}
use Rattle.stream_spec.specs.Window.{enough_in}
use Rattle.stream_spec.specs.Trace.{Asked, Calls, none, ◌▸◌, after, accepted, given, taken, ended, Row, opening, one_more}
use Rattle.stream_spec.specs.Words.{records_below, wait_at, decided, readings, tallied, number_told, Follows, Closed}
use Rattle.stream_spec.proofs.Walks.{account_tally}
use Rattle.stream_spec.proofs.Rules.{rules_kept, opening_sound, Passed, passed}

-- ======== Bytes to a stream just opened, in one cut

abbrev whole : Bool → List ℕ → Cuts.Fed Tally Record
whole closing s = feed_of closing (Cuts.fresh_of fresh_tally) s

-- what its readings come to is the walk's account of them
account_is : (xs : List (Sight Seen)) → account_of record_at tally_after fresh_tally xs ≡ record { records = (account_of record_by book_by (fresh 100) xs).records; ledger = tallied xs }
account_is xs = account_tally 0 0 (fresh 100) xs (fresh_rules 100 (omega arith)) ∙ rw (zero-add (frames_of xs), zero-add (refused_of xs))

-- a record has its reading's place
place_is : (b : Book) (x : Sight Seen) → (record_by b x).place ≡ x.place
unfolding record_by made_of
place_is b x = refl

below_by : (w : ℕ) (b : Book) (x : Sight Seen) (xs : List (Sight Seen)) → (account_of record_by book_by (book_by b x) (below w xs)).records ≡ records_below w (account_of record_by book_by (book_by b x) xs).records
    → (t : Bool) → (account_of record_by book_by b (pick t (x ∷ below w xs) [])).records ≡ pick t (record_by b x ∷ records_below w (account_of record_by book_by (book_by b x) xs).records) []
unfolding account_of
below_by w b x xs e true = ap (record_by b x ∷◌) e
below_by w b x xs e false = refl

-- records are cut off where their readings are
pub below_records : (w : ℕ) (b : Book) (xs : List (Sight Seen)) → (account_of record_by book_by b (below w xs)).records ≡ records_below w (account_of record_by book_by b xs).records
unfolding account_of below records_below
below_records w b [] = refl
below_records w b (x ∷ xs) =
    below_by w b x xs (below_records w (book_by b x) xs) (ltb x.place w)
    ∙ ap (λ (p : ℕ). pick (ltb p w) (record_by b x ∷ records_below w (account_of record_by book_by (book_by b x) xs).records) []) (sym (place_is b x))

-- where the records stop before the end, reading answers 1
pub waits_there : (s : List ℕ) → wait_at s < length s → (read_of (drop (wait_at s) s)).number ≡ 1
waits_there s h =
    let z : wait_at s - 0 ≡ wait_at s = omega arith in
    let e = rw z at (wait_there seen_of says_of (within zero) 0 s (omega arith)) in
    sym (seen_answer (drop (wait_at s) s)) ∙ more_says (seen_of (drop (wait_at s) s)) e

-- and that is the first such place: one before it that answers 1 lies inside a frame that was read
pub waits_first : (s : List ℕ) (i : ℕ) → i < wait_at s → (read_of (drop i s)).number ≡ 1 → Covers i (sights s)
waits_first s i l r = covered i (sights s) (wait_first seen_of says_of s i l (says_more (seen_of (drop i s)) (seen_answer (drop i s) ∙ r)))

-- closed, it is the walk, and its counts
walked : (s : List ℕ) → ◌≡◌ {A = Account Tally Record} (record { records = (whole true s).records; ledger = (whole true s).stream.ledger })
    (record { records = (walk_of s).records; ledger = tallied (sights s) })
unfolding Account.walk_of
walked s = Cuts.close_walk seen_of says_of record_at tally_after fresh_tally s ∙ account_is (sights s)

-- the records that it decides
whole_records : (closing : Bool) (s : List ℕ) → (whole closing s).records ≡ decided closing s
unfolding Cuts.feed_of decided Account.walk_of
whole_records true s = ap (λ (a : Account Tally Record). a.records) (walked s)
whole_records false s =
    ap (λ (xs : List (Sight Seen)). (account_of record_at tally_after fresh_tally xs).records) (ran_below seen_of says_of (within zero) 0 s)
    ∙ ap (λ (a : Account Tally Record). a.records) (account_is (below (wait_at s) (sights s)))
    ∙ below_records (wait_at s) (fresh 100) (sights s)

-- and the counts and the ledger behind them
whole_tally : (closing : Bool) (s : List ℕ) → (whole closing s).stream.ledger ≡ tallied (readings closing s)
unfolding Cuts.feed_of readings
whole_tally true s = ap (λ (a : Account Tally Record). a.ledger) (walked s)
whole_tally false s =
    ap (λ (xs : List (Sight Seen)). (account_of record_at tally_after fresh_tally xs).ledger) (ran_below seen_of says_of (within zero) 0 s)
    ∙ ap (λ (a : Account Tally Record). a.ledger) (account_is (below (wait_at s) (sights s)))

-- it keeps the bytes from the place on where it stands, before the closing call the
-- first that waits
whole_kept : (closing : Bool) (s : List ℕ) → (whole closing s).stream.kept ≡ drop (whole closing s).stream.place s
unfolding Cuts.feed_of
whole_kept closing s =
    let w = wait_of seen_of (says_in closing) (within zero) 0 s in
    let z : w - 0 ≡ w = omega arith in
    ran_kept seen_of (says_in closing) (within zero) 0 s ∙ rw (z, ran_place seen_of (says_in closing) (within zero) 0 s)

whole_waits : (s : List ℕ) → (whole false s).stream.place ≡ wait_at s
unfolding Cuts.feed_of
whole_waits s = ran_place seen_of says_of (within zero) 0 s

whole_between : (s : List ℕ) → Between (whole false s).stream.mode
unfolding Cuts.feed_of
whole_between s = let h : 0 ≤ length s = omega arith in rested seen_of says_of (λ t n e. (seen_fits t n e).1) (within zero) 0 s (e_within h)

whole_place : (closing : Bool) (s : List ℕ) → (whole closing s).stream.place + length (whole closing s).stream.kept ≡ length s
whole_place closing s = (Cuts.feed_keeps seen_of (says_in closing) record_at tally_after (enough_in closing) (Cuts.fresh_of fresh_tally) s).1 ∙ omega arith

-- one more cut, or the closing call, behind what was taken
whole_more : (call : Call) (s : List ℕ) → whole (closes call) (s ++ cut_of call) ≡ Cuts.before (whole false s).records (feed_of (closes call) (whole false s).stream (cut_of call))
whole_more (Feed cut) s = Cuts.feed_append seen_of says_of record_at tally_after seen_kept (Cuts.fresh_of fresh_tally) s cut
whole_more Close s = ap (whole true) (append-nil s) ∙ Cuts.feed_close seen_of says_of record_at tally_after (Cuts.fresh_of fresh_tally) s

-- ======== A row of calls

-- THE INVARIANT: stream and records are those of the bytes taken, in one cut
record Same (calls : Calls) : Type 0 where
  stream : after calls ≡ value_of (ended calls) (whole (ended calls) (taken calls)).stream
  records : given calls ≡ (whole (ended calls) (taken calls)).records

closed_is : (calls : Calls) → Same calls → (after calls).closed ≡ ended calls
unfolding value_of
closed_is calls s = ap (λ (x : Stream). x.closed) s.stream

same_start : Same none
unfolding given taken ended opened Cuts.feed_of ran_of account_of
same_start = record { stream = refl; records = refl }

or_false : (a : Bool) → or_else a false ≡ a
or_false true = refl
or_false false = refl

-- a refused call changes nothing
module _ (calls : Calls) (a : Asked) (f : accepted calls a ≡ false) where
  same_given : given (calls ▸ a) ≡ given calls
  unfolding given
  same_given = rw (f, append-nil (given calls))

  same_taken : taken (calls ▸ a) ≡ taken calls
  unfolding taken
  same_taken = rw (f, append-nil (taken calls))

  same_ended : ended (calls ▸ a) ≡ ended calls
  unfolding ended
  same_ended = rw (f, or_false (ended calls))

  same_after : after (calls ▸ a) ≡ after calls
  unfolding next_for
  same_after = rw f

  refused_same : Same calls → Same (calls ▸ a)
  refused_same s = record { stream = rw (same_ended, same_taken) (same_after ∙ s.stream); records = rw (same_given, same_ended, same_taken) s.records }

-- before the closing call a stream stands for what the bytes taken leave
meant_open : (calls : Calls) → Same calls → ended calls ≡ false → meant_by (after calls) ≡ (whole false (taken calls)).stream
meant_open calls s n = ap meant_by s.stream ∙ rw n (meant_value false (whole false (taken calls)).stream (whole_between (taken calls)))

share_is : (calls : Calls) (call : Call) → meant_by (after calls) ≡ (whole false (taken calls)).stream → share (after calls) call ≡ (feed_of (closes call) (whole false (taken calls)).stream (cut_of call)).records
unfolding given_of
share_is calls call m = ap (λ (y : Cuts.Stream Tally). (feed_of (closes call) y (cut_of call)).records) m

-- an accepted one: the stream was not closed
module _ (calls : Calls) (a : Asked) (t : accepted calls a ≡ true) (s : Same calls) where
  goes : Passed (after calls) (closes a.call) (cut_of a.call) a.room
  goes = passed (after calls) (closes a.call) (cut_of a.call) a.room (eqb-true _ _ t)

  not_ended : ended calls ≡ false
  not_ended = sym (closed_is calls s) ∙ goes.«open»

  meant : meant_by (after calls) ≡ (whole false (taken calls)).stream
  meant = meant_open calls s not_ended

  more_given : given (calls ▸ a) ≡ given calls ++ share (after calls) a.call
  unfolding given
  more_given = rw t

  more_taken : taken (calls ▸ a) ≡ taken calls ++ cut_of a.call
  unfolding taken
  more_taken = rw t

  more_ended : ended (calls ▸ a) ≡ closes a.call
  unfolding ended
  more_ended = rw (not_ended, t)

  more_after : after (calls ▸ a) ≡ behind_of (after calls) (closes a.call) (cut_of a.call)
  unfolding next_for
  more_after = rw t

  more_pushed : behind_of (after calls) (closes a.call) (cut_of a.call) ≡ value_of (closes a.call) (feed_of (closes a.call) (whole false (taken calls)).stream (cut_of a.call)).stream
  unfolding behind_of
  more_pushed = ap (λ (y : Cuts.Stream Tally). value_of (closes a.call) (feed_of (closes a.call) y (cut_of a.call)).stream) meant

  accepted_same : Same (calls ▸ a)
  accepted_same =
      let w = whole_more a.call (taken calls) in
      record {
        stream = more_after ∙ more_pushed ∙ rw (more_ended, more_taken, w);
        records = more_given ∙ rw (more_ended, more_taken, w, share_is calls a.call meant, s.records, not_ended);
      }

same : (calls : Calls) → Same calls
same none = same_start
same (calls ▸ a) =
    ⊎_elim (λ (t : accepted calls a ≡ true). accepted_same calls a t (same calls)) (λ (f : accepted calls a ≡ false). refused_same calls a f (same calls)) (two (accepted calls a))

sound : (calls : Calls) → sound_of (after calls) ≡ true
sound none = opening_sound
sound (calls ▸ a) = rules_kept (after calls) a.call a.room (sound calls)

-- ======== The theorem

-- how many records are decided once the call is made: those given, and its share
decided_more : (calls : Calls) (call : Call) → ended calls ≡ false → length (decided (closes call) (taken calls ++ cut_of call)) ≡ length (given calls) + length (share (after calls) call)
decided_more calls call n =
    let s = same calls in
    let m = meant_open calls s n in
    let w = ap (λ (y : Cuts.Fed Tally Record). y.records) (whole_more call (taken calls)) in
    let g : given calls ≡ (whole false (taken calls)).records = s.records ∙ rw n in
    ap length (sym (whole_records (closes call) (taken calls ++ cut_of call)) ∙ w)
    ∙ length-append (whole false (taken calls)).records (feed_of (closes call) (whole false (taken calls)).stream (cut_of call)).records
    ∙ rw (g, share_is calls call m)

-- before the closing call: mode, place and kept bytes are those of the bytes taken, in one cut
pub stands_for : (calls : Calls) → ended calls ≡ false → meant_by (after calls) ≡ (feed_of false (Cuts.fresh_of fresh_tally) (taken calls)).stream
stands_for calls n = meant_open calls (same calls) n

taken_length : (calls : Calls) → (after calls).place + (after calls).len ≡ length (taken calls)
unfolding value_of
taken_length calls = rw (same calls).stream (whole_place (ended calls) (taken calls))

taken_tally : (calls : Calls) → (after calls).tally ≡ tallied (readings (ended calls) (taken calls))
unfolding value_of
taken_tally calls = rw (same calls).stream (whole_tally (ended calls) (taken calls))

taken_kept : (calls : Calls) → head_of (after calls).len (after calls).kept ≡ drop (after calls).place (taken calls)
unfolding value_of
taken_kept calls = rw (same calls).stream (head_front (whole (ended calls) (taken calls)).stream.kept _ ∙ whole_kept (ended calls) (taken calls))

taken_waits : (calls : Calls) → ended calls ≡ false → (after calls).place ≡ wait_at (taken calls)
unfolding value_of
taken_waits calls n = rw ((same calls).stream, n) (whole_waits (taken calls))

module _ (calls : Calls) (call : Call) (room : ℕ) where
  -- the test of the places, over the bytes taken
  fits_is : leb ((after calls).place + ((after calls).len + length (cut_of call))) last_place ≡ leb (length (taken calls) + length (cut_of call)) last_place
  fits_is =
      let e : (after calls).place + ((after calls).len + length (cut_of call)) ≡ length (taken calls) + length (cut_of call) = omega (arith, taken_length calls) in
      ap (λ (n : ℕ). leb n last_place) e

  -- and of the room, over the records decided
  room_is : ended calls ≡ false → leb (length (share (after calls) call)) (room / 64) ≡ leb (length (decided (closes call) (taken calls ++ cut_of call))) (length (given calls) + room / 64)
  room_is n =
      let d = decided_more calls call n in
      ⊎_elim (λ (l : room / 64 < length (share (after calls) call)). lt-leb (length (share (after calls) call)) (room / 64) l ∙ sym (lt-leb (length (decided (closes call) (taken calls ++ cut_of call))) (length (given calls) + room / 64) (omega (arith, d))))
      (λ (l : length (share (after calls) call) ≤ room / 64). le-leb (length (share (after calls) call)) (room / 64) l ∙ sym (le-leb (length (decided (closes call) (taken calls ++ cut_of call))) (length (given calls) + room / 64) (omega (arith, d))))
      (less (room / 64) (length (share (after calls) call)))

  open_number : ended calls ≡ false → number_to (after calls) call room ≡ number_told calls call room
  unfolding number_for number_told
  open_number n =
      rw (sound calls, closed_is calls (same calls), n)
      (ap₂ (λ (f r : Bool). pick (not f) 29 (pick (not r) 8 0)) fits_is (room_is n))

  closed_number : ended calls ≡ true → number_to (after calls) call room ≡ number_told calls call room
  unfolding number_told
  closed_number e = number_19 (after calls) (closes call) (cut_of call) room (sound calls) (closed_is calls (same calls) ∙ e) ∙ rw e

  number_is : number_to (after calls) call room ≡ number_told calls call room
  number_is = ⊎_elim (λ (e : ended calls ≡ true). closed_number e) (λ (n : ended calls ≡ false). open_number n) (two (ended calls))

-- CR 1, FOR EVERY ROW OF CALLS
pub every_cutting : (calls : Calls) → Follows calls
every_cutting calls =
    record {
      records = (same calls).records ∙ whole_records (ended calls) (taken calls);
      tally = taken_tally calls;
      numbers = number_is calls;
      few = (sound_checked (after calls) (sound calls)).few;
      places = taken_length calls;
      keeps_last = taken_kept calls;
      stands_there = taken_waits calls;
      rules = sound calls;
      closed = closed_is calls (same calls);
    }

-- after the closing call
whole_none : (s : List ℕ) → (whole true s).stream.kept ≡ []
unfolding Cuts.feed_of
whole_none s = final_kept seen_of says_of (within zero) 0 s

closed_value : (s : List ℕ) → Closed s (value_of true (whole true s).stream)
unfolding value_of readings Account.walk_of
closed_value s =
    let t = whole_tally true s in
    let k = whole_none s in
    record {
      frames = ap (λ (y : Tally). y.frames) t;
      refused = ap (λ (y : Tally). y.refused) t;
      ledger = ap (λ (y : Tally). y.ledger) t;
      none = ap length k;
      blank = ap (λ (l : List ℕ). l ++ replicate (8191 - length l) 0) k;
    }

pub closing_call : (calls : Calls) → ended calls ≡ true → (given calls ≡ (walk_of (taken calls)).records) × Closed (taken calls) (after calls)
unfolding decided
closing_call calls e =
    let s = same calls in
    ((every_cutting calls).records ∙ rw e, rw (s.stream, e) (closed_value (taken calls)))

-- bytes cut in any way leave one stream: it is told from the bytes taken, and from whether
-- it is closed
pub one_state : (calls others : Calls) → taken calls ≡ taken others → ended calls ≡ ended others → after calls ≡ after others
one_state calls others t e = (same calls).stream ∙ rw (t, e) (sym (same others).stream)

-- ======== The code's calls

pub ran_is : {calls : Calls} {x : Stream} → Row calls x → x ≡ after calls
ran_is (opening e) = e
ran_is (one_more {calls} {x} call d d' r row b p) = p.1.0 ∙ ap (λ (y : Stream). next_of y call (length d)) (ran_is row)

-- bytes behind bytes are bytes, and what is taken are cuts of bytes, joined
bytes_behind : (s t : List ℕ) → Bytes s → Bytes t → Bytes (s ++ t)
bytes_behind [] t p q i = q i
bytes_behind (x ∷ xs) t p q zero = p zero
bytes_behind (x ∷ xs) t p q (suc i) = bytes_behind xs t (λ j. p (suc j)) q i

pub bytes_more : (s cut : List ℕ) (t : Bool) → Bytes s → Bytes cut → Bytes (s ++ pick t cut [])
bytes_more s cut true p q = bytes_behind s cut p q
bytes_more s cut false p q = bytes_behind s [] p (λ i. omega arith)

pub ran_bytes : {calls : Calls} {x : Stream} → Row calls x → Bytes (taken calls)
unfolding taken
ran_bytes (opening e) = λ i. omega arith
ran_bytes (one_more {calls} {x} call d d' r row b p) = bytes_more (taken calls) (cut_of call) (accepted calls (record { call = call; room = length d })) (ran_bytes row) b
