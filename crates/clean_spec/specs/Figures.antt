-- A cleaned capture has the walk of the capture, refusals left out: no refusal, as many frames, the
-- same ledger, the same records but for places.
use Rattle.std.specs.Prelude.{ℕ, ◌+◌, ◌≡◌, refl, eqb, length}
use Rattle.std.proofs.Math.Path.{sym, ap}
use Rattle.std.proofs.Common.{◌∙◌, ⊎_elim, arith, eq-eqb, ne_eqb}
use mathlib.Core.List.{List, [], ◌∷◌, ◌++◌}
use Rattle.terms.specs.Cases.{same}
use Rattle.terms.specs.Paper.{pick}
use Rattle.ledger_spec.specs.State.{Book}
use Rattle.ledger_spec.specs.Calls.{Call, fresh}
use Rattle.ledger_spec.specs.Trace.{Calls, none, after}
use Rattle.walk_laws.specs.Walk.{Says, frame, more, bad, Sight}
use Rattle.record.specs.declared.Record.{Record}
use Rattle.walk_laws.specs.Account as Account
use Rattle.walk_laws.specs.Account.{account_of}
use Rattle.walk_laws.specs.Frames.{each_of, f_nil, f_cons, tagged_of, frames_in, reads_of}
use Rattle.reading.specs.declared.Seen.{Seen}
use Rattle.reading.specs.Seen.{seen_of, seen_number, says_of}
use Rattle.reading.specs.SeenLaws.{says_frame, frame_says}
use Rattle.walk_spec.specs.Offers.{calls_by, offering, offer_of}
use Rattle.walk_spec.specs.OfferLaws.{calls_refused}
use Rattle.walk_spec.specs.Walk.{made_of, record_by, book_by, sights, walk_of, accepts, refuses, frames_of, refused_of, added, calls_from, calls_of}
use Rattle.walk_spec.specs.CallLaws.{walk_ledger}
use Rattle.clean_spec.specs.Clean.{clean_of, found_by, found_in, found_of}
use Rattle.clean_spec.specs.Laws.{AllFrames, clean_sights, clean_reads, scrubs_to_frames}

-- WHAT IS MADE OF THE ACCEPTED READINGS ALONE

abbrev pub reads : List (Sight Seen) → List Seen
reads xs = reads_of seen_of says_of xs

not_frame : (x : Seen) (w : Says) → says_of x ≡ w → (seen_number x ≡ 0 → ⊥) → frames_in w x ≡ []
unfolding frames_in
not_frame x (frame n) e ne = absurd (ne (frame_says x n e).0)
not_frame x more e ne = refl
not_frame x bad e ne = refl

accepts_frame : (n : ℕ) → n ≡ 0 → accepts n ≡ 1
unfolding accepts
accepts_frame n z = rw z

accepts_refused : (n : ℕ) → (n ≡ 0 → ⊥) → accepts n ≡ 0
unfolding accepts
accepts_refused n ne = rw (ne_eqb n 0 ne)

refuses_frame : (n : ℕ) → n ≡ 0 → refuses n ≡ 0
unfolding refuses
refuses_frame n z = rw z

found_none : (before n : ℕ) → before ≡ 0 → found_by before n ≡ 0
unfolding found_by
found_none before n z = rw z

-- an accepted reading comes first, a refused one falls away
pub reads_frame : (x : Sight Seen) (xs : List (Sight Seen)) → seen_number x.read ≡ 0 → reads (x ∷ xs) ≡ x.read ∷ reads xs
unfolding reads_of frames_in
reads_frame x xs z = rw (says_frame x.read z)

pub reads_refused : (x : Sight Seen) (xs : List (Sight Seen)) → (seen_number x.read ≡ 0 → ⊥) → reads (x ∷ xs) ≡ reads xs
unfolding reads_of
reads_refused x xs ne = ap (λ (l : List Seen). l ++ reads xs) (not_frame x.read _ refl ne)

-- as many frames as accepted readings
frames_reads : (xs : List (Sight Seen)) → frames_of xs ≡ length (reads xs)
unfolding frames_of reads_of
frames_reads [] = refl
frames_reads (x ∷ xs) =
    ⊎_elim (λ (z : seen_number x.read ≡ 0). omega (arith, accepts_frame (seen_number x.read) z, ap length (reads_frame x xs z), frames_reads xs))
    (λ (ne : seen_number x.read ≡ 0 → ⊥). omega (arith, accepts_refused (seen_number x.read) ne, ap length (reads_refused x xs ne), frames_reads xs))
    (same (seen_number x.read) 0)

-- the calls are those of the accepted readings
unfoldable pub calls_made : Calls → List Seen → Calls
calls_made calls [] = calls
calls_made calls (x ∷ xs) = calls_made (added calls (calls_by x)) xs

pub calls_reads : (calls : Calls) (xs : List (Sight Seen)) → calls_from calls xs ≡ calls_made calls (reads xs)
unfolding calls_from reads_of calls_made
calls_reads calls [] = refl
calls_reads calls (x ∷ xs) =
    ⊎_elim (λ (z : seen_number x.read ≡ 0). calls_reads (added calls (calls_by x.read)) xs ∙ sym (ap (calls_made calls) (reads_frame x xs z)))
    (λ (ne : seen_number x.read ≡ 0 → ⊥).
    ap (λ (more : List Call). calls_from (added calls more) xs) (calls_refused x.read ne) ∙ calls_reads calls xs ∙ sym (ap (calls_made calls) (reads_refused x xs ne)))
    (same (seen_number x.read) 0)

-- READINGS OF FRAMES END TO END: none is refused, and none stands behind damage
tagged_refused : (p : ℕ) (fs : List (List ℕ)) → AllFrames fs → refused_of (tagged_of seen_of says_of p fs) ≡ 0
unfolding refused_of tagged_of
tagged_refused p fs f_nil = refl
tagged_refused p fs (f_cons {f = f} {fs = t} e r) =
    omega (arith, refuses_frame (seen_number (seen_of f)) (frame_says (seen_of f) (length f) e).0, tagged_refused (p + length f) t r)

tagged_found : (before p : ℕ) (fs : List (List ℕ)) → before ≡ 0 → AllFrames fs → found_in before (tagged_of seen_of says_of p fs) ≡ 0
unfolding found_in tagged_of
tagged_found before p fs b f_nil = refl
tagged_found before p fs b (f_cons {f = f} {fs = t} e r) =
    omega (arith, found_none before (seen_number (seen_of f)) b, tagged_found (seen_number (seen_of f)) (p + length f) t (frame_says (seen_of f) (length f) e).0 r)

-- RECORDS, but for their places
abbrev pub unplaced : Record → Record
unplaced r =
    record {
      place = 0;
      msg_type = r.msg_type;
      answer = r.answer;
      seq = r.seq;
      tick = r.tick;
      channel = r.channel;
      body_len = r.body_len;
      floor = r.floor;
      top = r.top;
    }

-- the records of the readings that were frames
unfoldable pub frame_records : Book → List (Sight Seen) → List Record
frame_records b [] = []
frame_records b (x ∷ xs) = pick (eqb (seen_number x.read) 0) (record_by b x ∷ frame_records (book_by b x) xs) (frame_records (book_by b x) xs)

-- those of accepted readings, at no place
abbrev nowhere : Seen → Sight Seen
nowhere r = record { place = 0; read = r }

records_made : Book → List Seen → List Record
records_made b [] = []
records_made b (r ∷ rs) = record_by b (nowhere r) ∷ records_made (book_by b (nowhere r)) rs

unplaced_by : (b : Book) (x : Sight Seen) → unplaced (record_by b x) ≡ record_by b (nowhere x.read)
unfolding record_by made_of
unplaced_by b x = refl

book_nowhere : (b : Book) (x : Sight Seen) → book_by b x ≡ book_by b (nowhere x.read)
unfolding book_by
book_nowhere b x = refl

-- a refused reading leaves the ledger as it is
book_refused : (b : Book) (x : Sight Seen) → (seen_number x.read ≡ 0 → ⊥) → book_by b x ≡ b
unfolding book_by offer_of offering
book_refused b x ne = ap (λ (calls : List Call). (offering b (seen_number x.read) calls).book) (calls_refused x.read ne)

records_reads : (b : Book) (xs : List (Sight Seen)) → each_of unplaced (frame_records b xs) ≡ records_made b (reads xs)
unfolding frame_records each_of reads_of records_made
records_reads b [] = refl
records_reads b (x ∷ xs) =
    ⊎_elim
    (λ (z : seen_number x.read ≡ 0).
    rw (eq-eqb (seen_number x.read) 0 z) (rw (unplaced_by b x, records_reads (book_by b x) xs, book_nowhere b x)) ∙ sym (ap (records_made b) (reads_frame x xs z)))
    (λ (ne : seen_number x.read ≡ 0 → ⊥).
    rw (ne_eqb (seen_number x.read) 0 ne) (rw (book_refused b x ne) (records_reads b xs)) ∙ sym (ap (records_made b) (reads_refused x xs ne)))
    (same (seen_number x.read) 0)

-- of frames end to end these are all records
tagged_records : (b : Book) (p : ℕ) (fs : List (List ℕ)) → AllFrames fs → (account_of record_by book_by b (tagged_of seen_of says_of p fs)).records ≡ frame_records b (tagged_of seen_of says_of p fs)
unfolding account_of tagged_of frame_records
tagged_records b p fs f_nil = refl
tagged_records b p fs (f_cons {f = f} {fs = t} e r) =
    rw (eq-eqb (seen_number (seen_of f)) 0 (frame_says (seen_of f) (length f) e).0, tagged_records (book_by b (record { place = p; read = seen_of f })) (p + length f) t r)

-- THE CLEANED CAPTURE'S WALK
module _ (s : List ℕ) where
  pub clean_refused : refused_of (sights (clean_of s)) ≡ 0
  clean_refused = ap refused_of (clean_sights s) ∙ tagged_refused 0 _ (scrubs_to_frames s)

  pub clean_found : found_of (clean_of s) ≡ 0
  clean_found = ap (found_in 0) (clean_sights s) ∙ tagged_found 0 0 _ refl (scrubs_to_frames s)

  pub clean_counts : frames_of (sights (clean_of s)) ≡ frames_of (sights s)
  clean_counts = frames_reads (sights (clean_of s)) ∙ ap length (clean_reads s) ∙ sym (frames_reads (sights s))

  pub clean_calls : calls_of (clean_of s) ≡ calls_of s
  unfolding calls_of
  clean_calls = calls_reads none (sights (clean_of s)) ∙ ap (calls_made none) (clean_reads s) ∙ sym (calls_reads none (sights s))

  pub clean_ledger : (walk_of (clean_of s)).ledger ≡ (walk_of s).ledger
  clean_ledger = walk_ledger (clean_of s) ∙ ap (after 100) clean_calls ∙ sym (walk_ledger s)

  all_records : (walk_of (clean_of s)).records ≡ frame_records (fresh 100) (sights (clean_of s))
  unfolding Account.walk_of
  all_records =
      ap (λ (xs : List (Sight Seen)). (account_of record_by book_by (fresh 100) xs).records) (clean_sights s)
      ∙ tagged_records (fresh 100) 0 _ (scrubs_to_frames s)
      ∙ ap (frame_records (fresh 100)) (sym (clean_sights s))

  -- its records are those of the capture's frames, but for their places
  pub clean_records : each_of unplaced (walk_of (clean_of s)).records ≡ each_of unplaced (frame_records (fresh 100) (sights s))
  clean_records =
      ap (each_of unplaced) all_records
      ∙ records_reads (fresh 100) (sights (clean_of s))
      ∙ ap (records_made (fresh 100)) (clean_reads s)
      ∙ sym (records_reads (fresh 100) (sights s))
