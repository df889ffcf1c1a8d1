-- Document 02, CR 6, sentence by sentence, over reading, writing and the walk.
use Rattle.std.specs.Prelude.{ℕ, ◌+◌, ◌≤◌, ◌≡◌, refl, true, false, List, [], ◌∷◌, length, drop}
use Rattle.std.proofs.Common.{sym, ap, ◌∙◌, arith}
use Rattle.terms.specs.Cases.{clash}
use Rattle.terms.specs.Paper.{answer}
use Rattle.octets.specs.Octets.{be}
use Rattle.calendar.specs.Calendar.{RealTime, leap, days_in, real_parts, real_time}
use Rattle.calendar.proofs.Times.{time_says}
use Rattle.frame_spec.specs.Frame.{read_of}
use Rattle.frame_spec.specs.Write.{Message, write_of}
use Rattle.frame_spec.specs.GivenRead.{read_given_0}
use Rattle.frame_spec.specs.GivenWrite.{write_given_0}
use Rattle.frame_spec.specs.Search.{search_of}
use Rattle.frame_spec.specs.Lowest.{search_given_place}
use Rattle.private.specs.Scrub.{scrub_answer, scrubbed}
use Rattle.private.specs.Laws.{refused_same}
use Rattle.private.proofs.Laws.{scrub_number}
use Rattle.ledger_spec.specs.State.{Book}
use Rattle.record.specs.Record.{blank_of}
use Rattle.reading.specs.Seen.{seen_of}
use Rattle.walk_spec.specs.Walk.{record_by}
use Rattle.walk_spec.specs.FrameLaws.{refused_record}

-- "A FRAME'S TIME MUST BE A REAL DATE": of every frame that is read, and of every one
-- that is written
pub read_is_real : (s : List ℕ) → (read_of s).number ≡ 0 → RealTime (be 8 4 s)
read_is_real s z = ((read_given_0 s).0 z).1.before.time

pub written_is_real : (m : Message) (room : ℕ) → (write_of m room).number ≡ 0 → RealTime m.time
written_is_real m room z = ((write_given_0 m room).0 z).1.0.before.time

-- so of every one that a search finds; and one that is refused by 7 is not scrubbed
pub found_is_real : (s : List ℕ) (from p : ℕ) → from ≤ length s → search_of s from ≡ answer 0 (p ∷ []) → RealTime (be 8 4 (drop p s))
found_is_real s from p h e = read_is_real (drop p s) ((search_given_place s from p h).0 e).reads

pub unreal_unscrubbed : (s : List ℕ) → (read_of s).number ≡ 7 → ((scrub_answer s).number ≡ 7) × (scrubbed s ≡ s)
unreal_unscrubbed s e = (scrub_number s ∙ e, refused_same s (λ z. omega arith))

-- "A test gateway sent month 13": 1 of month 13, 2026, 09:30, is never read and never written
not_real : real_time 20261301093000000 ≡ false
unfolding real_time real_parts days_in leap
not_real = refl

month_13 : RealTime 20261301093000000 → ⊥
month_13 r = clash ((time_says 20261301093000000).1 r) not_real

pub month_13_unread : (s : List ℕ) → be 8 4 s ≡ 20261301093000000 → (read_of s).number ≡ 0 → ⊥
month_13_unread s e z = month_13 (rw e at (read_is_real s z))

pub month_13_unwritten : (m : Message) (room : ℕ) → m.time ≡ 20261301093000000 → (write_of m room).number ≡ 0 → ⊥
month_13_unwritten m room e z = month_13 (rw e at (written_is_real m room z))

-- "A RECORD OF ANSWER 7 IS FILLED AS ONE OF 1 TO 6": place, answer, floor and top, and nothing else
pub time_record : (s : List ℕ) → (read_of s).number ≡ 7 → (b : Book) (p : ℕ) → record_by b (record { place = p; read = seen_of s }) ≡ blank_of p 7 b.floor b.top
time_record s e b p = refused_record s (λ z. omega arith) b p ∙ ap (λ (n : ℕ). blank_of p n b.floor b.top) e
