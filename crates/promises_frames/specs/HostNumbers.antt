-- Demand 1 through the host, for frames, where an answer is a bare number: it is 0, or one of
-- document 01's table. `Tells` says that it is a paper's, and this is said of each paper that a
-- function of `host_frames` names in its promise; then of each function.
use Rattle.std.specs.Prelude.{ℕ, ◌+◌, refl, List, [], ◌∷◌, eqb, ltb, leb, length}
use Rattle.std.proofs.Common.{ap, ⊎_elim}
use Rattle.terms.specs.Paper.{Paper, answer, refusal, pick}
use Rattle.terms.specs.Cases.{less}
use Rattle.terms.specs.Letters.{spelled}
use Rattle.octets.specs.Octets.{be}
use Rattle.rules.specs.declared.Kind.{Kind}
use Rattle.rules.specs.declared.Kind.TheVariants.{M102, M201}
use Rattle.rules.specs.Table.{kind_of, known, suits, measure_of}
use Rattle.calendar.specs.Calendar.{real_time}
use Rattle.rules.specs.Fields.{tail_ok, fields_ok, judge_of}
use Rattle.frame_spec.specs.Frame.{checked, read_of, reads, body_length}
use Rattle.frame_spec.specs.GivenRead.{read_given}
use Rattle.frame_spec.specs.Write.{Message, write_of}
use Rattle.frame_spec.specs.Search.{search_of}
use Rattle.frame_spec.specs.Lowest.{search_given_9, search_given_0}
use Rattle.entries.specs.Reader.{open_of, stands, entry_at, step_of}
use Rattle.private.specs.Parts.{span_answer}
use Rattle.private.specs.PartsLaws.{span_number}
use Rattle.private.specs.Scrub.{scrub_answer}
use Rattle.host_frames.specs.Frames.{read_told, search_told, tail_number, tail_told, broken_told, entries_told, entry_told}
use Rattle.host_frames.proofs.rk_read.Reads as rk-read
use Rattle.host_frames.proofs.rk_read.Kinds as rk-read-kinds
use Rattle.host_frames.proofs.rk_write.Reads as rk-write
use Rattle.host_frames.proofs.rk_write.Kinds as rk-write-kinds
use Rattle.host_frames.proofs.rk_search.Reads as rk-search
use Rattle.host_frames.proofs.rk_search.Kinds as rk-search-kinds
use Rattle.host_frames.proofs.rk_scrub.Reads as rk-scrub
use Rattle.host_frames.proofs.rk_scrub.Kinds as rk-scrub-kinds
use Rattle.host_frames.proofs.rk_private.Reads as rk-private
use Rattle.host_frames.proofs.rk_private.Kinds as rk-private-kinds
use Rattle.host_frames.proofs.rk_tail_field.Reads as rk-tail-field
use Rattle.host_frames.proofs.rk_tail_field.Kinds as rk-tail-field-kinds
use Rattle.host_frames.proofs.rk_broken_field.Reads as rk-broken-field
use Rattle.host_frames.proofs.rk_broken_field.Kinds as rk-broken-field-kinds
use Rattle.host_frames.proofs.rk_entries.Reads as rk-entries
use Rattle.host_frames.proofs.rk_entries.Kinds as rk-entries-kinds
use Rattle.host_frames.proofs.rk_entry.Reads as rk-entry
use Rattle.host_frames.proofs.rk_entry.Kinds as rk-entry-kinds
use Rattle.promises_words.specs.Words.{Promises, in_table, Numbered, done, refused, picked, chosen, tells_numbered}
use Rattle.promises_frames.specs.Demand1.{reads_numbered}

behind : (m : ℕ) (p : Paper) → Numbered m → Numbered p.number → Numbered (checked m p).number
unfolding checked
behind m p h g = chosen (eqb m 0) p (refusal m) g h

reading : (s : List ℕ) → Numbered (read_of s).number
reading s = reads_numbered (read_of s).number s ((read_given (read_of s).number s).0 refl)

measured : (k : Kind) (n : ℕ) → Numbered (measure_of k n)
unfolding measure_of in_table
measured k n =
    picked (known k) (pick (ltb 8164 n) 3 (pick (suits k n) 0 4)) 2
    (picked (ltb 8164 n) 3 (pick (suits k n) 0 4) (refused refl) (picked (suits k n) 0 4 (done refl) (refused refl)))
    (refused refl)

judged : (k : Kind) (time : ℕ) (b : List ℕ) → Numbered (judge_of k time b)
unfolding judge_of in_table
judged k time b = picked (real_time time) (pick (fields_ok k b) 0 6) 7 (picked (fields_ok k b) 0 6 (done refl) (refused refl)) (refused refl)

writing : (m : Message) (len : ℕ) → Numbered (write_of m len).number
unfolding write_of in_table
writing m len =
    behind (measure_of (kind_of m.type) (length m.content)) _ (measured _ _)
    (behind (judge_of (kind_of m.type) m.time m.content) _ (judged _ m.time _)
    (chosen (leb (28 + length m.content) len) (answer 0 ((28 + length m.content) ∷ [])) (refusal 8) (done refl) (refused refl)))

searching : (s : List ℕ) (from : ℕ) → Numbered (search_of s from).number
unfolding in_table
searching s from =
    ⊎_elim (λ h. refused (ap in_table ((search_given_9 s from).1 h))) (λ h. done ((search_given_0 s from).1 h)) (less (length s) from)

scrubbing : (s : List ℕ) → Numbered (scrub_answer s).number
unfolding scrub_answer
scrubbing s = chosen (reads s) (answer 0 ((28 + body_length s) ∷ [])) (read_of s) (done refl) (reading s)

opening_entries : (b : List ℕ) → Numbered (open_of b)
unfolding open_of in_table
opening_entries b =
    picked (ltb 8164 (length b)) 3 (pick (ltb (length b) 73) 4 (pick (fields_ok M102 b) 0 6)) (refused refl)
    (picked (ltb (length b) 73) 4 (pick (fields_ok M102 b) 0 6) (refused refl) (picked (fields_ok M102 b) 0 6 (done refl) (refused refl)))

stepping : (b : List ℕ) (p : ℕ) → Numbered (step_of b p).number
unfolding step_of entry_at in_table
stepping b p = chosen (stands b p) (entry_at b p) (refusal 20) (chosen (eqb (be 5 10 b) (spelled "MD001")) _ _ (done refl) (done refl)) (refused refl)

-- EACH PAPER OF THE HOST

pub record HostNumbered : Type 0 where
  pub reading : (s : List ℕ) → Numbered (read_told s).number
  pub writing : (m : Message) (len : ℕ) → Numbered (write_of m len).number
  pub searching : (s : List ℕ) (from : ℕ) → Numbered (search_told s from).number
  pub scrubbing : (s : List ℕ) → Numbered (scrub_answer s).number
  pub spans : (type : ℕ) (body : List ℕ) (i : ℕ) → Numbered (span_answer type body i).number
  pub fields : (body : List ℕ) (i : ℕ) → Numbered (tail_told body i).number
  pub broken : (type : ℕ) (body : List ℕ) → Numbered (broken_told type body).number
  pub opening_entries : (body : List ℕ) → Numbered (entries_told body).number
  pub stepping : (body : List ℕ) (place : ℕ) → Numbered (entry_told body place).number

pub host_numbered : HostNumbered
unfolding read_told search_told tail_number tail_told broken_told entries_told entry_told in_table
host_numbered =
    record {
      reading = reading;
      writing = writing;
      searching = searching;
      scrubbing = scrubbing;
      spans = λ type body i. rw (span_number type body i) (measured (kind_of type) (length body));
      fields = λ body i. picked (eqb (measure_of M201 (length body)) 0) (pick (tail_ok body) 0 6) (measure_of M201 (length body)) (picked (tail_ok body) 0 6 (done refl) (refused refl)) (measured M201 (length body));
      broken = λ type body. measured (kind_of type) (length body);
      opening_entries = opening_entries;
      stepping = stepping;
    }

-- EACH FUNCTION OF THE HOST: whatever its promise allows it to answer

pub rk_read_numbered : Promises _ rk-read-kinds.ps rk-read-kinds.r rk-read.Post (λ κs a x s. Numbered x)
rk_read_numbered κs a x s p = tells_numbered p (host_numbered.reading _)

pub rk_write_numbered : Promises _ rk-write-kinds.ps rk-write-kinds.r rk-write.Post (λ κs a x s. Numbered x)
rk_write_numbered κs a x s p = tells_numbered p.0 (host_numbered.writing _ _)

pub rk_search_numbered : Promises _ rk-search-kinds.ps rk-search-kinds.r rk-search.Post (λ κs a x s. Numbered x)
rk_search_numbered κs a x s p = tells_numbered p (host_numbered.searching _ _)

pub rk_scrub_numbered : Promises _ rk-scrub-kinds.ps rk-scrub-kinds.r rk-scrub.Post (λ κs a x s. Numbered x)
rk_scrub_numbered κs a x s p = tells_numbered p.0 (host_numbered.scrubbing _)

pub rk_tail_field_numbered : Promises _ rk-tail-field-kinds.ps rk-tail-field-kinds.r rk-tail-field.Post (λ κs a x s. Numbered x)
rk_tail_field_numbered κs a x s p = tells_numbered p (host_numbered.fields _ _)

pub rk_private_numbered : Promises _ rk-private-kinds.ps rk-private-kinds.r rk-private.Post (λ κs a x s. Numbered x)
rk_private_numbered κs a x s p = tells_numbered p (host_numbered.spans _ _ _)

pub rk_broken_field_numbered : Promises _ rk-broken-field-kinds.ps rk-broken-field-kinds.r rk-broken-field.Post (λ κs a x s. Numbered x)
rk_broken_field_numbered κs a x s p = tells_numbered p (host_numbered.broken _ _)

pub rk_entries_numbered : Promises _ rk-entries-kinds.ps rk-entries-kinds.r rk-entries.Post (λ κs a x s. Numbered x)
rk_entries_numbered κs a x s p = tells_numbered p (host_numbered.opening_entries _)

pub rk_entry_numbered : Promises _ rk-entry-kinds.ps rk-entry-kinds.r rk-entry.Post (λ κs a x s. Numbered x)
rk_entry_numbered κs a x s p = tells_numbered p (host_numbered.stepping _ _)
