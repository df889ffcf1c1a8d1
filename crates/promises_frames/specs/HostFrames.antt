-- Demand 2 through the host, where an answer is a bare number and the rest is told in a lent row:
-- of whatever its functions may answer by their promises, as `HostRead`, `HostWrote` and
-- `HostScrubbed` of `host_frames` have it. The search rule is `HostFound`'s own. Bytes are below
-- 256 (`Bytes`), and a message's numbers fit their widths (`Widths`): both hold of every value that
-- a host can lend.
use Rattle.std.specs.Prelude.{ℕ, ◌+◌, ◌≤◌, ◌≡◌, ◌↔◌, List, [], ◌∷◌, length, take, drop, get_or, Ok}
use Rattle.std.proofs.Common.{sym, ap, ◌∙◌, drop-drop, get_or-drop}
use Rattle.terms.specs.Paper.{answer, one_number}
use Rattle.octets.specs.Octets.{Bytes}
use Rattle.frame_spec.specs.Frame.{body_length, read_of}
use Rattle.frame_spec.specs.Given.{Reads0}
use Rattle.frame_spec.specs.Outcomes.{read_length}
use Rattle.frame_spec.specs.Places.{body_of}
use Rattle.frame_spec.specs.RoundTrip.{Widths, write_read, read_then_write, write_then_read, write_then_body}
use Rattle.frame_spec.specs.Write.{Message, message, message_of, write_of, left_of}
use Rattle.private.specs.Laws.{refused_same}
use Rattle.private.proofs.Laws.{scrub_number}
use Rattle.host_words.specs.Told.{seen}
use Rattle.host_frames.specs.Means.{HostRead, HostWrote, HostScrubbed}
use Rattle.host_frames.proofs.Means as Means
use Rattle.promises_frames.specs.Demand2.{ScrubbedFrame, scrubbed_frame}

-- "A frame reads exactly if it meets IS120 0.62 as document 01 sets it out."
pub host_reads_exactly : {f : List ℕ} {x : ℕ} {row : List ℕ} → HostRead f x row → (x ≡ 0) ↔ Reads0 f
host_reads_exactly r = r.given 0

-- "Writing what was read gives the same bytes": the numbers that were told of a frame, with its
-- body, written by rk_write
module _ (bytes : List ℕ) (at : ℕ) {x : ℕ} {row : List ℕ} (r : HostRead (drop at bytes) x row) (z : x ≡ 0) where
  abbrev here : List ℕ
  here = drop at bytes

  abbrev again : Message
  again = message (get_or row 0 0) (get_or row 1 0) (get_or row 2 0) (take (get_or row 3 0) (drop (at + 24) bytes))

  as_read : again ≡ message_of here
  as_read = rw (r.told z, ← drop-drop 24 at bytes)

  length_told : get_or row 3 0 ≡ body_length here
  length_told = ap (λ (l : List ℕ). get_or l 3 0) (r.told z)

  reads : (read_of here).number ≡ 0
  reads = sym (one_number r.reading) ∙ z

  small_here : Bytes bytes → Bytes here
  small_here small i = rw (get_or-drop at bytes i 0) (small (at + i))

  pub host_same_bytes : Bytes bytes → {d d' : List ℕ} {y told : ℕ} → HostWrote again d y told d' → 28 + get_or row 3 0 ≤ length d
      → (seen y (told ∷ []) ≡ answer 0 ((28 + get_or row 3 0) ∷ [])) × (take (28 + get_or row 3 0) d' ≡ take (28 + get_or row 3 0) here)
  host_same_bytes small {d} w room =
      let b = small_here small in
      let h : 28 + body_length here ≤ length d = rw length_told at room in (
        w.writing ∙ ap (λ (m : Message). write_of m (length d)) as_read ∙ rw length_told (write_read here b reads (length d) h),
        rw length_told (ap (take (28 + body_length here)) (w.buffer ∙ ap (λ (m : Message). left_of m d) as_read) ∙ read_then_write here d b reads h),
      )

-- "and reading what was written the same message": what rk_write left, read by rk_read
-- from the front
module _ {m : Message} {d d' : List ℕ} {x told : ℕ} (w : HostWrote m d x told d') (z : x ≡ 0) (widths : Widths m) {y : ℕ} {row : List ℕ} (r : HostRead (drop 0 d') y row) where
  done : (write_of m (length d)).number ≡ 0
  done = sym (one_number w.writing) ∙ z

  read_back : read_of d' ≡ answer 0 (m.type ∷ m.time ∷ m.seq ∷ length m.content ∷ [])
  read_back = ap read_of w.buffer ∙ write_then_read m d widths done

  pub host_same_message : (seen y (take 4 row) ≡ answer 0 (m.type ∷ m.time ∷ m.seq ∷ length m.content ∷ [])) × (take (length m.content) (drop 24 d') ≡ m.content)
  host_same_message = (
    r.reading ∙ read_back,
    ap (λ (n : ℕ). take n (drop 24 d')) (read_length d' _ _ _ _ (sym read_back))
        ∙ sym (body_of d' (one_number read_back)) ∙ rw w.buffer (write_then_body m d widths done),
  )

-- "A scrubbed frame reads, holds the fill in each private field and a checksum set anew, and has
-- every other byte of the original."
module _ {d d' : List ℕ} {x told : ℕ} (c : HostScrubbed d x told d') where
  scrub_answers : x ≡ (read_of d).number
  scrub_answers = one_number c.scrubbing ∙ scrub_number d

  pub host_scrubbed_frame : (read_of d).number ≡ 0 → (x ≡ 0) × ScrubbedFrame d d' (Ok told)
  host_scrubbed_frame z =
      let e : x ≡ 0 = scrub_answers ∙ z in
      (e, scrubbed_frame d d' (Ok told) (record { paper = rw e at c.scrubbing; buffer = c.buffer }) z)

  -- what does not read is passed on as it stands, with reading's number
  pub host_passed_on : ((read_of d).number ≡ 0 → ⊥) → (x ≡ (read_of d).number) × (d' ≡ d)
  host_passed_on n = (scrub_answers, c.buffer ∙ refused_same d n)

-- that each call of the host, by the checker's promise of its `ensures`, is such a record
data Named : Type 0 where
  named : Named

ties : Named
ties =
    let rk_read_reads = Means.rk_read_reads in
    let rk_write_writes = Means.rk_write_writes in
    let rk_search_finds = Means.rk_search_finds in
    let rk_scrub_scrubs = Means.rk_scrub_scrubs in
    named
