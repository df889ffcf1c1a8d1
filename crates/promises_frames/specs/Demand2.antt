-- Demand 2, sentence by sentence, of whatever the functions may answer by their promises. A list of
-- bytes has numbers below 256 (`Bytes`), and a message's numbers fit their widths (`Widths`): both
-- hold of every value that the code can pass.
use Rattle.std.specs.Prelude.{ℕ, ◌+◌, ◌-◌, ◌<◌, ◌≤◌, ◌≡◌, refl, ◌↔◌, List, [], ◌∷◌, length, take, drop, get_or, Option, Result, Ok}
use Rattle.std.proofs.Common.{sym, ap, ◌∙◌, ⊎_elim, arith, get_or-drop}
use Rattle.terms.specs.Paper.{Paper, answer, one_number}
use Rattle.terms.specs.declared.SessionNumber.{SessionNumber}
use Rattle.terms.specs.declared.Refusal.{Refusal}
use Rattle.octets.specs.Octets.{sum8, Bytes}
use Rattle.octets.specs.Papers.{written_paper}
use Rattle.rules.specs.Table.{kind_of}
use Rattle.frame.specs.declared.Header.{Header}
use Rattle.frame_spec.specs.Outcomes.{good, good_reads}
use Rattle.frame_spec.specs.Frame.{msg_type, sending_time, msg_seq_num, body_length, body, plain, check_sum, read_of, body_read}
use Rattle.frame_spec.specs.Given.{Reads, Reads0}
use Rattle.frame_spec.specs.GivenRead.{read_given, read_given_0}
use Rattle.frame.specs.Papers.{read_paper, read_one}
use Rattle.frame_spec.specs.Places.{body_of}
use Rattle.frame_spec.specs.Write.{Message, message, message_of, write_of, left_of}
use Rattle.frame_spec.specs.RoundTrip.{Widths, write_read, read_then_write, write_then_read, write_then_body}
use Rattle.private.specs.Scrub.{scrubbed, scrub_answer}
use Rattle.private.specs.Laws.{refused_same}
use Rattle.private.proofs.Laws.{scrub_number, scrub_length, scrub_keeps, scrub_fills, scrub_reads, scrub_sum, answer_as}
use Rattle.private.specs.PrivateLaws.{PrivateByte}
use Rattle.private.proofs.PrivateLaws.{private_is}
use Rattle.frame.specs.Papers.{found_paper}
use Rattle.frame_spec.specs.Lowest.{ReadsAt, LowestPlace, search_given_place, search_given_none, search_given_9}
use Rattle.promises_frames.specs.Calls.{header, ReadCall, BodyCall, WriteCall, SearchCall, ScrubCall}

-- the bytes from a place on are bytes
small_drop : (at : ℕ) (s : List ℕ) → Bytes s → Bytes (drop at s)
small_drop at s small i = rw (get_or-drop at s i 0) (small (at + i))

-- "A frame reads exactly if it meets IS120 0.62 as document 01 sets it out." And each refusal is
-- given exactly when its row says.
pub record ReadsExactly (bytes : List ℕ) (at : ℕ) (x : Result Header Refusal) : Type 0 where
  pub meets : ((read_paper x).number ≡ 0) ↔ Reads0 (drop at bytes)
  pub each_number : (n : ℕ) → ((read_paper x).number ≡ n) ↔ Reads n (drop at bytes)

pub reads_exactly : (bytes : List ℕ) (at : ℕ) (x : Result Header Refusal) → ReadCall bytes at x → ReadsExactly bytes at x
reads_exactly bytes at x r =
    record {
      meets = rw r.paper (read_given_0 (drop at bytes));
      each_number = λ n. rw r.paper (read_given n (drop at bytes));
    }

-- "Writing what was read gives the same bytes"
pub record SameBytes (bytes : List ℕ) (at n : ℕ) (x : Result ℕ Refusal) (left : List ℕ) : Type 0 where
  pub answered : written_paper x ≡ answer 0 ((28 + n) ∷ [])
  pub bytes_same : take (28 + n) left ≡ take (28 + n) (drop at bytes)

-- what the values of a frame that was read are: the message at its place
module _ (bytes : List ℕ) (at t time : ℕ) (q : SessionNumber) (n : ℕ) (r : ReadCall bytes at (Ok (header t time q n))) where
  abbrev here : List ℕ
  here = drop at bytes

  reads_0 : (read_of here).number ≡ 0
  reads_0 = sym (one_number r.paper)

  values : answer 0 (t ∷ time ∷ q.0 ∷ n ∷ []) ≡ answer 0 (msg_type here ∷ sending_time here ∷ msg_seq_num here ∷ body_length here ∷ [])
  values = r.paper ∙ good_reads here (good here reads_0)

  value : (i : ℕ) → get_or (t ∷ time ∷ q.0 ∷ n ∷ []) i 0 ≡ get_or (msg_type here ∷ sending_time here ∷ msg_seq_num here ∷ body_length here ∷ []) i 0
  value i = ap (λ (p : Paper). get_or p.values i 0) values

  as_read : (b : List ℕ) → BodyCall bytes at b → message t time q.0 b ≡ message_of here
  as_read b p =
      let e : b ≡ body here = p.part ∙ body_of here reads_0 in
      rw (value 0, value 1, value 2, e)

  pub same_bytes : Bytes bytes → (b out left : List ℕ) (x : Result ℕ Refusal) → BodyCall bytes at b → WriteCall (message t time q.0 b) out x left → 28 + n ≤ length out
      → SameBytes bytes at n x left
  same_bytes small b out left x p w room =
      let m = as_read b p in
      let k : body_length here ≡ n = sym (value 3) in
      let h : 28 + body_length here ≤ length out = rw k room in
      record {
        answered = w.paper ∙ ap (λ (y : Message). write_of y (length out)) m ∙ write_read here (small_drop at bytes small) reads_0 (length out) h ∙ ap (λ (j : ℕ). answer 0 ((28 + j) ∷ [])) k;
        bytes_same = rw (w.buffer, m, ← k) (read_then_write here out (small_drop at bytes small) reads_0 h);
      }

-- "and reading what was written the same message"
pub record SameMessage (t time : ℕ) (q : SessionNumber) (b : List ℕ) (y : Result Header Refusal) (c : List ℕ) : Type 0 where
  pub values_same : y ≡ Ok (header t time q (length b))
  pub body_same : c ≡ b

pub same_message : (t time : ℕ) (q : SessionNumber) (b out left : List ℕ) (x : Result ℕ Refusal) → Widths (message t time q.0 b)
    → WriteCall (message t time q.0 b) out x left → (written_paper x).number ≡ 0 → (y : Result Header Refusal) (c : List ℕ) → ReadCall left 0 y → BodyCall left 0 c
    → SameMessage t time q b y c
same_message t time q b out left x widths w z y c r p =
    let m = message t time q.0 b in
    let done : (write_of m (length out)).number ≡ 0 = sym (one_number w.paper) ∙ z in
    record {
      values_same = read_one y (Ok (header t time q (length b))) (r.paper ∙ ap read_of w.buffer ∙ write_then_read m out widths done);
      body_same = p.part ∙ ap body_read w.buffer ∙ write_then_body m out widths done;
    }

-- "A scrubbed frame reads, holds the fill in each private field and a checksum set anew, and has
-- every other byte of the original." PrivateByte has the places outright: 0 to 63 of an S001's
-- body, 4 to 259 of an S002's, 20 to 51 of a P002's, 45 to the end of an M201's.
pub record ScrubbedFrame (buf left : List ℕ) (x : Result ℕ Refusal) : Type 0 where
  pub answered : written_paper x ≡ answer 0 ((28 + body_length buf) ∷ [])
  pub reads : read_of left ≡ read_of buf
  pub fills : (i : ℕ) → i < body_length buf → PrivateByte (kind_of (msg_type buf)) (body buf) i → get_or left (24 + i) 0 ≡ 0x20
  pub sum : check_sum left ≡ sum8 (plain left)
  pub others : (i : ℕ) → ((24 ≤ i) → PrivateByte (kind_of (msg_type buf)) (body buf) (i - 24) → ⊥) → ((24 + body_length buf ≤ i) → i < 28 + body_length buf → ⊥) → get_or left i 0 ≡ get_or buf i 0
  pub long : length left ≡ length buf

pub scrubbed_frame : (buf left : List ℕ) (x : Result ℕ Refusal) → ScrubCall buf x left → (read_of buf).number ≡ 0 → ScrubbedFrame buf left x
scrubbed_frame buf left x c z =
    let k = kind_of (msg_type buf) in
    record {
      answered = c.paper ∙ sym (answer_as buf z (body_length buf) refl);
      reads = ap read_of c.buffer ∙ scrub_reads buf z;
      fills = λ i l h. ap (λ (d : List ℕ). get_or d (24 + i) 0) c.buffer ∙ scrub_fills buf z i l ((private_is k (body buf) i).1 h);
      sum = rw c.buffer (scrub_sum buf z);
      others = λ i f g. ap (λ (d : List ℕ). get_or d i 0) c.buffer
          ∙ scrub_keeps buf z i (⊎_elim (λ h. f h.0 ((private_is k (body buf) (i - 24)).0 h.1)) (λ h. g h.0 h.1));
      long = ap length c.buffer ∙ scrub_length buf z;
    }

-- what does not read is passed on as it stands, with reading's number
pub record PassedOn (buf left : List ℕ) (x : Result ℕ Refusal) : Type 0 where
  pub number : (written_paper x).number ≡ (read_of buf).number
  pub same : left ≡ buf

pub passed_on : (buf left : List ℕ) (x : Result ℕ Refusal) → ScrubCall buf x left → ((read_of buf).number ≡ 0 → ⊥) → PassedOn buf left x
passed_on buf left x c n = record { number = one_number c.paper ∙ scrub_number buf; same = c.buffer ∙ refused_same buf n }

-- The search rule (document 01, Search): the lowest place from the start on where a frame reads, or
-- none; 9 for a start beyond the end.
pub record FindsLowest (bytes : List ℕ) (from : ℕ) (x : Result (Option ℕ) Refusal) : Type 0 where
  pub place : from ≤ length bytes → (p : ℕ) → (found_paper x ≡ answer 0 (p ∷ [])) ↔ LowestPlace bytes from p
  pub none : from ≤ length bytes → (found_paper x ≡ answer 0 []) ↔ ((j : ℕ) → from ≤ j → ReadsAt bytes j → ⊥)
  pub beyond : ((found_paper x).number ≡ 9) ↔ (length bytes < from)

pub finds_lowest : (bytes : List ℕ) (from : ℕ) (x : Result (Option ℕ) Refusal) → SearchCall bytes from x → FindsLowest bytes from x
finds_lowest bytes from x r =
    record {
      place = λ h p. rw r.paper (search_given_place bytes from p h);
      none = λ h. rw r.paper (search_given_none bytes from h);
      beyond = rw r.paper (search_given_9 bytes from);
    }
