-- For each public function: wrong answers that its promise rules out, as tables of what is given
-- and what is then wrong. Assumes nothing.
use Rattle.std.proofs.Common.{ℕ, List, [], ◌∷◌, ◌++◌, length, take, drop, replicate, refl, Bor, Ok}
use contract.Lifetimes.{Lfts}
use base.Fml.{GName}
use Rattle.terms.specs.Letters.{spelled}
use Rattle.terms.specs.Paper.{Paper, answer, refusal}
use Rattle.terms.specs.RuledOut.{Row, ◌never◌, ◌only◌, Kept, Allows, RulesOut, ruled, lists, papers, Left, left, lefts, left_is}
use Rattle.octets.specs.Octets.{numeral, digits_of, laid, sum8, sum_of}
use Rattle.octets.specs.Papers.{written_paper}
use Rattle.calendar.specs.Calendar.{leap, days_in, real_parts, real_time}
use Rattle.rules.specs.Table.{kind_of, suits, measure_of}
use Rattle.rules.specs.Bodies.{channel_body}
use Rattle.rules.specs.Fields.{p001_ok, fields_ok, judge_of}
use Rattle.frame_spec.specs.Frame.{checked, read_of, body_read}
use Rattle.frame_spec.specs.Write.{Message, message, plain_of, frame_of, write_of, left_of}
use Rattle.frame_spec.specs.Search.{first_of, search_of}
use Rattle.frame_spec.specs.Examples.{start_of_a, frame_a, frame_b, four, ending, A, timed, framed}
use Rattle.terms.specs.Counters.{session_of}
use Rattle.frame.specs.Papers.{read_paper, found_paper}
use Rattle.frame.proofs.read_at.Reads as read_at
use Rattle.frame.proofs.read_at.Kinds as read-at-kinds
use Rattle.frame.proofs.body_at.Reads as body_at
use Rattle.frame.proofs.body_at.Kinds as body-at-kinds
use Rattle.frame.proofs.write.Reads as write
use Rattle.frame.proofs.write.Kinds as write-kinds
use Rattle.frame.proofs.search.Reads as search-reads
use Rattle.frame.proofs.search.Kinds as search-kinds

-- what document 01's frame A, an S003, reads as; and the body of its frame B, a P001
abbrev read_a : Paper
read_a = answer 0 (spelled "S003" ∷ 0x0047FA7908DACB40 ∷ 1 ∷ 0 ∷ [])

abbrev body_b : List ℕ
body_b = 0x0D ∷ 0x00 ∷ 0x64 ∷ 0 ∷ 0 ∷ 0 ∷ 0 ∷ 0 ∷ 0 ∷ 0 ∷ 3 ∷ 0x4E ∷ []

-- a moment of the thirteenth month
abbrev month13 : ℕ
month13 = 20261301093000000

-- READ_AT: bytes and a place
abbrev pub read_at_wrong : List (Row (List ℕ × ℕ) Paper)
read_at_wrong =
    (A, 0) only read_a  -- not refused: a reader that refuses everything is wrong here
    ∷ (frame_b, 0) never read_a  -- one fixed message for every frame
    ∷ (ending 1 0x8E, 0) never read_a  -- only the low byte of CheckSum compared
    ∷ (ending 0 0x8F, 0) never read_a  -- CheckSum not compared
    ∷ (replicate 20 0 ++ four 0x1F 0xE5, 0) only refusal 2  -- 3, or 1 for the whole length, before 2: a header of no type with BodyLength 8,165
    ∷ (start_of_a ++ four 0x1F 0xE5, 0) only refusal 3  -- 4, or 1 for the whole length, before 3: an S003 header with that BodyLength
    ∷ (start_of_a ++ four 0 1, 0) only refusal 4  -- 1 for the whole length before 4: an S003 header with BodyLength 1
    ∷ (take 24 frame_b ++ (12 ∷ drop 25 frame_b), 0) only refusal 5  -- 6 before 5: SecurityType 12, with the sum of 13
    ∷ (0xFF ∷ A, 1) only read_a  -- not read at the front, whatever the place
    ∷ (timed month13 (spelled "S003") [], 0) only refusal 7  -- month 13 taken
    ∷ (timed 20260431093000000 (spelled "S003") [], 0) only refusal 7  -- day 31 taken in April
    ∷ (take 27 (timed month13 (spelled "S003") []) ++ (0 ∷ []), 0) only refusal 5  -- 7 answered before 5
    ∷ (timed month13 (spelled "P001") (channel_body 12 0x59), 0) only refusal 7  -- 6 answered before 7
    ∷ (framed (spelled "P001") (channel_body 12 0x59), 0) only refusal 6  -- 7 for every frame that is refused behind its sum
    ∷ []

pub read_at_rules_out : RulesOut (Kept _ read-at-kinds.ps read-at-kinds.r read_at.Post) (λ c. (c.args.0.now, c.args.1.0)) (λ c. read_paper c.result) read_at_wrong
unfolding frame_a start_of_a frame_b checked plain_of frame_of read_of numeral digits_of sum8 sum_of kind_of suits measure_of p001_ok fields_ok real_time real_parts days_in leap judge_of
read_at_rules_out = ruled papers (λ (i : List ℕ × ℕ). read_of (drop i.1 i.0)) (λ c p. p) _ refl

-- BODY_AT: bytes and a place
abbrev pub body_at_wrong : List (Row (List ℕ × ℕ) (List ℕ))
body_at_wrong =
    (frame_b, 0) only body_b  -- not empty, no byte early or short
    ∷ (ending 0 0x8F, 0) only []  -- nothing of a frame that is refused
    ∷ []

pub body_at_rules_out : RulesOut (Kept _ body-at-kinds.ps body-at-kinds.r body_at.Post) (λ c. (c.args.0.now, c.args.1.0)) (λ c. c.result.now) body_at_wrong
unfolding frame_a start_of_a frame_b checked read_of body_read numeral sum8 sum_of kind_of suits measure_of p001_ok fields_ok real_time real_parts days_in leap judge_of
body_at_rules_out = ruled lists (λ (i : List ℕ × ℕ). body_read (drop i.1 i.0)) (λ c p. p) _ refl

-- SEARCH: bytes and the place to start from; the answer is a place, or none
abbrev pub search_wrong : List (Row (List ℕ × ℕ) Paper)
search_wrong =
    (0xFF ∷ A, 0) never answer 0 []  -- a search that finds nothing
    ∷ (0xFF ∷ A, 0) only answer 0 (1 ∷ [])  -- no later place, none that does not read
    ∷ (A, 0) only answer 0 (0 ∷ [])  -- not one byte late: the start itself
    ∷ (A, 1) only answer 0 []  -- no place before the start
    ∷ (A, 29) only refusal 9  -- beyond the end is no "none"
    ∷ []

pub search_rules_out : RulesOut (Kept _ search-kinds.ps search-kinds.r search-reads.Post) (λ c. (c.args.0.now, c.args.1.0)) (λ c. found_paper c.result) search_wrong
unfolding frame_a start_of_a checked read_of first_of search_of numeral sum8 sum_of kind_of suits measure_of fields_ok real_time real_parts days_in leap judge_of
search_rules_out = ruled papers (λ (i : List ℕ × ℕ). search_of i.0 i.1) (λ c p. p) _ refl

-- WRITE: a message and a lent buffer; the answer, and the buffer then
abbrev message_b : Message
message_b = message (spelled "P001") 0x0047FA7908DACB40 2 body_b

abbrev pub write_wrong : List (Row (Message × List ℕ) Left)
write_wrong =
    (message_b, replicate 41 7) only left (answer 0 (40 ∷ [])) (frame_b ++ (7 ∷ []))  -- not refused, all of B, and the byte behind it kept
    ∷ (message_b, replicate 39 7) only left (refusal 8) (replicate 39 7)  -- nothing stored before 8
    ∷ (message (spelled "P001") 0 2 [], replicate 40 7) only left (refusal 4) (replicate 40 7)  -- 4 is told before 7, and before 8 is looked for
    ∷ (message (spelled "P001") month13 2 body_b, replicate 40 7) only left (refusal 7) (replicate 40 7)  -- a writer that does not look at the time
    ∷ (message (spelled "P001") month13 2 (channel_body 12 0x59), []) only left (refusal 7) []  -- 6 or 8 told before 7
    ∷ (message (spelled "P001") 0x0047FA7908DACB40 2 (channel_body 12 0x59), []) only left (refusal 6) []  -- 8 told before 6
    ∷ []

pub write_rules_out : RulesOut (Kept _ write-kinds.ps write-kinds.r write.Post) (λ c. (message c.args.0 c.args.1.0 c.args.1.1.0.0 c.args.1.1.1.0.now, c.args.1.1.1.1.0.now)) (λ c. left (written_paper c.result) c.exit.1.1.1.1.0.now) write_wrong
unfolding frame_b checked plain_of frame_of write_of left_of numeral digits_of laid sum8 sum_of kind_of suits measure_of p001_ok fields_ok real_time real_parts days_in leap judge_of
write_rules_out =
    ruled lefts (λ (i : Message × List ℕ). left (write_of i.0 (length i.1)) (left_of i.0 i.1)) (λ c p. left_is p) _ refl

-- THERE ARE SUCH CALLS: A lent anywhere, under any name, is read at 0 as A, and the promise allows
-- it. So no row above holds for want of calls.
pub read_at_allows : (κs : Lfts 1) (at : ℕ × ℕ) (name : GName) → Allows {I = List ℕ × ℕ} (Kept _ read-at-kinds.ps read-at-kinds.r read_at.Post) (λ c. (c.args.0.now, c.args.1.0)) (λ c. read_paper c.result) (A, 0) read_a
unfolding frame_a start_of_a checked read_of numeral sum8 sum_of kind_of suits measure_of fields_ok real_time real_parts days_in leap judge_of
read_at_allows κs at name =
    let bytes : Bor (List ℕ) = record { ref_ptr = at; now = A } in
    record {
      call = record { lifetimes = κs; args = (bytes, (0, tt)); result = Ok (record { msg_type = spelled "S003"; sending_time = 0x0047FA7908DACB40; seq = session_of 1; body_len = 0 }); exit = (bytes, (0, tt)) };
      given = refl;
      outcome = refl;
      promised = refl;
    }
