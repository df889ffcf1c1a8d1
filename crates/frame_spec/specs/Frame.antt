-- Document 01, "Frame": what reading the bytes at the front of a list finds.
use Rattle.std.specs.Prelude.{ℕ, ◌+◌, ◌≤◌, ◌≡◌, Bool, List, [], ◌∷◌, length, take, drop, leb, eqb}
use Rattle.terms.specs.Paper.{Paper, answer, refusal, pick}
use Rattle.octets.specs.Octets.{be, sum8}
use Rattle.rules.specs.Table.{kind_of, measure_of}
use Rattle.rules.specs.Fields.{judge_of}

-- the header: four fields of 4, 8, 8 and 4 bytes (document 01, Frame, paragraph 1)
abbrev pub msg_type : List ℕ → ℕ
msg_type s = be 4 0 s

abbrev pub sending_time : List ℕ → ℕ
sending_time s = be 8 4 s

abbrev pub msg_seq_num : List ℕ → ℕ
msg_seq_num s = be 8 12 s

abbrev pub body_length : List ℕ → ℕ
body_length s = be 4 20 s

-- then the body
abbrev pub body : List ℕ → List ℕ
body s = take (body_length s) (drop 24 s)

-- all header and body bytes
abbrev pub plain : List ℕ → List ℕ
plain s = take (24 + body_length s) s

-- the sum as it is stored, in the four bytes after the body
abbrev pub check_sum : List ℕ → ℕ
check_sum s = be 4 (24 + body_length s) s

-- a check's number where it is not 0, else what comes after it
unfoldable pub checked : ℕ → Paper → Paper
checked m p = pick (eqb m 0) p (refusal m)

-- reading's checks in their order: the header is there, 2, 3, 4, the whole frame is there, 5, 7, 6
-- (document 01, Numbers, paragraph 2; 7 by CR 6)
unfoldable pub read_of : List ℕ → Paper
read_of s =
    pick (leb 24 (length s))
    (checked (measure_of (kind_of (msg_type s)) (body_length s))
    (pick (leb (28 + body_length s) (length s))
    (pick (eqb (check_sum s) (sum8 (plain s)))
    (checked (judge_of (kind_of (msg_type s)) (sending_time s) (body s))
    (answer 0 (msg_type s ∷ sending_time s ∷ msg_seq_num s ∷ body_length s ∷ [])))
    (refusal 5))
    (refusal 1)))
    (refusal 1)

-- a frame reads
abbrev pub reads : List ℕ → Bool
reads s = eqb (read_of s).number 0

-- the body of a frame that reads; of any other, nothing
unfoldable pub body_read : List ℕ → List ℕ
body_read s = pick (reads s) (body s) []

-- what the checks up to the whole length establish
pub record Whole (s : List ℕ) : Type 0 where
  pub header : 24 ≤ length s
  pub measured : measure_of (kind_of (msg_type s)) (body_length s) ≡ 0
  pub there : 28 + body_length s ≤ length s
