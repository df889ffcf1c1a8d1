-- The answers of reading and searching in document 01's numbers.
use Rattle.std.specs.Prelude.{◌≡◌, ℕ, List, [], ◌∷◌, slice_index, refl, Result, Ok, Err, Option, Some, None}
use Rattle.std.proofs.Common.{sym, ap, ◌∙◌}
use Rattle.terms.specs.Paper.{Paper, answer, refusal}
use Rattle.terms.specs.declared.Refusal.{Refusal}
use Rattle.terms.specs.Refusals.{number_of, told}
use Rattle.terms.proofs.Refusals.{told_refused}
use Rattle.terms.specs.Counters.{session_of}
use Rattle.rules.specs.Table.{kind_of}
use Rattle.frame.specs.declared.Header.{Header}
use Rattle.frame.specs.declared.Head.{Head}
use Rattle.frame.specs.declared.Message.{Message}
use Rattle.frame_spec.specs.Write as Text
use Rattle.frame_spec.specs.Write.{message}
use Rattle.frame_spec.specs.Frame.{msg_type, body_length, read_of, Whole}

-- a frame's paper has MsgType, SendingTime, MsgSeqNum and BodyLength
abbrev pub read_paper : Result Header Refusal → Paper
read_paper (Ok h) = answer 0 (h.msg_type ∷ h.sending_time ∷ h.seq.0 ∷ h.body_len ∷ [])
read_paper (Err w) = refusal (number_of w)

header_told : List ℕ → Result Header Refusal
header_told vs = Ok (record { msg_type = slice_index vs 0; sending_time = slice_index vs 1; seq = session_of (slice_index vs 2); body_len = slice_index vs 3 })

read_told : (r : Result Header Refusal) → told header_told Err (read_paper r) ≡ r
unfolding told header_told
read_told (Ok h) = refl
read_told (Err w) = told_refused header_told Err w

-- two readings of one paper are one
pub read_one : (x y : Result Header Refusal) → read_paper x ≡ read_paper y → x ≡ y
read_one x y e = sym (read_told x) ∙ ap (told header_told Err) e ∙ read_told y

-- "none" has the number 0 and no place
abbrev pub found_paper : Result (Option ℕ) Refusal → Paper
found_paper (Ok (Some p)) = answer 0 (p ∷ [])
found_paper (Ok None) = answer 0 []
found_paper (Err w) = refusal (number_of w)

place_told : List ℕ → Result (Option ℕ) Refusal
place_told [] = Ok None
place_told (p ∷ vs) = Ok (Some p)

found_told : (r : Result (Option ℕ) Refusal) → told place_told Err (found_paper r) ≡ r
unfolding told place_told
found_told (Ok (Some p)) = refl
found_told (Ok None) = refl
found_told (Err w) = told_refused place_told Err w

pub found_one : (x y : Result (Option ℕ) Refusal) → found_paper x ≡ found_paper y → x ≡ y
found_one x y e = sym (found_told x) ∙ ap (told place_told Err) e ∙ found_told y

-- the message that is written, in the words of the definitions
abbrev pub text_of : Message → Text.Message
text_of m = message m.msg_type m.sending_time m.seq.0 m.body.now

-- what the checks up to the whole length say of the bytes at the front of s: their refusal is
-- reading's, or they are passed
abbrev pub HeadSays : Result Head Refusal → List ℕ → Type 0
HeadSays (Err w) s = read_of s ≡ refusal (number_of w)
HeadSays (Ok h) s = (h.kind ≡ kind_of (msg_type s)) × (h.body_len ≡ body_length s) × Whole s
