-- A message as a frame, and what writing it answers: 3, 25, 7, 26, 8, in this order.
use Rattle.std.specs.Prelude.{ℕ, ◌+◌, List, [], ◌∷◌, ◌++◌, eqb, leb, length}
use Rattle.terms.specs.Paper.{Paper, answer, refusal, pick}
use Rattle.terms.specs.Checks.{or_else}
use Rattle.octets.specs.Octets.{sum8, laid}
use Rattle.digits.specs.Digits.{shown_of}
use Rattle.step_tags.specs.Table.{among, types}
use Rattle.step_spec.specs.Pieces.{SOH}
use Rattle.step_spec.specs.Fields.{judge_of}
use Rattle.step_spec.specs.Frame.{begin, length_tag, type_tag, trailer_of}

-- all before the trailer: `8=FIXT.1.1`, `9=` and the length of what follows it, `35=` and the
-- type, the fields
unfoldable pub plain_of : ℕ → List ℕ → List ℕ
plain_of type fs = begin ++ (length_tag ++ (shown_of (length fs + 5) ++ (SOH ∷ (type_tag ++ (type ∷ SOH ∷ fs)))))

unfoldable pub frame_of : ℕ → List ℕ → List ℕ
frame_of type fs = plain_of type fs ++ trailer_of (sum8 (plain_of type fs))

unfoldable pub message_of : ℕ → List ℕ → ℕ
message_of type fs = or_else (pick (leb (length (frame_of type fs)) 8192) 0 3) (or_else (pick (among type types) 0 25) (judge_of type fs))

-- what writing into so much room answers, and what it leaves there
unfoldable pub step_write_of : ℕ → List ℕ → ℕ → Paper
step_write_of type fs room = pick (eqb (message_of type fs) 0) (pick (leb (length (frame_of type fs)) room) (answer 0 (length (frame_of type fs) ∷ [])) (refusal 8)) (refusal (message_of type fs))

unfoldable pub step_left_of : ℕ → List ℕ → List ℕ → List ℕ
step_left_of type fs d = pick (eqb (step_write_of type fs (length d)).number 0) (laid 0 (frame_of type fs) d) d
