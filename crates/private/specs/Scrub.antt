-- What scrubbing answers and leaves.
use Rattle.std.specs.Prelude.{ℕ, ◌+◌, List, [], ◌∷◌, take, replicate}
use Rattle.terms.specs.Paper.{Paper, answer, pick}
use Rattle.octets.specs.Octets.{bytes_of, sum8, laid}
use Rattle.rules.specs.Table.{kind_of}
use Rattle.frame_spec.specs.Frame.{msg_type, body_length, body, read_of, reads}
use Rattle.private.specs.declared.Span.{Span}
use Rattle.private.specs.Private.{private_of}

-- a body with spans painted over, one after the other
unfoldable pub painted : List Span → List ℕ → List ℕ
painted [] b = b
painted (p ∷ ps) b = painted ps (laid p.place (replicate p.len p.fill) b)

-- the spans of the frame at the front of s
abbrev pub spans_of : List ℕ → List Span
spans_of s = private_of (kind_of (msg_type s)) (body s)

-- its body without what is private
abbrev pub clean_body : List ℕ → List ℕ
clean_body s = painted (spans_of s) (body s)

-- d with the sum of its first n bytes stored in the four behind them
unfoldable pub summed : ℕ → List ℕ → List ℕ
summed n d = laid n (bytes_of 4 (sum8 (take n d))) d

-- the buffer after scrubbing: a frame that reads is painted over and its sum set anew; else nothing
-- changes (document 01, Scrubber)
unfoldable pub scrubbed : List ℕ → List ℕ
scrubbed s = pick (reads s) (summed (24 + body_length s) (laid 24 (clean_body s) s)) s

-- how many bytes the scrubbed frame has, or reading's refusal
unfoldable pub scrub_answer : List ℕ → Paper
scrub_answer s = pick (reads s) (answer 0 ((28 + body_length s) ∷ [])) (read_of s)
