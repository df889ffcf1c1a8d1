-- For each public function: wrong answers that its promise rules out, as tables of what is given
-- and what is then wrong. Assumes nothing.
use Rattle.std.proofs.Common.{ℕ, ◌+◌, Bool, true, false, List, [], ◌∷◌, length, take, drop, replicate, refl}
use Rattle.std.specs.Prelude.{nat_le}
use Rattle.terms.specs.Paper.{answer, refusal}
use Rattle.terms.specs.RuledOut.{Row, ◌never◌, ◌only◌, Kept, RulesOut, ruled, numbers, bools, lists, Left, left, lefts, left_is}
use Rattle.octets.specs.Octets.{numeral, digits_of, laid, be, bytes_of, sum8, sum_of, sum_after}
use Rattle.octets.specs.Papers.{written_paper, room_for, laid_if_room}
use Rattle.octets.proofs.U8Number.at.Reads as u8-at
use Rattle.octets.proofs.U8Number.at.Kinds as u8-at-kinds
use Rattle.octets.proofs.U16Number.at.Reads as u16-at
use Rattle.octets.proofs.U16Number.at.Kinds as u16-at-kinds
use Rattle.octets.proofs.U32Number.at.Reads as u32-at
use Rattle.octets.proofs.U32Number.at.Kinds as u32-at-kinds
use Rattle.octets.proofs.letters_at.Reads as letters-at
use Rattle.octets.proofs.letters_at.Kinds as letters-at-kinds
use Rattle.octets.proofs.U64Number.at.Reads as u64-at
use Rattle.octets.proofs.U64Number.at.Kinds as u64-at-kinds
use Rattle.octets.proofs.has_room.Reads as has-room
use Rattle.octets.proofs.has_room.Kinds as has-room-kinds
use Rattle.octets.proofs.sum.Reads as sum
use Rattle.octets.proofs.sum.Kinds as sum-kinds
use Rattle.octets.proofs.sum_after.Reads as sum-after
use Rattle.octets.proofs.sum_after.Kinds as sum-after-kinds
use Rattle.octets.proofs.fill.Reads as fill
use Rattle.octets.proofs.fill.Kinds as fill-kinds
use Rattle.octets.proofs.put.Reads as put
use Rattle.octets.proofs.put.Kinds as put-kinds
use Rattle.octets.proofs.lay.Reads as lay
use Rattle.octets.proofs.lay.Kinds as lay-kinds

-- bytes that all differ
abbrev bytes : List ℕ
bytes = 0x12 ∷ 0x34 ∷ 0x56 ∷ 0x78 ∷ 0x9A ∷ 0xBC ∷ 0xDE ∷ 0xF0 ∷ 0x11 ∷ []

-- NUMBERS: bytes and a place, and the number there
abbrev pub U8Number_at_wrong : List (Row (List ℕ × ℕ) ℕ)
U8Number_at_wrong =
    (bytes, 1) never 0x12  -- the byte in front, wherever it is asked for
    ∷ (bytes, 1) never 0  -- no byte at all
    ∷ (bytes, 9) only 0  -- past the end, not the last byte
    ∷ []

pub U8Number_at_rules_out : RulesOut (Kept _ u8-at-kinds.ps u8-at-kinds.r u8-at.Post) (λ c. (c.args.0.now, c.args.1.0)) (λ c. c.result) U8Number_at_wrong
unfolding numeral
U8Number_at_rules_out = ruled numbers (λ (i : List ℕ × ℕ). be 1 i.1 i.0) (λ c p. p) _ refl

abbrev pub U16Number_at_wrong : List (Row (List ℕ × ℕ) ℕ)
U16Number_at_wrong =
    (bytes, 1) never 0x1234  -- the bytes in front, wherever they are asked for
    ∷ (bytes, 1) never 0x5634  -- low byte first
    ∷ (bytes, 1) never 0x34  -- the high byte alone
    ∷ (bytes, 8) only 0x1100  -- half past the end
    ∷ []

pub U16Number_at_rules_out : RulesOut (Kept _ u16-at-kinds.ps u16-at-kinds.r u16-at.Post) (λ c. (c.args.0.now, c.args.1.0)) (λ c. c.result) U16Number_at_wrong
unfolding numeral
U16Number_at_rules_out = ruled numbers (λ (i : List ℕ × ℕ). be 2 i.1 i.0) (λ c p. p) _ refl

abbrev pub U32Number_at_wrong : List (Row (List ℕ × ℕ) ℕ)
U32Number_at_wrong =
    (bytes, 1) never 0x12345678  -- the bytes in front, wherever they are asked for
    ∷ (bytes, 1) never 0x345678  -- the low byte left out
    ∷ (bytes, 1) only 0x3456789A
    ∷ []

pub U32Number_at_rules_out : RulesOut (Kept _ u32-at-kinds.ps u32-at-kinds.r u32-at.Post) (λ c. (c.args.0.now, c.args.1.0)) (λ c. c.result) U32Number_at_wrong
unfolding numeral
U32Number_at_rules_out = ruled numbers (λ (i : List ℕ × ℕ). be 4 i.1 i.0) (λ c p. p) _ refl

abbrev pub letters_at_wrong : List (Row (List ℕ × ℕ) ℕ)
letters_at_wrong =
    (bytes, 1) never 0x123456789A  -- the bytes in front, wherever they are asked for
    ∷ (bytes, 1) never 0x3456789A  -- the last letter left out
    ∷ (bytes, 1) only 0x3456789ABC
    ∷ []

pub letters_at_rules_out : RulesOut (Kept _ letters-at-kinds.ps letters-at-kinds.r letters-at.Post) (λ c. (c.args.0.now, c.args.1.0)) (λ c. c.result) letters_at_wrong
unfolding numeral
letters_at_rules_out = ruled numbers (λ (i : List ℕ × ℕ). be 5 i.1 i.0) (λ c p. p) _ refl

abbrev pub U64Number_at_wrong : List (Row (List ℕ × ℕ) ℕ)
U64Number_at_wrong =
    (bytes, 1) never 0x123456789ABCDEF0  -- the bytes in front, wherever they are asked for
    ∷ (bytes, 1) never 0x3456789ABCDEF0  -- the low byte left out
    ∷ (bytes, 1) only 0x3456789ABCDEF011
    ∷ []

pub U64Number_at_rules_out : RulesOut (Kept _ u64-at-kinds.ps u64-at-kinds.r u64-at.Post) (λ c. (c.args.0.now, c.args.1.0)) (λ c. c.result) U64Number_at_wrong
unfolding numeral
U64Number_at_rules_out = ruled numbers (λ (i : List ℕ × ℕ). be 8 i.1 i.0) (λ c p. p) _ refl

-- bytes, a place and a length, and a sum that is not theirs
abbrev pub sum_wrong : List (Row (List ℕ × (ℕ × ℕ)) ℕ)
sum_wrong =
    (bytes, (1, 2)) never 0x9C  -- bytes before the place summed too
    ∷ (bytes, (1, 2)) never 0x68  -- the first byte summed over and over
    ∷ (bytes, (1, 2)) only 0x8A
    ∷ (0xFF ∷ 0x02 ∷ [], (0, 2)) never 0x101  -- a sum that does not roll over
    ∷ []

pub sum_rules_out : RulesOut (Kept _ sum-kinds.ps sum-kinds.r sum.Post) (λ c. (c.args.0.now, (c.args.1.0, c.args.1.1.0))) (λ c. c.result) sum_wrong
unfolding sum8 sum_of
sum_rules_out = ruled numbers (λ (i : List ℕ × (ℕ × ℕ)). sum8 (take i.1.1 (drop i.1.0 i.0))) (λ c p. p) _ refl

-- a sum, bytes, a place, a length and a byte; the sum after it was put in their places. The bytes'
-- own sum is 0x449, kept as 0x49.
abbrev pub sum_after_wrong : List (Row (ℕ × (List ℕ × (ℕ × (ℕ × ℕ)))) ℕ)
sum_after_wrong =
    (0x49, (bytes, (1, (2, 0x20)))) only 0xFF  -- 0x49 - 0x34 - 0x56 + 0x20 + 0x20
    ∷ (0x49, (bytes, (1, (2, 0x20)))) never 0x89  -- b added, nothing taken off
    ∷ (0x49, (bytes, (1, (2, 0x20)))) never 0xBF  -- taken off, nothing added
    ∷ (0x49, (bytes, (1, (2, 0x20)))) never 0x35  -- stopped a byte early
    ∷ (0x49, (bytes, (1, (2, 0x20)))) never 0x43  -- from the front
    ∷ (0x49, (bytes, (8, (2, 0x20)))) only 0x58  -- a byte past the end counts for nothing
    ∷ (0x49, (bytes, (9, (1, 0x20)))) only 0x49
    ∷ []

pub sum_after_rules_out : RulesOut (Kept _ sum-after-kinds.ps sum-after-kinds.r sum-after.Post) (λ c. (c.args.0, (c.args.1.0.now, (c.args.1.1.0, (c.args.1.1.1.0, c.args.1.1.1.1.0))))) (λ c. c.result) sum_after_wrong
unfolding sum_after
sum_after_rules_out = ruled numbers (λ (i : ℕ × (List ℕ × (ℕ × (ℕ × ℕ)))). sum_after i.0 (take i.1.1.1.0 (drop i.1.1.0 i.1.0)) i.1.1.1.1) (λ c p. p) _ refl

-- a part and a byte, and what is never left in the part
abbrev pub fill_wrong : List (Row (List ℕ × ℕ) (List ℕ))
fill_wrong =
    (0x41 ∷ 0x42 ∷ [], 0x20) never (0x41 ∷ 0x42 ∷ [])  -- a fill that leaves all as it was
    ∷ (0x41 ∷ 0x42 ∷ [], 0x20) never (0x41 ∷ 0x20 ∷ [])  -- the first byte left
    ∷ (0x41 ∷ 0x42 ∷ [], 0x20) never (0 ∷ 0 ∷ [])  -- zeros for every byte asked for
    ∷ []

pub fill_rules_out : RulesOut (Kept _ fill-kinds.ps fill-kinds.r fill.Post) (λ c. (c.args.0.now, c.args.1.0)) (λ c. c.exit.0.now) fill_wrong
fill_rules_out = ruled lists (λ (i : List ℕ × ℕ). replicate (length i.0) i.1) (λ c p. p) _ refl

-- ROOM: the length of a buffer, a place and a number of bytes
abbrev pub has_room_wrong : List (Row (ℕ × (ℕ × ℕ)) Bool)
has_room_wrong =
    (4, (2, 2)) only true  -- the last two bytes refused
    ∷ (4, (3, 2)) only false  -- one byte past the end taken
    ∷ (4, (4, 0)) only true  -- no bytes at the end refused
    ∷ (4, (5, 0)) only false  -- no bytes beyond it taken
    ∷ (4, (18446744073709551615, 2)) only false  -- a sum that rolls over
    ∷ (4, (0, 5)) only false  -- more bytes than there are
    ∷ []

pub has_room_rules_out : RulesOut (Kept _ has-room-kinds.ps has-room-kinds.r has-room.Post) (λ c. (c.args.0, (c.args.1.0, c.args.1.1.0))) (λ c. c.result) has_room_wrong
has_room_rules_out = ruled bools (λ (i : ℕ × (ℕ × ℕ)). nat_le (i.1.0 + i.1.1) i.0) (λ c p. p) _ refl

-- BYTES LAID: a buffer of four bytes, a place, and what is laid; the answer, and the buffer then
abbrev buffer : List ℕ
buffer = 0x12 ∷ 0x34 ∷ 0x56 ∷ 0x78 ∷ []

abbrev pub put_wrong : List (Row (List ℕ × (ℕ × (ℕ × ℕ))) Left)
put_wrong =
    (buffer, (1, (2, 0xABCD))) never left (answer 0 (2 ∷ [])) (0x12 ∷ 0xCD ∷ 0xAB ∷ 0x78 ∷ [])  -- laid low byte first
    ∷ (buffer, (1, (2, 0xABCD))) never left (answer 0 (1 ∷ [])) (0x12 ∷ 0xAB ∷ 0xCD ∷ 0x78 ∷ [])  -- the place for the number of bytes
    ∷ (buffer, (1, (2, 0xABCD))) only left (answer 0 (2 ∷ [])) (0x12 ∷ 0xAB ∷ 0xCD ∷ 0x78 ∷ [])
    ∷ (buffer, (3, (2, 0xABCD))) never left (refusal 8) (0x12 ∷ 0x34 ∷ 0x56 ∷ 0xAB ∷ [])  -- a byte changed, and then 8
    ∷ []

pub put_rules_out : RulesOut (Kept _ put-kinds.ps put-kinds.r put.Post) (λ c. (c.args.0.now, (c.args.1.0, (c.args.1.1.0, c.args.1.1.1.0)))) (λ c. left (written_paper c.result) c.exit.0.now) put_wrong
unfolding digits_of laid room_for laid_if_room
put_rules_out =
    ruled lefts
    (λ (i : List ℕ × (ℕ × (ℕ × ℕ))). left (room_for i.1.0 i.1.1.0 (length i.0)) (laid_if_room i.1.0 (bytes_of i.1.1.0 i.1.1.1) i.0))
    (λ c p. left_is p)
    _
    refl

abbrev pub lay_wrong : List (Row (List ℕ × (ℕ × List ℕ)) Left)
lay_wrong =
    (buffer, (1, 0xAB ∷ 0xCD ∷ [])) never left (answer 0 (2 ∷ [])) (0x12 ∷ 0xAB ∷ 0xAB ∷ 0x78 ∷ [])  -- the first byte laid in every place
    ∷ (buffer, (1, 0xAB ∷ 0xCD ∷ [])) never left (answer 0 (1 ∷ [])) (0x12 ∷ 0xAB ∷ 0xCD ∷ 0x78 ∷ [])  -- the place for the number of bytes
    ∷ (buffer, (1, 0xAB ∷ 0xCD ∷ [])) only left (answer 0 (2 ∷ [])) (0x12 ∷ 0xAB ∷ 0xCD ∷ 0x78 ∷ [])
    ∷ (buffer, (3, 0xAB ∷ 0xCD ∷ [])) never left (refusal 8) (0x12 ∷ 0x34 ∷ 0x56 ∷ 0xAB ∷ [])  -- a byte changed, and then 8
    ∷ []

pub lay_rules_out : RulesOut (Kept _ lay-kinds.ps lay-kinds.r lay.Post) (λ c. (c.args.0.now, (c.args.1.0, c.args.1.1.0.now))) (λ c. left (written_paper c.result) c.exit.0.now) lay_wrong
unfolding laid room_for laid_if_room
lay_rules_out =
    ruled lefts (λ (i : List ℕ × (ℕ × List ℕ)). left (room_for i.1.0 (length i.1.1) (length i.0)) (laid_if_room i.1.0 i.1.1 i.0)) (λ c p. left_is p) _ refl
