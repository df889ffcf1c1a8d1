-- For each public function: wrong answers that its promise rules out, as tables of what is given
-- and what is then wrong. Assumes nothing.
use Prim.Native.Nat.{ℕ}
use mathlib.Core.Path.{refl, ap}
use mathlib.Core.List.{List, [], ◌∷◌, ◌++◌}
use lib.ListN.{length, replicate}
use Rattle.terms.specs.Letters.{spelled}
use Rattle.terms.specs.Paper.{answer, refusal}
use Rattle.terms.specs.Counters.{session_of, tick_of, channel_of}
use Rattle.terms.specs.RuledOut.{Row, ◌never◌, ◌only◌, Kept, RulesOut, ruled, lists, Left, left, lefts, left_is}
use Rattle.octets.specs.Octets.{numeral, digits_of, bytes_of, laid}
use Rattle.octets.specs.Papers.{written_paper, room_for, laid_if_room}
use Rattle.record.specs.declared.Record.{Record}
use Rattle.record.specs.Record.{first_half, second_half, record_of, record_at}
use Rattle.record.proofs.put.Reads as put
use Rattle.record.proofs.put.Kinds as put-kinds
use Rattle.record.proofs.record_at.Reads as record-at
use Rattle.record.proofs.record_at.Kinds as record-at-kinds

-- a record whose numbers all differ, and its 64 bytes, field by field
abbrev one : Record
one =
    record {
      place = 1;
      msg_type = spelled "P001";
      answer = 2;
      seq = session_of 3;
      tick = tick_of 4;
      channel = channel_of 5;
      body_len = 6;
      floor = tick_of 7;
      top = tick_of 8;
    }

-- the same bytes with two of the numbers given: floor and top, and a zero field
abbrev bytes : ℕ → ℕ → ℕ → List ℕ
bytes floor top zeros =
    bytes_of 8 1 ++ (bytes_of 4 (spelled "P001") ++ (bytes_of 4 2 ++ (bytes_of 8 3 ++ (bytes_of 8 4 ++ (bytes_of 2 5 ++ (bytes_of 2 zeros ++ (bytes_of 4 6 ++ (bytes_of 8 floor ++ (bytes_of 8 top ++ bytes_of 8 0)))))))))

-- a buffer, a place and a record; the answer, and the buffer then
abbrev pub put_wrong : List (Row (List ℕ × (ℕ × Record)) Left)
put_wrong =
    (replicate 65 9, (1, one)) never left (answer 0 (64 ∷ [])) (9 ∷ bytes 8 7 0)  -- floor and top swapped
    ∷ (replicate 65 9, (1, one)) never left (answer 0 (64 ∷ [])) (9 ∷ bytes 7 8 0x909)  -- the zero field left as it stood
    ∷ (replicate 65 9, (1, one)) only left (answer 0 (64 ∷ [])) (9 ∷ bytes 7 8 0)
    ∷ (replicate 64 9, (1, one)) only left (refusal 8) (replicate 64 9)  -- nothing laid beside 8
    ∷ []

pub put_rules_out : RulesOut (Kept _ put-kinds.ps put-kinds.r put.Post) (λ c. (c.args.0.now, (c.args.1.0, c.args.1.1.0))) (λ c. left (written_paper c.result) c.exit.0.now) put_wrong
unfolding digits_of laid room_for laid_if_room first_half second_half record_of
put_rules_out = ruled lefts (λ (i : List ℕ × (ℕ × Record)). left (room_for i.1.0 64 (length i.0)) (laid_if_room i.1.0 (record_of i.1.1) i.0)) (λ c p. left_is p) _ refl

-- bytes and a place; the record's nine numbers
abbrev shown : Record → List ℕ
shown r = r.place ∷ r.msg_type ∷ r.answer ∷ r.seq.0 ∷ r.tick.0 ∷ r.channel.0 ∷ r.body_len ∷ r.floor.0 ∷ r.top.0 ∷ []

abbrev pub record_at_wrong : List (Row (List ℕ × ℕ) (List ℕ))
record_at_wrong =
    (9 ∷ bytes 7 8 0, 1) never (1 ∷ spelled "P001" ∷ 2 ∷ 3 ∷ 4 ∷ 5 ∷ 6 ∷ 8 ∷ 7 ∷ [])  -- floor and top swapped
    ∷ (9 ∷ bytes 7 8 0, 1) only (1 ∷ spelled "P001" ∷ 2 ∷ 3 ∷ 4 ∷ 5 ∷ 6 ∷ 7 ∷ 8 ∷ [])
    ∷ []

pub record_at_rules_out : RulesOut (Kept _ record-at-kinds.ps record-at-kinds.r record-at.Post) (λ c. (c.args.0.now, c.args.1.0)) (λ c. shown c.result) record_at_wrong
unfolding numeral digits_of record_at
record_at_rules_out = ruled lists (λ (i : List ℕ × ℕ). shown (record_at i.1 i.0)) (λ c p. ap shown p) _ refl
