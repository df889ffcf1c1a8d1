-- For each public function: wrong answers that its promise rules out, as tables of what is given
-- and what is then wrong. Assumes nothing.
use Prim.Native.Nat.{ℕ}
use mathlib.Core.Path.{refl}
use mathlib.Core.List.{List, [], ◌∷◌}
use lib.ListN.{length, replicate}
use Rattle.terms.specs.Paper.{Paper, answer, refusal}
use Rattle.terms.specs.RuledOut.{Row, ◌never◌, ◌only◌, Kept, RulesOut, ruled, numbers, papers, Left, left, lefts, left_is}
use Rattle.octets.specs.Octets.{numeral, digits_of, laid}
use Rattle.octets.specs.Papers.{written_paper, room_for, laid_if_room}
use Rattle.digits.specs.Digits.{decimal_of, width_in, width_of, shown_of, all_digits, said_by, said_if_digits, digits_at, decimal_at, decimal_paper}
use Rattle.digits.proofs.put_digits.Reads as put-digits
use Rattle.digits.proofs.put_digits.Kinds as put-digits-kinds
use Rattle.digits.proofs.put_decimal.Reads as put-decimal
use Rattle.digits.proofs.put_decimal.Kinds as put-decimal-kinds
use Rattle.digits.proofs.width.Reads as width
use Rattle.digits.proofs.width.Kinds as width-kinds
use Rattle.digits.proofs.digits_at.Reads as digits-at
use Rattle.digits.proofs.digits_at.Kinds as digits-at-kinds
use Rattle.digits.proofs.decimal_at.Reads as decimal-at
use Rattle.digits.proofs.decimal_at.Kinds as decimal-at-kinds

-- WRITING: a buffer, a place, a width and a number; the answer, and the buffer then
abbrev pub put_digits_wrong : List (Row (List ℕ × (ℕ × (ℕ × ℕ))) Left)
put_digits_wrong =
    (replicate 4 7, (1, (2, 42))) never left (answer 0 (2 ∷ [])) (7 ∷ 0x32 ∷ 0x34 ∷ 7 ∷ [])  -- the last digit first
    ∷ (replicate 4 7, (1, (2, 42))) never left (answer 0 (2 ∷ [])) (7 ∷ 4 ∷ 2 ∷ 7 ∷ [])  -- digits that are no text
    ∷ (replicate 4 7, (1, (2, 42))) only left (answer 0 (2 ∷ [])) (7 ∷ 0x34 ∷ 0x32 ∷ 7 ∷ [])
    ∷ (replicate 2 7, (1, (2, 42))) only left (refusal 8) (replicate 2 7)
    ∷ []

pub put_digits_rules_out : RulesOut (Kept _ put-digits-kinds.ps put-digits-kinds.r put-digits.Post) (λ c. (c.args.0.now, (c.args.1.0, (c.args.1.1.0, c.args.1.1.1.0)))) (λ c. left (written_paper c.result) c.exit.0.now) put_digits_wrong
unfolding digits_of laid room_for laid_if_room decimal_of
put_digits_rules_out =
    ruled lefts (λ (i : List ℕ × (ℕ × (ℕ × ℕ))). left (room_for i.1.0 i.1.1.0 (length i.0)) (laid_if_room i.1.0 (decimal_of i.1.1.0 i.1.1.1) i.0)) (λ c p. left_is p) _ refl

abbrev pub put_decimal_wrong : List (Row (List ℕ × (ℕ × ℕ)) Left)
put_decimal_wrong =
    (replicate 4 7, (1, 42)) only left (answer 0 (2 ∷ [])) (7 ∷ 0x34 ∷ 0x32 ∷ 7 ∷ [])
    ∷ (replicate 4 7, (1, 0)) never left (answer 0 (0 ∷ [])) (replicate 4 7)  -- nothing for 0
    ∷ (replicate 4 7, (1, 0)) only left (answer 0 (1 ∷ [])) (7 ∷ 0x30 ∷ 7 ∷ 7 ∷ [])
    ∷ []

pub put_decimal_rules_out : RulesOut (Kept _ put-decimal-kinds.ps put-decimal-kinds.r put-decimal.Post) (λ c. (c.args.0.now, (c.args.1.0, c.args.1.1.0))) (λ c. left (written_paper c.result) c.exit.0.now) put_decimal_wrong
unfolding digits_of laid room_for laid_if_room decimal_of width_in
put_decimal_rules_out =
    ruled lefts (λ (i : List ℕ × (ℕ × ℕ)). left (room_for i.1.0 (width_of i.1.1) (length i.0)) (laid_if_room i.1.0 (shown_of i.1.1) i.0)) (λ c p. left_is p) _ refl

-- HOW MANY DIGITS: a number; its digits
abbrev pub width_wrong : List (Row ℕ ℕ)
width_wrong =
    0 never 0  -- no digit for 0
    ∷ 10 never 1  -- one short at a power of ten
    ∷ 18446744073709551615 only 20
    ∷ []

pub width_rules_out : RulesOut (Kept _ width-kinds.ps width-kinds.r width.Post) (λ c. c.args.0) (λ c. c.result) width_wrong
unfolding width_in
width_rules_out = ruled numbers width_of (λ c p. p) _ refl

-- READING: bytes, a place and a width; a number, or none
abbrev pub digits_at_wrong : List (Row (List ℕ × (ℕ × ℕ)) Paper)
digits_at_wrong =
    (0x30 ∷ 0x34 ∷ 0x32 ∷ [], (1, 2)) only answer 0 (42 ∷ [])
    ∷ (0x30 ∷ 0x34 ∷ 0x3A ∷ [], (1, 2)) only answer 0 []  -- a byte that is no digit
    ∷ (0x30 ∷ 0x34 ∷ 0x32 ∷ [], (2, 2)) never answer 0 (2 ∷ [])  -- past the end
    ∷ []

pub digits_at_rules_out : RulesOut (Kept _ digits-at-kinds.ps digits-at-kinds.r digits-at.Post) (λ c. (c.args.0.now, (c.args.1.0, c.args.1.1.0))) (λ c. decimal_paper c.result) digits_at_wrong
unfolding numeral all_digits said_by said_if_digits digits_at
digits_at_rules_out = ruled papers (λ (i : List ℕ × (ℕ × ℕ)). digits_at i.1.0 i.1.1 i.0) (λ c p. p) _ refl

abbrev pub decimal_at_wrong : List (Row (List ℕ × (ℕ × ℕ)) Paper)
decimal_at_wrong =
    (0x30 ∷ 0x34 ∷ 0x32 ∷ [], (1, 2)) only answer 0 (42 ∷ [])
    ∷ (0x30 ∷ 0x34 ∷ 0x32 ∷ [], (0, 3)) never answer 0 (42 ∷ [])  -- a needless zero read
    ∷ (0x30 ∷ [], (0, 1)) only answer 0 (0 ∷ [])  -- but 0 itself is a number
    ∷ []

pub decimal_at_rules_out : RulesOut (Kept _ decimal-at-kinds.ps decimal-at-kinds.r decimal-at.Post) (λ c. (c.args.0.now, (c.args.1.0, c.args.1.1.0))) (λ c. decimal_paper c.result) decimal_at_wrong
unfolding numeral all_digits said_by said_if_digits digits_at decimal_at
decimal_at_rules_out = ruled papers (λ (i : List ℕ × (ℕ × ℕ)). decimal_at i.1.0 i.1.1 i.0) (λ c p. p) _ refl
