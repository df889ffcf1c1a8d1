-- For each public function: wrong answers that its promise rules out, as tables of what is given
-- and what is then wrong. Assumes nothing.
use Prim.Native.Nat.{ℕ}
use mathlib.Core.Path.{refl, ap}
use mathlib.Core.List.{List, [], ◌∷◌, ◌++◌}
use lib.ListN.{replicate}
use Rattle.terms.specs.Letters.{spelled}
use Rattle.terms.specs.Paper.{Paper, answer, refusal}
use Rattle.terms.specs.RuledOut.{Row, ◌never◌, ◌only◌, Kept, RulesOut, ruled, lists, papers}
use Rattle.rules.specs.declared.Kind.{Kind}
use Rattle.rules.specs.declared.Kind.TheVariants.{S001, S002, P002, M102, M201, Unknown}
use Rattle.private.specs.declared.Span.{Span}
use Rattle.octets.specs.Octets.{numeral, digits_of}
use Rattle.rules.specs.Bodies.{tick_on}
use Rattle.rules.specs.Table.{kind_of, suits, measure_of}
use Rattle.rules.specs.Fields.{layout_of, suits_tail, tail_ok}
use Rattle.private.specs.Private.{tail_of}
use Rattle.private.specs.Parts.{suited_spans, parts_spans, span_numbers, told_paper, span_answer}
use Rattle.private.proofs.parts_in.Reads as Parts-in
use Rattle.private.proofs.parts_in.Kinds as parts-in-kinds
use Rattle.private.proofs.private_span.Reads as private-span
use Rattle.private.proofs.private_span.Kinds as private-span-kinds

-- an order of MD211 with ExecType 0
abbrev order : List ℕ
order = tick_on (spelled "MD211") 0x30 (replicate 139 0x41)

-- PRIVATE_SPAN: a MsgType, a body, and the number of a span. Where a span starts, how many bytes it
-- has, the byte that replaces each.
abbrev span : ℕ → ℕ → ℕ → Paper
span place len fill = answer 0 (place ∷ len ∷ fill ∷ [])

abbrev pub private_span_wrong : List (Row (ℕ × (List ℕ × ℕ)) Paper)
private_span_wrong =
    (spelled "S001", (replicate 74 0x41, 0)) only span 0 32 0x20  -- SenderCompID, all of it, and painted with spaces, not zeros
    ∷ (spelled "S001", (replicate 74 0x41, 1)) only span 32 32 0x20  -- TargetCompID too
    ∷ (spelled "S001", (replicate 74 0x41, 2)) only span 0 0 0x20  -- and no public byte
    ∷ (spelled "S001", (replicate 10 0x41, 1)) never span 32 32 0x20  -- a span outside the body, which a C host would paint past its buffer
    ∷ (spelled "S001", (replicate 10 0x41, 0)) only refusal 4  -- nothing private told of a body that no S001 has
    ∷ (spelled "X999", ([], 0)) only refusal 2  -- a type of no table said to have nothing private
    ∷ (spelled "M201", (replicate 8165 0x41, 0)) only refusal 3  -- a body that no frame has
    ∷ (spelled "S002", (replicate 260 0x41, 0)) never span 4 255 0x20  -- the last byte of Text missed
    ∷ (spelled "P002", (replicate 52 0x41, 0)) never span 0 0 0x20  -- nothing private in a P002
    ∷ (spelled "P002", (replicate 52 0x41, 0)) never span 19 33 0x20  -- ResendStatus, a public field, painted too
    ∷ (spelled "M201", (replicate 50 0x41, 0)) never span 45 4 0x20  -- the last byte of a tail missed
    ∷ (spelled "M201", (replicate 50 0x41, 0)) only span 45 5 0x20
    ∷ (spelled "M201", (replicate 44 0x41, 0)) only refusal 4
    ∷ (spelled "M102", (replicate 83 0x41, 0)) only span 0 0 0x20  -- nothing of a snapshot painted
    ∷ (spelled "M201", (order, 0)) never span 45 139 0x20  -- the whole tail of an order, as document 01 had it
    ∷ (spelled "M201", (order, 0)) never span 46 18 0x20  -- QuoteID
    ∷ (spelled "M201", (order, 0)) only span 64 12 0x20  -- MemberID, with spaces, not zeros
    ∷ (spelled "M201", (order, 1)) only span 76 12 0x20  -- TraderCode left
    ∷ (spelled "M201", (order, 2)) never span 120 31 0x20  -- the last byte of InvestorName left
    ∷ (spelled "M201", (order, 2)) only span 120 32 0x20
    ∷ (spelled "M201", (order, 3)) only span 0 0 0x20  -- nothing else of an order
    ∷ (spelled "M201", (tick_on (spelled "MD211") 0x34 (replicate 139 0x41), 0)) only span 64 12 0x20  -- ExecType 4 not scrubbed
    ∷ (spelled "M201", (tick_on (spelled "MD217") 0x46 (replicate 53 0x41), 0)) only span 0 0 0x20  -- a trade painted
    ∷ (spelled "M201", (tick_on (spelled "MD217") 0x30 (replicate 139 0x41), 0)) only span 45 139 0x20  -- MD217 with 0 taken as an order
    ∷ (spelled "M201", (tick_on (spelled "MD211") 0x30 (replicate 138 0x41), 0)) only span 45 138 0x20  -- a length that does not suit: all of it
    ∷ []

pub private_span_rules_out : RulesOut (Kept _ private-span-kinds.ps private-span-kinds.r private-span.Post) (λ c. (c.args.0, (c.args.1.0.now, c.args.1.1.0))) (λ c. told_paper c.result) private_span_wrong
unfolding numeral digits_of kind_of suits measure_of layout_of suits_tail tail_ok tail_of span_answer
private_span_rules_out = ruled papers (λ (i : ℕ × (List ℕ × ℕ)). span_answer i.0 i.1.0 i.1.1) (λ c p. p) _ refl

-- PARTS_IN: a type and a body. The numbers of each span, one behind the other.
abbrev shown : List Span → List ℕ
shown [] = []
shown (p ∷ ps) = span_numbers p ++ shown ps

abbrev pub parts_in_wrong : List (Row (Kind × List ℕ) (List ℕ))
parts_in_wrong =
    (S001, replicate 74 0x41) only (0 ∷ 32 ∷ 0x20 ∷ 32 ∷ 32 ∷ 0x20 ∷ [])  -- one of the two CompIDs alone
    ∷ (S001, replicate 10 0x41) only []  -- a span outside the body
    ∷ (S002, replicate 260 0x41) only (4 ∷ 256 ∷ 0x20 ∷ [])  -- the last byte of Text missed
    ∷ (S002, replicate 5 0x41) only []
    ∷ (P002, replicate 52 0x41) only (20 ∷ 32 ∷ 0x20 ∷ [])  -- ResendStatus, a public field, painted too
    ∷ (M102, replicate 83 0x41) only []  -- something of a snapshot painted
    ∷ (M201, replicate 44 0x41) only []
    ∷ (M201, order) never (64 ∷ 12 ∷ 0x20 ∷ 76 ∷ 12 ∷ 0x20 ∷ [])  -- InvestorName left
    ∷ (M201, order) never (45 ∷ 139 ∷ 0x20 ∷ [])  -- the whole tail of an order
    ∷ (M201, order) only (64 ∷ 12 ∷ 0x20 ∷ 76 ∷ 12 ∷ 0x20 ∷ 120 ∷ 32 ∷ 0x20 ∷ [])
    ∷ (M201, tick_on (spelled "MD217") 0x46 (replicate 53 0x41)) only []  -- a trade painted
    ∷ (M201, replicate 50 0x41) only (45 ∷ 5 ∷ 0x20 ∷ [])  -- an unnamed tail left
    ∷ (Unknown, replicate 50 0x41) only []
    ∷ []

pub parts_in_rules_out : RulesOut (Kept _ parts-in-kinds.ps parts-in-kinds.r Parts-in.Post) (λ c. (c.args.0, c.args.1.0.now)) (λ c. shown (parts_spans c.result)) parts_in_wrong
unfolding numeral digits_of suits layout_of suits_tail tail_ok tail_of suited_spans
parts_in_rules_out = ruled lists (λ (i : Kind × List ℕ). shown (suited_spans i.0 i.1)) (λ c p. ap shown p) _ refl
