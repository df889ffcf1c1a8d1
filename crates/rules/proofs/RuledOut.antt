-- For each public function: wrong answers that its promise rules out, as tables of what is given
-- and what is then wrong. Assumes nothing.
use Prim.Native.Nat.{ℕ}
use mathlib.Core.Path.{refl, ap}
use mathlib.Core.Bool.{Bool, true, false}
use mathlib.Core.List.{List, [], ◌∷◌, ◌++◌}
use Rattle.terms.specs.Paper.{Paper, answer, refusal}
use Rattle.terms.specs.RuledOut.{Row, ◌never◌, ◌only◌, Kept, RulesOut, ruled, numbers, bools, papers}
use Rattle.rules.specs.declared.Kind.{Kind}
use Rattle.rules.specs.declared.Kind.TheVariants.{S003, M101, M102, M201, Unknown, P001, P002}
use Rattle.rules.specs.declared.Layout.{Layout}
use Rattle.rules.specs.declared.Layout.TheVariants.{Order, Trade, Other}
use Rattle.rules.specs.Fields.{layout_of, suits_tail, p001_ok, p002_ok, tail_ok, m201_ok, pair_ok, m102_values_ok, m102_fixed_ok, entry_size, entry_ok, entries_ok, m102_ok, fields_ok, judge_of}
use Rattle.rules.specs.Table.{kind_paper, kind_of, type_of, known, suits, measure_of}
use Rattle.terms.specs.Verdicts.{verdict_number}
use Rattle.rules.proofs.KindFromU32.from.Reads as kind-of
use Rattle.rules.proofs.KindFromU32.from.Kinds as kind-of-kinds
use Rattle.rules.proofs.is_known.Reads as is_Known
use Rattle.rules.proofs.is_known.Kinds as is-known-kinds
use Rattle.rules.proofs.measure.Reads as measure
use Rattle.rules.proofs.measure.Kinds as measure-kinds
use Rattle.rules.proofs.layout_of.Reads as layout_of
use Rattle.rules.proofs.layout_of.Kinds as layout-of-kinds
use Rattle.rules.proofs.suits_tail.Reads as suits-tail
use Rattle.rules.proofs.suits_tail.Kinds as suits-tail-kinds
use lib.ListN.{take, replicate}
use Rattle.octets.specs.Octets.{numeral, digits_of, bytes_of}
use Rattle.calendar.specs.Calendar.{leap, days_in, real_parts, real_time}
use Rattle.rules.specs.Bodies.{channel_body, resend_body, snapshot_body, tick_on}
use Rattle.rules.proofs.fields_ok.Reads as fields-ok
use Rattle.rules.proofs.fields_ok.Kinds as fields-ok-kinds
use Rattle.rules.proofs.pair_ok.Reads as pair-ok
use Rattle.rules.proofs.pair_ok.Kinds as pair-ok-kinds
use Rattle.rules.proofs.m102_fixed_ok.Reads as m102-fixed-ok
use Rattle.rules.proofs.m102_fixed_ok.Kinds as m102-fixed-ok-kinds
use Rattle.rules.proofs.entry_ok.Reads as entry-ok
use Rattle.rules.proofs.entry_ok.Kinds as entry-ok-kinds
use Rattle.rules.proofs.entry_size.Reads as entry-size
use Rattle.rules.proofs.entry_size.Kinds as entry-size-kinds
use Rattle.rules.proofs.judge.Reads as judge
use Rattle.rules.proofs.judge.Kinds as judge-kinds

-- a MsgType, four letters as one number
abbrev pub KindFromU32_from_wrong : List (Row ℕ Paper)
KindFromU32_from_wrong =
    0x53303032 never answer 0 (0x53303031 ∷ [])  -- S002 taken for S001
    ∷ 0x4D323031 never refusal 2  -- M201 left out of the table
    ∷ 0x4D313131 only refusal 2  -- M111 is in no row, and not taken for M101
    ∷ []

pub KindFromU32_from_rules_out : RulesOut (Kept _ kind-of-kinds.ps kind-of-kinds.r kind-of.Post) (λ c. c.args.0) (λ c. kind_paper c.result) KindFromU32_from_wrong
unfolding kind_of type_of
KindFromU32_from_rules_out = ruled papers type_of (λ c p. p) _ refl

abbrev pub is_known_wrong : List (Row Kind Bool)
is_known_wrong =
    M201 only true
    ∷ Unknown only false
    ∷ []

pub is_known_rules_out : RulesOut (Kept _ is-known-kinds.ps is-known-kinds.r is_Known.Post) (λ c. c.args.0) (λ c. c.result) is_known_wrong
is_known_rules_out = ruled bools known (λ c p. p) _ refl

-- a type and the length of a body, and a number that is not given
abbrev pub measure_wrong : List (Row (Kind × ℕ) ℕ)
measure_wrong =
    (M101, 8165) never 0  -- a body of 8,165 bytes accepted
    ∷ (S003, 8165) never 4  -- 4 before 3
    ∷ (S003, 1) only 4
    ∷ (M102, 73) only 0  -- no entries is no fault
    ∷ (Unknown, 0) only 2
    ∷ []

pub measure_rules_out : RulesOut (Kept _ measure-kinds.ps measure-kinds.r measure.Post) (λ c. (c.args.0, c.args.1.0)) (λ c. verdict_number c.result) measure_wrong
unfolding suits measure_of
measure_rules_out = ruled numbers (λ (i : Kind × ℕ). measure_of i.0 i.1) (λ c p. p) _ refl

-- a stream, five letters as one number, and ExecType; 1 an order, 2 a trade, 0 neither
abbrev shown_layout : Layout → ℕ
shown_layout Order = 1
shown_layout Trade = 2
shown_layout Other = 0

abbrev pub layout_of_wrong : List (Row (ℕ × ℕ) ℕ)
layout_of_wrong =
    (0x4D44323131, 0x30) only 1  -- MD211 with 0 not named
    ∷ (0x4D44323131, 0x34) only 1  -- ExecType 4 not taken for an order
    ∷ (0x4D44323132, 0x30) only 1  -- MD212 left out
    ∷ (0x4D44323133, 0x34) only 1  -- MD213 left out
    ∷ (0x4D44323134, 0x30) only 1  -- MD214 left out
    ∷ (0x4D44323135, 0x34) only 1  -- MD215 left out
    ∷ (0x4D44323136, 0x30) only 1  -- MD216 left out
    ∷ (0x4D44323137, 0x46) only 2  -- MD217 with F not named
    ∷ (0x4D44323137, 0x30) never 1  -- MD217 with 0 taken as an order
    ∷ (0x4D44323137, 0x34) never 1  -- MD217 with 4 taken as an order
    ∷ (0x4D44323131, 0x46) only 0  -- MD211 with F taken as a trade
    ∷ (0x4D44323136, 0x46) only 0  -- MD216 with F taken as a trade
    ∷ (0x4D44323130, 0x30) only 0  -- MD210 taken as named
    ∷ (0x4D44323138, 0x46) only 0  -- MD218 taken as named
    ∷ (0x6D64323131, 0x30) only 0  -- md211 taken as named
    ∷ []

pub layout_of_rules_out : RulesOut (Kept _ layout-of-kinds.ps layout-of-kinds.r layout_of.Post) (λ c. (c.args.0, c.args.1.0)) (λ c. shown_layout c.result) layout_of_wrong
unfolding layout_of
layout_of_rules_out = ruled numbers (λ (i : ℕ × ℕ). shown_layout (layout_of i.0 i.1)) (λ c p. ap shown_layout p) _ refl

-- a layout, and the length of a body
abbrev pub suits_tail_wrong : List (Row (Layout × ℕ) Bool)
suits_tail_wrong =
    (Order, 184) only true
    ∷ (Order, 183) never true  -- a tail of 138 bytes taken for an order's
    ∷ (Order, 185) never true  -- one of 140
    ∷ (Trade, 98) only true
    ∷ (Trade, 99) never true  -- a tail of 54 bytes taken for a trade's
    ∷ (Other, 46) only true  -- any other tail has any length
    ∷ []

pub suits_tail_rules_out : RulesOut (Kept _ suits-tail-kinds.ps suits-tail-kinds.r suits-tail.Post) (λ c. (c.args.0, c.args.1.0)) (λ c. c.result) suits_tail_wrong
unfolding suits_tail
suits_tail_rules_out = ruled bools (λ (i : Layout × ℕ). suits_tail i.0 i.1) (λ c p. p) _ refl

-- a type and a body
abbrev pub fields_ok_wrong : List (Row (Kind × List ℕ) Bool)
fields_ok_wrong =
    (P001, channel_body 13 0x59) never false  -- everything refused
    ∷ (P001, channel_body 12 0x59) never true  -- SecurityType not judged
    ∷ (P001, channel_body 13 0x58) never true  -- EndOfChannel not judged
    ∷ (P002, resend_body 7 6 0 0x20) never true  -- a request that ends below its start
    ∷ (P002, resend_body 7 0 0 0x20) only true  -- without an end
    ∷ (M102, snapshot_body 1 0x4D44303031 1 2) only true
    ∷ (M102, snapshot_body 1 0x4D44303031 1 10000000000000) never true  -- the second entry not judged: its price has 14 digits
    ∷ (M102, snapshot_body 1 0x4D44333031 1 2) never true  -- SecurityType 1 with MD301
    ∷ (M201, tick_on 0x4D44323131 0x30 (replicate 139 0)) only true
    ∷ (M201, tick_on 0x4D44323131 0x30 (replicate 138 0)) never true  -- a tail of 138 bytes read as an order
    ∷ (M201, tick_on 0x4D44323137 0x46 (replicate 53 0)) only true
    ∷ (M201, tick_on 0x4D44323137 0x46 (replicate 54 0)) never true  -- a tail of 54 bytes read as a trade
    ∷ (M201, tick_on 0x4D44323137 0x30 (replicate 54 0)) only true  -- a stream not named: any tail
    ∷ []

pub fields_ok_rules_out : RulesOut (Kept _ fields-ok-kinds.ps fields-ok-kinds.r fields-ok.Post) (λ c. (c.args.0, c.args.1.0.now)) (λ c. c.result) fields_ok_wrong
unfolding numeral digits_of p001_ok p002_ok layout_of suits_tail tail_ok m201_ok m102_values_ok entry_size entry_ok entries_ok m102_ok fields_ok
fields_ok_rules_out = ruled bools (λ (i : Kind × List ℕ). fields_ok i.0 i.1) (λ c p. p) _ refl

-- a type, a time and a body; 21 January 2026, 09:30, is real, month 13 is not
abbrev pub judge_wrong : List (Row (Kind × (ℕ × List ℕ)) ℕ)
judge_wrong =
    (P001, (20260121093000000, channel_body 13 0x59)) only 0  -- not refused
    ∷ (P001, (20260121093000000, channel_body 12 0x59)) never 5  -- 5 where 6 is due
    ∷ (P001, (20260121093000000, channel_body 12 0x59)) never 0  -- accepted
    ∷ (P001, (20261301093000000, channel_body 13 0x59)) never 0  -- the time not judged
    ∷ (P001, (20261301093000000, channel_body 13 0x59)) only 7
    ∷ (P001, (20261301093000000, channel_body 12 0x59)) never 6  -- 6 answered before 7
    ∷ (M201, (20260121093000000, tick_on 0x4D44323131 0x30 [])) never 4  -- a tail length answered 4
    ∷ (M201, (20260121093000000, tick_on 0x4D44323131 0x30 [])) only 6
    ∷ []

pub judge_rules_out : RulesOut (Kept _ judge-kinds.ps judge-kinds.r judge.Post) (λ c. (c.args.0, (c.args.1.0, c.args.1.1.0.now))) (λ c. verdict_number c.result) judge_wrong
unfolding numeral digits_of p001_ok layout_of suits_tail tail_ok m201_ok fields_ok real_time real_parts days_in leap judge_of
judge_rules_out = ruled numbers (λ (i : Kind × (ℕ × List ℕ)). judge_of i.0 i.1.0 i.1.1) (λ c p. p) _ refl

-- the letters of a stream as one number, and a size
abbrev pub entry_size_wrong : List (Row ℕ ℕ)
entry_size_wrong =
    0x4D44303031 only 10  -- not 19 for all, and not 11
    ∷ 0x4D44303032 only 19
    ∷ []

pub entry_size_rules_out : RulesOut (Kept _ entry-size-kinds.ps entry-size-kinds.r entry-size.Post) (λ c. c.args.0) (λ c. c.result) entry_size_wrong
unfolding entry_size
entry_size_rules_out = ruled numbers entry_size (λ c p. p) _ refl

-- a security type, and a stream's five letters as one number
abbrev pub pair_ok_wrong : List (Row (ℕ × ℕ) Bool)
pair_ok_wrong =
    (1, 0x4D44303031) only true
    ∷ (1, 0x4D44303034) only true  -- MD004 left out
    ∷ (1, 0x4D44303030) only false  -- MD000 taken
    ∷ (1, 0x4D44303035) only false  -- MD005 taken
    ∷ (2, 0x4D44333031) only true
    ∷ (3, 0x4D44313031) only true
    ∷ (3, 0x4D44313032) only true  -- MD102 left out
    ∷ (12, 0x4D44323031) only true
    ∷ (13, 0x4D44323130) only true
    ∷ (14, 0x4D44453031) only true
    ∷ (1, 0x4D44333031) only false  -- the stream of another type taken
    ∷ (0, 0x4D44303031) only false  -- any type taken
    ∷ []

pub pair_ok_rules_out : RulesOut (Kept _ pair-ok-kinds.ps pair-ok-kinds.r pair-ok.Post) (λ c. (c.args.0, c.args.1.0)) (λ c. c.result) pair_ok_wrong
pair_ok_rules_out = ruled bools (λ (i : ℕ × ℕ). pair_ok i.0 i.1) (λ c p. p) _ refl

-- a body
abbrev pub m102_fixed_ok_wrong : List (Row (List ℕ) Bool)
m102_fixed_ok_wrong =
    snapshot_body 1 0x4D44303031 1 2 only true
    ∷ snapshot_body 1 0x4D44333031 1 2 never true  -- SecurityType 1 with MD301
    ∷ snapshot_body 1 0x4D44303031 1 10000000000000 only true  -- an entry judged
    ∷ take 71 (snapshot_body 1 0x4D44303031 1 2) only true  -- refused for its length
    ∷ [] only false  -- fields that are not there taken for right
    ∷ []

pub m102_fixed_ok_rules_out : RulesOut (Kept _ m102-fixed-ok-kinds.ps m102-fixed-ok-kinds.r m102-fixed-ok.Post) (λ c. c.args.0.now) (λ c. c.result) m102_fixed_ok_wrong
unfolding numeral digits_of m102_values_ok
m102_fixed_ok_rules_out = ruled bools m102_fixed_ok (λ c p. p) _ refl

-- an entry of type 5, by its price, size and position, and its width
abbrev entry_with : ℕ → ℕ → ℕ → List ℕ
entry_with price size position = bytes_of 2 5 ++ (bytes_of 8 price ++ (bytes_of 8 size ++ (position ∷ [])))

abbrev pub entry_ok_wrong : List (Row (List ℕ × ℕ) Bool)
entry_ok_wrong =
    (entry_with 9999999999999 999999999999 99, 19) only true
    ∷ (entry_with 10000000000000 1 1, 19) never true  -- a price of 14 digits
    ∷ (entry_with 1 1000000000000 1, 19) never true  -- a size of 13 digits
    ∷ (entry_with 1 1 100, 19) never true  -- a position of three digits
    ∷ (entry_with 10000000000000 1 1, 10) never true  -- the price of a short one not judged
    ∷ (entry_with 1 1000000000000 100, 10) only true  -- what stands behind a short one judged
    ∷ []

pub entry_ok_rules_out : RulesOut (Kept _ entry-ok-kinds.ps entry-ok-kinds.r entry-ok.Post) (λ c. (c.args.0.now, c.args.1.0)) (λ c. c.result) entry_ok_wrong
unfolding numeral digits_of entry_ok
entry_ok_rules_out = ruled bools (λ (i : List ℕ × ℕ). entry_ok i.1 0 i.0) (λ c p. p) _ refl
