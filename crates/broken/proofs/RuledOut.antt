-- For the public function: wrong answers that its promise rules out, as a table of what is given
-- and what is then wrong. Assumes nothing.
use Prim.Native.Nat.{ℕ}
use mathlib.Core.Path.{refl, ap}
use mathlib.Core.List.{List, [], ◌∷◌, ◌++◌}
use lib.ListN.{replicate}
use Rattle.std.specs.Prelude.{Option, Some, None}
use Rattle.terms.specs.Letters.{spelled}
use Rattle.terms.specs.RuledOut.{Row, ◌never◌, ◌only◌, Kept, RulesOut, ruled, lists}
use Rattle.octets.specs.Octets.{numeral, digits_of}
use Rattle.rules.specs.declared.Kind.{Kind}
use Rattle.rules.specs.declared.Kind.TheVariants.{S001, S003, P001, P002, M102, M201}
use Rattle.rules.specs.Fields.{layout_of, suits_tail, tail_ok, entry_size}
use Rattle.rules.specs.Bodies.{channel_body, resend_body, snapshot_body, tick_on}
use Rattle.broken.specs.declared.Broken.{Broken}
use Rattle.broken.specs.Broken.{entries_fields, lowest_from, broken_of}
use Rattle.broken.proofs.broken_field.Reads as broken-field
use Rattle.broken.proofs.broken_field.Kinds as broken-field-kinds

-- found or not, place, length, number, entry
abbrev shown : Option Broken → List ℕ
shown (Some r) = 1 ∷ r.place ∷ r.len ∷ r.index ∷ r.entry ∷ []
shown None = 0 ∷ 0 ∷ 0 ∷ 0 ∷ 0 ∷ []

abbrev nothing : List ℕ
nothing = 0 ∷ 0 ∷ 0 ∷ 0 ∷ 0 ∷ []

-- a type and a body
abbrev pub broken_field_wrong : List (Row (Kind × List ℕ) (List ℕ))
broken_field_wrong =
    (P001, channel_body 13 0x59) only nothing  -- a field said to be broken where all hold
    ∷ (P001, channel_body 12 0x58) only (1 ∷ 0 ∷ 1 ∷ 0 ∷ 0 ∷ [])  -- EndOfChannel told, though SecurityType before it is broken too
    ∷ (P001, channel_body 13 0x58) never nothing  -- none told of a frame that 6 refuses
    ∷ (P001, channel_body 13 0x58) only (1 ∷ 11 ∷ 1 ∷ 3 ∷ 0 ∷ [])
    ∷ (P002, resend_body 7 6 0 0x20) only (1 ∷ 11 ∷ 8 ∷ 3 ∷ 0 ∷ [])  -- a request that ends below its start said of ApplBegSeqNum
    ∷ (P002, resend_body 0 0 1 0x41) only (1 ∷ 3 ∷ 8 ∷ 2 ∷ 0 ∷ [])  -- the place counted from the frame's front, or RejectText told
    ∷ (S001, replicate 64 0x41 ++ replicate 10 0) only (1 ∷ 64 ∷ 2 ∷ 2 ∷ 0 ∷ [])  -- a CompID told
    ∷ (M102, snapshot_body 7 (spelled "MD001") 1 2) only (1 ∷ 0 ∷ 1 ∷ 0 ∷ 0 ∷ [])  -- a SecurityType that no stream has said of MDStreamID
    ∷ (M102, snapshot_body 1 (spelled "MD301") 1 2) only (1 ∷ 10 ∷ 5 ∷ 4 ∷ 0 ∷ [])  -- SecurityType 1 with MD301 said of SecurityType
    ∷ (M102, snapshot_body 1 (spelled "MD001") 1 10000000000000) only (1 ∷ 85 ∷ 8 ∷ 14 ∷ 2 ∷ [])  -- the second entry's price said of the first
    ∷ (M102, snapshot_body 1 (spelled "MD002") 1 2) only (1 ∷ 71 ∷ 2 ∷ 12 ∷ 0 ∷ [])  -- entries of 10 bytes where 19 are due, and none told
    ∷ (M201, tick_on (spelled "MD211") 0x30 (replicate 138 0)) only (1 ∷ 45 ∷ 138 ∷ 9 ∷ 0 ∷ [])  -- a tail that does not suit told as nothing
    ∷ (M201, tick_on (spelled "MD211") 0x30 []) only (1 ∷ 45 ∷ 0 ∷ 9 ∷ 0 ∷ [])  -- an empty one too
    ∷ (S003, []) only nothing
    ∷ []

pub broken_field_rules_out : RulesOut (Kept _ broken-field-kinds.ps broken-field-kinds.r broken-field.Post) (λ c. (c.args.0, c.args.1.0.now)) (λ c. shown c.result) broken_field_wrong
unfolding numeral digits_of layout_of suits_tail tail_ok entry_size entries_fields lowest_from broken_of
broken_field_rules_out = ruled lists (λ (i : Kind × List ℕ). shown (broken_of i.0 i.1)) (λ c p. ap shown p) _ refl
