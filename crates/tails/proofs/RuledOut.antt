-- For the public function: wrong answers that its promise rules out, as a table of what is given
-- and what is then wrong. Assumes nothing.
use Prim.Native.Nat.{ℕ}
use mathlib.Core.Path.{refl, ap}
use mathlib.Core.List.{List, [], ◌∷◌}
use Rattle.terms.specs.RuledOut.{Row, ◌never◌, ◌only◌, Kept, RulesOut, ruled, lists}
use Rattle.rules.specs.declared.Layout.{Layout}
use Rattle.rules.specs.declared.Layout.TheVariants.{Order, Trade, Other}
use Rattle.terms.specs.Paper.{pick}
use Rattle.tails.specs.declared.Content.{Content}
use Rattle.tails.specs.declared.Content.TheVariants.{Letters, Number}
use Rattle.tails.specs.declared.TailField.{TailField}
use Rattle.tails.specs.Fields.{tail_fields, field_at}
use Rattle.tails.proofs.tail_field.Reads as tail-field
use Rattle.tails.proofs.tail_field.Kinds as tail-field-kinds

-- place, length, letters or number, private or not
abbrev letters : Content → ℕ
letters Letters = 1
letters Number = 0

abbrev shown : TailField → List ℕ
shown f = f.place ∷ f.len ∷ letters f.content ∷ pick f.is_private 1 0 ∷ []

-- a layout, the length of a body, and the number of a field
abbrev pub tail_field_wrong : List (Row (Layout × (ℕ × ℕ)) (List ℕ))
tail_field_wrong =
    (Order, (184, 1)) only (46 ∷ 18 ∷ 1 ∷ 0 ∷ [])  -- QuoteID hidden, or a byte early
    ∷ (Order, (184, 2)) never (64 ∷ 12 ∷ 1 ∷ 0 ∷ [])  -- MemberID told as public
    ∷ (Order, (184, 10)) only (120 ∷ 32 ∷ 1 ∷ 1 ∷ [])  -- InvestorName told short
    ∷ (Order, (184, 16)) only (0 ∷ 0 ∷ 0 ∷ 0 ∷ [])
    ∷ (Trade, (98, 0)) never (45 ∷ 1 ∷ 1 ∷ 0 ∷ [])  -- a trade read as an order
    ∷ (Trade, (98, 4)) only (90 ∷ 8 ∷ 0 ∷ 0 ∷ [])
    ∷ (Other, (50, 0)) only (45 ∷ 5 ∷ 1 ∷ 1 ∷ [])  -- an unnamed tail told as public
    ∷ []

pub tail_field_rules_out : RulesOut (Kept _ tail-field-kinds.ps tail-field-kinds.r tail-field.Post) (λ c. (c.args.0, (c.args.1.0, c.args.1.1.0))) (λ c. shown c.result) tail_field_wrong
tail_field_rules_out = ruled lists (λ (i : Layout × (ℕ × ℕ)). shown (field_at i.1.1 (tail_fields i.0 i.1.0))) (λ c p. ap shown p) _ refl
