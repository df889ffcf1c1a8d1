-- The fields of an M201's extension one by one, from the widths of 000: place in the body, length,
-- letters or a number, and private or not.
use Rattle.std.specs.Prelude.{ℕ, ◌+◌, ◌-◌, ◌≡◌, refl, Bool, true, false, List, [], ◌∷◌, get_or}
use Rattle.terms.specs.Paper.{pick}
use Rattle.rules.specs.declared.Kind.TheVariants.{M201}
use Rattle.rules.specs.declared.Layout.{Layout}
use Rattle.rules.specs.declared.Layout.TheVariants.{Order, Trade, Other}
use Rattle.rules.specs.Widths.{Holds, text, number, fixed, order_widths, order_holds, trade_widths, trade_holds}
use Rattle.private.specs.declared.Span.{Span}
use Rattle.private.specs.Private.{fill_of, tail_spans}
use Rattle.tails.specs.declared.Content.{Content}
use Rattle.tails.specs.declared.Content.TheVariants.{Letters, Number}
use Rattle.tails.specs.declared.TailField.{TailField}

abbrev pub content_of : Holds → Content
content_of text = Letters
content_of number = Number

abbrev pub field_of : ℕ → ℕ → Content → Bool → TailField
field_of place len content private = record { place = place; len = len; content = content; is_private = private }

-- fields of these widths, one behind the other from a place on
abbrev pub laid_out : ℕ → List ℕ → List Holds → List Bool → List TailField
laid_out at [] hs ps = []
laid_out at (w ∷ ws) [] ps = []
laid_out at (w ∷ ws) (h ∷ hs) [] = []
laid_out at (w ∷ ws) (h ∷ hs) (p ∷ ps) = field_of at w (content_of h) p ∷ laid_out (at + w) ws hs ps

-- of an order MemberID, TraderCode and InvestorName are private, of a trade nothing
abbrev pub order_fields : List TailField
order_fields = laid_out (fixed M201) order_widths order_holds (false ∷ false ∷ true ∷ true ∷ false ∷ false ∷ false ∷ false ∷ false ∷ false ∷ true ∷ false ∷ false ∷ false ∷ false ∷ false ∷ [])

abbrev pub trade_fields : List TailField
trade_fields = laid_out (fixed M201) trade_widths trade_holds (false ∷ false ∷ false ∷ false ∷ false ∷ [])

-- of a stream not named all of it, as one
abbrev pub all_behind : ℕ → List TailField
all_behind n = field_of (fixed M201) (n - fixed M201) Letters true ∷ []

abbrev pub tail_fields : Layout → ℕ → List TailField
tail_fields Order n = order_fields
tail_fields Trade n = trade_fields
tail_fields Other n = all_behind n

-- field number i; from the last on, an empty one
abbrev pub field_at : ℕ → List TailField → TailField
field_at i fs = get_or fs i (field_of 0 0 Number false)

-- THE PRIVATE ONES are the private spans, with the fill of what they hold
abbrev pub holds_of : Content → Holds
holds_of Letters = text
holds_of Number = number

abbrev pub hidden_in : List TailField → List Span
hidden_in [] = []
hidden_in (f ∷ fs) = pick f.is_private (record { place = f.place; len = f.len; fill = fill_of (holds_of f.content) } ∷ hidden_in fs) (hidden_in fs)

pub hidden_are : (l : Layout) (n : ℕ) → hidden_in (tail_fields l n) ≡ tail_spans l n
hidden_are Order n = refl
hidden_are Trade n = refl
hidden_are Other n = refl
