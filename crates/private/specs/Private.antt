-- Which bytes of a body are private: ONE definition, from which the promise, the theorems and
-- docs/PRIVATE.md all speak.
-- Document 01, "Scrubber", and document 02, CR 2.
use Rattle.std.specs.Prelude.{ℕ, ◌+◌, ◌-◌, List, [], ◌∷◌, length, get_or}
use Rattle.rules.specs.declared.Kind.{Kind}
use Rattle.rules.specs.declared.Kind.TheVariants.{S001, S002, S003, P001, P002, M101, M102, M201, Unknown}
use Rattle.terms.specs.Paper.{pick}
use Rattle.rules.specs.declared.Layout.{Layout}
use Rattle.rules.specs.declared.Layout.TheVariants.{Order, Trade, Other}
use Rattle.rules.specs.Widths.{Holds, text, number, before, width_of, place_of, fixed, order_widths, order_holds}
use Rattle.rules.specs.Fields.{named_in, tail_ok}
use Rattle.private.specs.declared.Span.{Span}

-- "A private number becomes 0 and private text becomes spaces"
abbrev pub fill_of : Holds → ℕ
fill_of text = 0x20
fill_of number = 0

-- len bytes from the offset place on, each replaced by a space
abbrev pub spaces : ℕ → ℕ → Span
spaces place len = record { place = place; len = len; fill = fill_of text }

-- field number i of a type, in the table's order
abbrev pub whole_field : Kind → ℕ → Span
whole_field k i = spaces (place_of k i) (width_of k i)

-- THE EXTENSION OF AN M201: field number i of an order, behind the 45 fixed bytes
abbrev pub order_field : ℕ → Span
order_field i = record { place = fixed M201 + before i order_widths; len = get_or order_widths i 0; fill = fill_of (get_or order_holds i text) }

-- how the extension of a body is read: by the layout that its stream and ExecType name, where the
-- body has that layout's length. A body that has not never reads; lent alone it counts as a stream
-- not named.
unfoldable pub tail_of : List ℕ → Layout
tail_of b = pick (tail_ok b) (named_in b) Other

-- "Member and trader codes and free text stay private": three fields of an order, none of a trade.
-- Any other extension is private to its end, as document 01 has it (CR 2).
abbrev pub tail_spans : Layout → ℕ → List Span
tail_spans Order n = order_field 2 ∷ order_field 3 ∷ order_field 10 ∷ []  -- MemberID, TraderCode, InvestorName
tail_spans Trade n = []
tail_spans Other n = spaces (fixed M201) (n - fixed M201) ∷ []

-- "spaces (0x20) replace both CompIDs of S001, Text of S002 and RejectText of P002"
abbrev pub private_of : Kind → List ℕ → List Span
private_of S001 b = whole_field S001 0 ∷ whole_field S001 1 ∷ []  -- SenderCompID, TargetCompID
private_of S002 b = whole_field S002 1 ∷ []  -- Text
private_of S003 b = []
private_of P001 b = []
private_of P002 b = whole_field P002 5 ∷ []  -- RejectText
private_of M101 b = []
private_of M102 b = []
private_of M201 b = tail_spans (tail_of b) (length b)  -- of the extension
private_of Unknown b = []

-- span number i; from the last on, an empty one
abbrev pub span_at : ℕ → List Span → Span
span_at i spans = get_or spans i (spaces 0 0)
