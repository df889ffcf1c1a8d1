-- Captures fed to a page one after the other: the page after them, which of them were answered 0,
-- and the same captures in another order.
use Rattle.std.specs.Prelude.{ℕ, ◌+◌, ◌≡◌, List, [], ◌∷◌, eqb}
use Rattle.terms.specs.Paper.{pick}
use Rattle.month_spec.specs.Page.{Page}
use Rattle.month_spec.specs.Calls.{number_to, next_of}

-- a capture's bytes
abbrev pub Capture : Type 0
Capture = List ℕ

unfoldable pub page_after : Page → List Capture → Page
page_after p [] = p
page_after p (s ∷ more) = page_after (next_of p s) more

-- the captures answered 0, in their order
unfoldable pub answered_zero : Page → List Capture → List Capture
answered_zero p [] = []
answered_zero p (s ∷ more) = pick (eqb (number_to p s) 0) (s ∷ answered_zero (next_of p s) more) (answered_zero (next_of p s) more)

-- the sum of a figure over captures, in whole numbers
unfoldable pub sum_over : (Capture → ℕ) → List Capture → ℕ
sum_over figure [] = 0
sum_over figure (s ∷ more) = figure s + sum_over figure more

-- no call is refused
pub data Unrefused : Page → List Capture → Type 0 where
  u_none : {p : Page} → Unrefused p []
  u_more : {p : Page} {s : Capture} {more : List Capture} → number_to p s ≡ 0 → Unrefused (next_of p s) more → Unrefused p (s ∷ more)

-- "the captures in another order": two neighbours changed, as often as one likes
pub data Reordered : List Capture → List Capture → Type 0 where
  r_none : Reordered [] []
  r_more : {s : Capture} {a b : List Capture} → Reordered a b → Reordered (s ∷ a) (s ∷ b)
  r_swap : {s t : Capture} {a : List Capture} → Reordered (s ∷ t ∷ a) (t ∷ s ∷ a)
  r_then : {a b c : List Capture} → Reordered a b → Reordered b c → Reordered a c
