-- The spans that are told one by one, from number 0 up to the first empty one, are exactly the
-- private bytes of a body, and lie within it.
use Rattle.std.specs.Prelude.{ℕ, ◌+◌, ◌<◌, ◌≤◌, ◌≡◌, ◌↔◌, List, length}
use Rattle.rules.specs.declared.Kind.{Kind}
use Rattle.private.specs.declared.Span.{Span}
use Rattle.private.specs.Private.{private_of, span_at}
use Rattle.private.specs.PrivateLaws.{PrivateByte}

-- the byte j lies in span number i
abbrev pub In : List Span → ℕ → ℕ → Type 0
In ps i j = ((span_at i ps).place ≤ j) × (j < (span_at i ps).place + (span_at i ps).len)

-- THE THEOREM, of every body whose length suits its type
pub record Covers (k : Kind) (b : List ℕ) : Type 0 where
  pub exactly : (j : ℕ) → PrivateByte k b j ↔ ((i : ℕ) × In (private_of k b) i j)
  pub within : (i : ℕ) → (span_at i (private_of k b)).place + (span_at i (private_of k b)).len ≤ length b
  pub ends_there : (i m : ℕ) → i ≤ m → (span_at i (private_of k b)).len ≡ 0 → (span_at m (private_of k b)).len ≡ 0
