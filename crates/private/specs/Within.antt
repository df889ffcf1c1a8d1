-- The body within a buffer, one span of it painted there, and all of it scrubbed there.
use Rattle.std.specs.Prelude.{ℕ, ◌+◌, ◌≡◌, List, [], ◌∷◌, take, drop, replicate}
use Rattle.octets.specs.Octets.{laid}
use Rattle.rules.specs.declared.Kind.{Kind}
use Rattle.private.specs.declared.Span.{Span}
use Rattle.private.specs.Private.{private_of, span_at}
use Rattle.private.specs.Scrub.{painted, summed}

-- n bytes behind the header
abbrev pub body_in : ℕ → List ℕ → List ℕ
body_in n d = take n (drop 24 d)

abbrev pub span_in : Kind → ℕ → ℕ → List ℕ → Span
span_in k n i d = span_at i (private_of k (body_in n d))

abbrev pub span_painted : Span → List ℕ → List ℕ
span_painted p d = laid (24 + p.place) (replicate p.len p.fill) d

-- the n bytes behind the header painted as a body of type k, and the sum set anew
abbrev pub scrubbed_as : Kind → ℕ → List ℕ → List ℕ
scrubbed_as k n d = summed (24 + n) (laid 24 (painted (private_of k (body_in n d)) (body_in n d)) d)

-- the number in the four bytes behind the first n is below 256: the first three of them are 0
abbrev pub SmallSum : ℕ → List ℕ → Type 0
SmallSum n d = take 3 (drop n d) ≡ 0 ∷ 0 ∷ 0 ∷ []
