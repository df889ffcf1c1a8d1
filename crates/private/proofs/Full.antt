-- Of a body's private spans none is empty, but for the last.
use Rattle.std.specs.Prelude.{ℕ, zero, ◌<◌, ◌≡◌, refl, List, [], ◌∷◌, length}
use Rattle.std.proofs.Common.{arith}
use Rattle.rules.specs.declared.Kind.{Kind}
use Rattle.rules.specs.declared.Kind.TheVariants.{S001, S002, S003, P001, P002, M101, M102, M201, Unknown}
use Rattle.rules.specs.declared.Layout.{Layout}
use Rattle.rules.specs.declared.Layout.TheVariants.{Order, Trade, Other}
use Rattle.private.specs.declared.Span.{Span}
use Rattle.private.specs.Private.{tail_of, tail_spans, private_of}

abbrev pub Full : List Span → Type 0
Full [] = zero ≡ zero
Full (p ∷ []) = zero ≡ zero
Full (p ∷ q ∷ ps) = (0 < p.len) × Full (q ∷ ps)

tail_full : (l : Layout) (n : ℕ) → Full (tail_spans l n)
tail_full Order n = (omega arith, (omega arith, refl))
tail_full Trade n = refl
tail_full Other n = refl

pub full : (k : Kind) (b : List ℕ) → Full (private_of k b)
full S001 b = (omega arith, refl)
full S002 b = refl
full S003 b = refl
full P001 b = refl
full P002 b = refl
full M101 b = refl
full M102 b = refl
full M201 b = tail_full (tail_of b) (length b)
full Unknown b = refl
