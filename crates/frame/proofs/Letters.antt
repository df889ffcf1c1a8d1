-- The third byte of a word of four, alone.
use Rattle.std.proofs.Common.{◌≡◌, ℕ, ◌+◌, ◌/◌, ◌%◌, ◌<◌, List, get_or, arith}
use Rattle.octets.specs.Octets.{numeral, be}

pub third : (at : ℕ) (s : List ℕ) → get_or s (at + 2) 0 < 256 → get_or s (at + 3) 0 < 256 → be 4 at s / 256 % 256 ≡ get_or s (at + 2) 0
unfolding numeral
third at s p q = omega arith
