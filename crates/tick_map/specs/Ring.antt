-- A map read round: the place behind place 255 is place 0.
use Rattle.std.specs.Prelude.{ℕ, ◌+◌, ◌-◌, ◌*◌, ◌/◌, ◌%◌, ◌^◌}

-- the 256 digits of m read round from place s: digit i is m's digit s + i, counted round.
-- `rotated_bit` of proofs/Ring.antt says so
unfoldable pub rotated : ℕ → ℕ → ℕ
rotated s m = (m % 2 ^ (s % 256)) * 2 ^ (256 - s % 256) + m / 2 ^ (s % 256)

-- and laid back: read round from s, m is what was laid
abbrev pub laid : ℕ → ℕ → ℕ
laid s m = rotated (256 - s % 256) m

-- m without the k places from s round
unfoldable pub without : ℕ → ℕ → ℕ → ℕ
without s k m = laid s (rotated s m / 2 ^ k * 2 ^ k)

-- the k places from s round alone: nothing else of m
unfoldable pub only : ℕ → ℕ → ℕ → ℕ
only s k m = laid s (rotated s m % 2 ^ k)

-- those of the k places from s round that m does not hold
unfoldable pub lacking : ℕ → ℕ → ℕ → ℕ
lacking s k m = only s k ((2 ^ 256 - 1) - m)
