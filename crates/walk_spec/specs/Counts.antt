-- Each reading is a frame or refused, and so the counts make all records.
use Rattle.std.specs.Prelude.{ℕ, ◌+◌, ◌≤◌, ◌≡◌, refl, Bool, true, false, List, [], ◌∷◌, eqb, length, ⊤, Result, Ok, Err, is_ok}
use Rattle.std.proofs.Common.{arith}
use Rattle.std.specs.Int.{from_bool}
use Rattle.terms.specs.Paper.{pick}
use Rattle.terms.specs.Refusals.{refusal_not_0}
use Rattle.terms.specs.Verdicts.{verdict_number}
use Rattle.terms.specs.declared.Refusal.{Refusal}
use Rattle.walk_laws.specs.Walk.{Sight}
use Rattle.reading.specs.declared.Seen.{Seen}
use Rattle.reading.specs.Seen.{seen_number}
use Rattle.walk_spec.specs.Walk.{accepts, refuses, frames_of, refused_of}

one : (b : Bool) → pick b 1 0 + pick b 0 1 ≡ 1
one true = refl
one false = refl

pub each : (reading : ℕ) → accepts reading + refuses reading ≡ 1
unfolding accepts refuses
each reading = one (eqb reading 0)

-- 1 for an accepted reading, as code counts it
pub accepts_is : (v : Result ⊤ Refusal) → from_bool (is_ok v) ≡ accepts (verdict_number v)
unfolding accepts
accepts_is (Ok _) = refl
accepts_is (Err w) = rw (refusal_not_0 w)

pub accepts_one : (reading n : ℕ) → n ≡ accepts reading → n ≤ 1
accepts_one reading n e = omega (arith, each reading)

pub counts : (xs : List (Sight Seen)) → frames_of xs + refused_of xs ≡ length xs
unfolding frames_of refused_of
counts [] = refl
counts (x ∷ xs) = omega (arith, each (seen_number x.read), counts xs)
