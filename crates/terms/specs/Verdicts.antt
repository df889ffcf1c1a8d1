-- An answer as document 01's number: 0, or the refusal's.
use Rattle.std.specs.Prelude.{ℕ, Result, Ok, Err}
use Rattle.terms.specs.Refusals.{number_of}
use Rattle.terms.specs.declared.Refusal.{Refusal}

abbrev pub verdict_number : {T : Type 0} → Result T Refusal → ℕ
verdict_number (Ok _) = 0
verdict_number (Err w) = number_of w
