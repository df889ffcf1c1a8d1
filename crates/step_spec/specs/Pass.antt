-- One pass over the fields serves 7 and 26: it fails where a field does not fit, stands twice,
-- lacks, or is a time that is not real.
use Rattle.std.specs.Prelude.{ℕ, Bool, ◌&&◌}
use Rattle.std.proofs.Math.Bool.{not}
use mathlib.Core.List.{List}
use Rattle.step_spec.specs.Pieces.{pieces}
use Rattle.step_spec.specs.Fields.{sound_from, none, unreal_in}

-- the checks 7 and 26 pass, with some rows seen already
unfoldable pub fine_from : ℕ → List Bool → List ℕ → Bool
fine_from type seen s = sound_from type seen s && not (unreal_in (pieces s))

abbrev pub fine_of : ℕ → List ℕ → Bool
fine_of type s = fine_from type none s
