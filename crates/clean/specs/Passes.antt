-- A whole pass over a capture.
use Rattle.std.specs.Prelude.{ℕ, List, length}
use Rattle.walk_spec.specs.Walk.{sights, frames_of}
use Rattle.clean.specs.declared.Cleaned.{Cleaned}
use Rattle.clean_spec.specs.Clean.{clean_of, found_of}

unfoldable pub cleaned_of : List ℕ → Cleaned
cleaned_of s = record { bytes = length (clean_of s); frames = frames_of (sights s); after_damage = found_of s }
