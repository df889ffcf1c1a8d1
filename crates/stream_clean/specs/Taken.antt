-- What the code keeps of a reading.
use Rattle.std.specs.Prelude.{ℕ, ◌≡◌, List, take}
use Rattle.octets.specs.Papers.{laid_if_room}
use Rattle.private.specs.Scrub.{scrubbed}
use Rattle.reading.specs.declared.Seen.{Seen}
use Rattle.reading.specs.Seen.{seen_of}
use Rattle.clean_spec.specs.Kept.{kept_of}
use Rattle.stream_clean_spec.specs.Wash.{unjudged_by}
use Rattle.stream_clean.specs.declared.Taken.{Taken}

abbrev pub taken_of : Seen → Taken
taken_of x = record { answer = kept_of x; unjudged = unjudged_by x.msg_type }

-- the frame at the front of s was read as t, and laid scrubbed where d has room for it from n on
abbrev pub TakenIs : List ℕ → ℕ → List ℕ → List ℕ → Taken → Type 0
TakenIs s n d d' t = (t ≡ taken_of (seen_of s)) × (d' ≡ laid_if_room n (scrubbed (take (seen_of s).size s)) d)
