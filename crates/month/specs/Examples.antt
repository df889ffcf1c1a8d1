-- Captures and pages for the tables of wrong answers.
use Rattle.std.specs.Prelude.{ℕ, List, [], ◌∷◌, ◌++◌, replicate}
use Rattle.octets.specs.Octets.{bytes_of}
use Rattle.frame_spec.specs.Examples.{framed}
use Rattle.month_spec.specs.Page.{Page}

-- an M201, a P001 and a P002 of a channel: tick number, announced number, ResendStatus
abbrev pub ticked : ℕ → ℕ → List ℕ
ticked channel n = framed 0x4D323031 (13 ∷ bytes_of 2 channel ++ (bytes_of 8 n ++ (replicate 17 0x30 ++ (0x30 ∷ replicate 16 0))))

abbrev pub announced : ℕ → ℕ → List ℕ
announced channel n = framed 0x50303031 (13 ∷ bytes_of 2 channel ++ (bytes_of 8 n ++ (0x4E ∷ [])))

abbrev pub asked : ℕ → ℕ → List ℕ
asked channel status = framed 0x50303032 (bytes_of 2 channel ++ (1 ∷ bytes_of 8 3 ++ (bytes_of 8 5 ++ (status ∷ replicate 32 0x20))))

-- a page of channels 101 and 100, so many captures, and this sum of channel 100's received
abbrev pub page : ℕ → ℕ → Page
page taken sum = record { channels = 101 ∷ 100 ∷ replicate 30 0; named = 2; taken = taken; sums = replicate 6 0 ++ (sum ∷ replicate 185 0) }
