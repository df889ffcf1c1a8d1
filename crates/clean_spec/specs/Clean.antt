-- A capture, scrubbed (CR 11): the frames that its walk accepts, each scrubbed, end to end; other
-- bytes are left out. And where a capture differs from that.
use Rattle.std.specs.Prelude.{ℕ, ◌+◌, Bool, List, [], ◌∷◌, eqb, leb, length, take, drop}
use Rattle.terms.specs.Paper.{Paper, answer, pick}
use Rattle.octets.specs.Octets.{laid}
use Rattle.private.specs.Scrub.{scrubbed}
use Rattle.walk_laws.specs.Walk.{Sight}
use Rattle.walk_laws.specs.Frames.{joined, each_of}
use Rattle.reading.specs.declared.Seen.{Seen}
use Rattle.reading.specs.Seen.{seen_number}
use Rattle.walk_spec.specs.Walk.{sights, accepts, frames_of}

-- ---- the cleaned capture

-- the bytes of the frame that was read at a place of s: 28 + BodyLength of them
abbrev pub cut_at : List ℕ → Sight Seen → List ℕ
cut_at s x = take x.read.size (drop x.place s)

-- the accepted frames among these readings of s, in order
unfoldable pub frames_in : List ℕ → List (Sight Seen) → List (List ℕ)
frames_in s [] = []
frames_in s (x ∷ xs) = pick (eqb (seen_number x.read) 0) (cut_at s x ∷ frames_in s xs) (frames_in s xs)

-- those frames, each scrubbed, end to end
abbrev pub clean_in : List ℕ → List (Sight Seen) → List ℕ
clean_in s xs = joined (each_of scrubbed (frames_in s xs))

unfoldable pub clean_of : List ℕ → List ℕ
clean_of s = clean_in s (sights s)

-- ---- frames behind damage

-- 1 for a reading that was accepted right behind one that was refused: the search found it
unfoldable pub found_by : ℕ → ℕ → ℕ
found_by before reading = pick (eqb before 0) 0 (accepts reading)

-- how many there are among these readings, behind one that answered `before`
unfoldable pub found_in : ℕ → List (Sight Seen) → ℕ
found_in before [] = 0
found_in before (x ∷ xs) = found_by before (seen_number x.read) + found_in (seen_number x.read) xs

-- no reading stands before the first
abbrev pub found_of : List ℕ → ℕ
found_of s = found_in 0 (sights s)

-- ---- what cleaning answers and leaves

-- "8 [..] output buffer shorter than what is to be written"
unfoldable pub fits_in : List ℕ → ℕ → Bool
fits_in s room = leb (length (clean_of s)) room

unfoldable pub clean_answer : List ℕ → ℕ → Paper
clean_answer s room =
    pick (fits_in s room)
    (answer 0 (length (clean_of s) ∷ frames_of (sights s) ∷ found_of s ∷ []))
    (answer 8 (0 ∷ 0 ∷ 0 ∷ []))

unfoldable pub clean_leaves : List ℕ → List ℕ → List ℕ
clean_leaves s d = pick (fits_in s (length d)) (laid 0 (clean_of s) d) d

-- ---- whether it is clean

-- the first place where a and b differ, counted from p on; the end of the shorter where it is a
-- front of the other; none where they are equal
unfoldable pub differ_of : ℕ → List ℕ → List ℕ → List ℕ
differ_of p [] [] = []
differ_of p [] (y ∷ b) = p ∷ []
differ_of p (x ∷ a) [] = p ∷ []
differ_of p (x ∷ a) (y ∷ b) = pick (eqb x y) (differ_of (p + 1) a b) (p ∷ [])

-- 0, and the place where it is not clean
unfoldable pub check_of : List ℕ → Paper
check_of s = answer 0 (differ_of 0 s (clean_of s))
