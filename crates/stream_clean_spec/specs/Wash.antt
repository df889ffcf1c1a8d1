-- What a reading gives to a stream that scrubs: its frame, scrubbed, and what is counted of it.
use Rattle.std.specs.Prelude.{ℕ, ◌+◌, Bool, not, List, [], ◌∷◌, eqb, length, take}
use Rattle.terms.specs.Paper.{pick}
use Rattle.terms.specs.Letters.{spelled}
use Rattle.octets.specs.Papers.{laid_if_room}
use Rattle.private.specs.Scrub.{scrubbed}
use Rattle.walk_laws.specs.Walk.{Says, Sight}
use Rattle.walk_laws.specs.Frames.{joined, each_of}
use Rattle.reading.specs.declared.Seen.{Seen}
use Rattle.reading.specs.Seen.{seen_of, seen_number}
use Rattle.walk_spec.specs.Walk.{accepts}
use Rattle.stream_spec.specs.Run.{says_in}
use Rattle.stream_clean_spec.specs.declared.Sums.{Sums}

-- ---- a reading with the bytes of its frame

-- what is seen at a place, and the bytes of the frame that was read there, none where it
-- was refused
pub record Cut : Type 0 where
  pub seen : Seen
  pub own : List ℕ

abbrev pub cut_of : List ℕ → Cut
cut_of s = record { seen = seen_of s; own = take (seen_of s).size s }

-- what it says to the walk: at the closing call none waits
abbrev pub says_by : Bool → Cut → Says
says_by closing c = says_in closing c.seen

-- ---- what readings come to

-- the frames, each scrubbed, end to end
abbrev pub own_of : Sight Cut → List ℕ
own_of x = scrubbed x.read.own

unfoldable pub washed : List (Sight Cut) → List ℕ
washed xs = joined (each_of own_of xs)

-- a body that no rule judges: M101's
unfoldable pub unjudged_by : ℕ → ℕ
unjudged_by type = pick (eqb type (spelled "M101")) 1 0

abbrev pub no_sums : Sums
no_sums = record { bytes = 0; frames = 0; found = 0; unjudged = 0 }

unfoldable pub plus : Sums → Sums → Sums
plus a b = record { bytes = a.bytes + b.bytes; frames = a.frames + b.frames; found = a.found + b.found; unjudged = a.unjudged + b.unjudged }

-- one reading: a frame that was read while the search was under way was found after damage
unfoldable pub one_of : Bool → Cut → Sums
one_of seeking c =
    record {
      bytes = length c.own;
      frames = accepts (seen_number c.seen);
      found = pick seeking (accepts (seen_number c.seen)) 0;
      unjudged = unjudged_by c.seen.msg_type;
    }

-- behind a refused reading the search is under way
abbrev pub seeks_after : Seen → Bool
seeks_after x = not (eqb (seen_number x) 0)

unfoldable pub sums_of : Bool → List (Sight Cut) → Sums
sums_of seeking [] = no_sums
sums_of seeking (x ∷ xs) = plus (one_of seeking x.read) (sums_of (seeks_after x.read.seen) xs)

-- ---- what is written of them, from the place n of a buffer on: each frame that has room
unfoldable pub lays : ℕ → List (Sight Cut) → List ℕ → List ℕ
lays n [] d = d
lays n (x ∷ xs) d = lays (n + length x.read.own) xs (laid_if_room n (own_of x) d)
