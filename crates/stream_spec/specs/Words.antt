-- The words of CR 1: what a row of calls gives and is answered, told from the bytes taken alone.
use Rattle.std.specs.Prelude.{ℕ, zero, ◌+◌, ◌/◌, ◌≤◌, ◌≡◌, Bool, true, false, not, List, [], ◌∷◌, ◌++◌, ltb, leb, length, drop, replicate}
use Rattle.terms.specs.Paper.{pick}
use Rattle.ledger_spec.specs.Calls.{fresh}
use Rattle.ledger.specs.State.{ledger_of}
use Rattle.record.specs.declared.Record.{Record}
use Rattle.walk_laws.specs.Walk.{Sight, within}
use Rattle.walk_laws.specs.Closing.{below, wait_of}
use Rattle.walk_laws.specs.Account.{account_of}
use Rattle.reading.specs.declared.Seen.{Seen}
use Rattle.reading.specs.Seen.{seen_of, says_of}
use Rattle.walk_spec.specs.Walk.{record_by, book_by, sights, walk_of, frames_of, refused_of}
use Rattle.stream_spec.specs.declared.Stream.{Stream}
use Rattle.stream_spec.specs.declared.Tally.{Tally}
use Rattle.stream_spec.specs.State.{last_place, head_of, sound_of}
use Rattle.stream_spec.specs.Calls.{Call, cut_of, closes, number_to}
use Rattle.stream_spec.specs.Trace.{Calls, after, given, taken, ended}

-- a place that "waits for more": the first place of the walk over s, read or tried by the search,
-- that answers 1; the end where none does
abbrev pub wait_at : List ℕ → ℕ
wait_at s = wait_of seen_of says_of (within zero) 0 s

-- records in their order, as far as their places are below w
unfoldable pub records_below : ℕ → List Record → List Record
records_below w [] = []
records_below w (r ∷ rs) = pick (ltb r.place w) (r ∷ records_below w rs) []

-- the records that bytes s decide: before the closing call those of the closed walk up to the first
-- place that waits, then all
unfoldable pub decided : Bool → List ℕ → List Record
decided true s = (walk_of s).records
decided false s = records_below (wait_at s) (walk_of s).records

-- the readings that made them
unfoldable pub readings : Bool → List ℕ → List (Sight Seen)
readings true s = sights s
readings false s = below (wait_at s) (sights s)

-- counts and ledger of such readings, as the closed walk makes them, with a ledger of channel 100
abbrev pub tallied : List (Sight Seen) → Tally
tallied xs = record { frames = frames_of xs; refused = refused_of xs; ledger = ledger_of (account_of record_by book_by (fresh 100) xs).ledger }

-- the number of one more call: 19 after the closing one; 29 where the joined length would pass 64
-- bits; 8 where its share of the records does not fit; 0 else, and never 13
unfoldable pub number_told : Calls → Call → ℕ → ℕ
number_told calls call room =
    pick (ended calls) 19
    (pick (not (leb (length (taken calls) + length (cut_of call)) last_place)) 29
    (pick (not (leb (length (decided (closes call) (taken calls ++ cut_of call))) (length (given calls) + room / 64))) 8 0))

-- THE THEOREM'S SENTENCES, of a row of calls

pub record Follows (calls : Calls) : Type 0 where
  -- the records are those of the closed walk "over the joined bytes", as far as they are decided
  pub records : given calls ≡ decided (ended calls) (taken calls)
  -- and so are counts and ledger
  pub tally : (after calls).tally ≡ tallied (readings (ended calls) (taken calls))
  -- each number from the bytes alone
  pub numbers : (call : Call) (room : ℕ) → number_to (after calls) call room ≡ number_told calls call room
  -- "at most 8,191 bytes" wait; they are the last of the bytes taken, from the first place
  -- that waits on
  pub few : (after calls).len ≤ 8191
  pub places : (after calls).place + (after calls).len ≡ length (taken calls)
  pub keeps_last : head_of (after calls).len (after calls).kept ≡ drop (after calls).place (taken calls)
  pub stands_there : ended calls ≡ false → (after calls).place ≡ wait_at (taken calls)
  -- the state rules hold
  pub rules : sound_of (after calls) ≡ true
  pub closed : (after calls).closed ≡ ended calls

-- after the closing call: counts and ledger are the closed walk's, and no byte is left in the store
pub record Closed (s : List ℕ) (x : Stream) : Type 0 where
  pub frames : x.tally.frames ≡ frames_of (sights s)
  pub refused : x.tally.refused ≡ refused_of (sights s)
  pub ledger : x.tally.ledger ≡ ledger_of (walk_of s).ledger
  pub none : x.len ≡ 0
  pub blank : x.kept ≡ replicate 8191 0
