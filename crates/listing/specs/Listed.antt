-- From the walk's records to the listing: what the text of the walk's records and counts is, and
-- how long it is at most.
use Rattle.std.specs.Prelude.{ℕ, ◌+◌, ◌*◌, ◌/◌, ◌≤◌, ◌≡◌, List, length, take}
use Rattle.std.proofs.Common.{ap, arith}
use Rattle.std.proofs.Math.ListN.{length-append}
use Rattle.octets.specs.Octets.{Bytes}
use Rattle.octets.specs.Overlays.{take_front, length_laid}
use Rattle.listing_text.specs.Lengths.{summary_most}
use Rattle.walk.specs.declared.Walked.{Walked}
use Rattle.walk.specs.declared.Counts.{Counts}
use Rattle.terms.specs.declared.Refusal.{Refusal}
use Rattle.std.specs.Prelude.{Result, Ok}
use Rattle.std.specs.Result.{result_unwrap_or}
use Rattle.std.proofs.Common.{sym, ◌∙◌}
use Rattle.walk_spec.specs.WalkLaws.{records_few}
use Rattle.walk_spec.specs.Literal.{Walk, literal_walk}
use Rattle.walk_spec.proofs.LiteralLaws.{literal_walk_lem}
use Rattle.walk.specs.Promises.{Listed}
use Rattle.listing_text.specs.Whole.{listing_of}
use Rattle.walk_spec.specs.Walk.{table_of}
use Rattle.listing_text.specs.Laws.{length_table, listing_table, LastFits, lines_most}
use Rattle.listing_text.specs.Fit.{walk_fits}
use Rattle.listing_text.specs.Listed.{last_at, listed_of, walked_book}
use Rattle.listing.specs.LastLine.{last_by}

ok_one : (a b : Counts) (r : Result Counts Refusal) → r ≡ Ok a → r ≡ Ok b → a ≡ b
ok_one a b r p q = ap (λ (x : Result Counts Refusal). result_unwrap_or x a) (sym p ∙ q)

module _ (s : List ℕ) where
  pub walked_few : length (literal_walk s).records ≤ 2 * (length s / 29) + 2
  walked_few = rw (ap (λ (w : Walk). length w.records) (literal_walk_lem s)) (records_few s)

-- of a capture s, a buffer d that is d' after the walk, and what the walk answered, with its counts
module _ (s d d' : List ℕ) (x : Walked) (c : Counts) (l : Listed (literal_walk s) d d' x) (e : x.answer ≡ Ok c) where
  counts_are : c ≡ record { records = length (literal_walk s).records; frames = (literal_walk s).frames; refused = (literal_walk s).refused }
  counts_are = ok_one c _ x.answer e l.answer

  last_is : last_by c x.ledger ≡ last_at (literal_walk s).frames (literal_walk s).refused (literal_walk s).ledger
  unfolding last_by
  last_is = rw (counts_are, l.ledger, walked_book s)

  table_is : take (64 * c.records) d' ≡ table_of (literal_walk s).records
  table_is = rw (counts_are, l.buffer) (take_front (64 * length (literal_walk s).records) (table_of (literal_walk s).records) d (length_table (literal_walk s).records))

  pub records_are : c.records ≡ length (literal_walk s).records
  records_are = ap (λ (k : Counts). k.records) counts_are

  pub table_within : 64 * length (literal_walk s).records ≤ length d → 64 * c.records ≤ length d'
  table_within h = rw (counts_are, l.buffer, length_laid 0 (table_of (literal_walk s).records) d (omega (arith, length_table (literal_walk s).records))) h

  -- the lines of exactly the records of document 01's walk, and the last line of its counts
  module _ (bytes : Bytes s) (short : length s ≤ 65536) where
    pub listing_is : listing_of (take (64 * c.records) d') (last_by c x.ledger) ≡ listed_of s
    unfolding listed_of
    listing_is = rw (table_is, last_is) (listing_table (literal_walk s).records (last_at (literal_walk s).frames (literal_walk s).refused (literal_walk s).ledger) (walk_fits s bytes (omega arith)))

    pub listing_short : LastFits (last_by c x.ledger) → length (listed_of s) ≤ 574178
    unfolding listed_of
    listing_short f =
        rw (← last_is)
        (simp length-append
        (omega (arith, lines_most (literal_walk s).records (walk_fits s bytes (omega arith)), walked_few s, summary_most (last_by c x.ledger) f.frames f.refused f.floor f.top f.missing)))
