-- How many records there are, whether they fit, and what the walk then answers and leaves.
use Rattle.std.specs.Prelude.{ℕ, zero, ◌+◌, ◌*◌, ◌/◌, ◌≤◌, ◌≡◌, refl, true, false, List, [], ◌∷◌, leb, length}
use Rattle.std.proofs.Common.{sym, ◌∙◌, arith, le-leb, leb-true}
use Rattle.terms.specs.Paper.{answer}
use Rattle.octets.specs.Octets.{laid}
use Rattle.ledger.specs.State.{ledger_of}
use Rattle.ledger_spec.specs.Calls.{fresh}
use Rattle.ledger.specs.declared.Ledger.{Ledger}
use Rattle.walk_laws.specs.Account as Account
use Rattle.walk_laws.specs.Account.{account_length}
use Rattle.walk_laws.specs.Walk.{within}
use Rattle.walk_laws.specs.Seen.{readings_few}
use Rattle.reading.specs.Seen.{seen_of, says_of}
use Rattle.reading.proofs.SeenLaws.{seen_fits}
use Rattle.walk_spec.specs.Walk.{record_by, book_by, sights, walk_of, frames_of, refused_of, fits_in, walk_answer, walk_book, walk_leaves, table_of}
use Rattle.walk_spec.specs.Tables.{written_from, written_all}
use Rattle.walk_spec.specs.Counts.{counts}

-- one record for each reading
pub one_each : (s : List ℕ) → length (walk_of s).records ≡ length (sights s)
unfolding Account.walk_of
one_each s = account_length record_by book_by (fresh 100) (sights s)

-- n bytes make at most 2 (n / 29) + 2 records
pub records_few : (s : List ℕ) → length (walk_of s).records ≤ 2 * (length s / 29) + 2
records_few s = rw (one_each s) (readings_few seen_of says_of (λ t n e. (seen_fits t n e).0) (λ t n e. (seen_fits t n e).1) (within zero) 0 s (omega arith))

pub counts_all : (s : List ℕ) → frames_of (sights s) + refused_of (sights s) ≡ length (walk_of s).records
counts_all s = counts (sights s) ∙ sym (one_each s)

-- ROOM

pub fits_roomy : (s : List ℕ) (room : ℕ) → leb (2 * (length s / 29) + 2) (room / 64) ≡ true → true ≡ fits_in s room
unfolding fits_in
fits_roomy s room e =
    sym (le-leb (length (walk_of s).records) (room / 64) (omega (arith, records_few s, leb-true (2 * (length s / 29) + 2) (room / 64) e)))

pub all_written : (s d : List ℕ) → fits_in s (length d) ≡ true → written_from 0 (walk_of s).records d ≡ laid 0 (table_of (walk_of s).records) d
unfolding fits_in
all_written s d f = written_all 0 (walk_of s).records d (omega (arith, leb-true (length (walk_of s).records) (length d / 64) f))

-- without room
pub walk_full : (s d : List ℕ) (l : Ledger) → fits_in s (length d) ≡ false → l ≡ ledger_of (fresh 100)
    → (answer 8 (0 ∷ 0 ∷ 0 ∷ []) ≡ walk_answer s (length d)) × ((l ≡ ledger_of (walk_book s (length d))) × (d ≡ walk_leaves s d))
unfolding walk_answer walk_book walk_leaves
walk_full s d l f e = rw f (refl, (e, refl))
