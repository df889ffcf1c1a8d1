-- A run over a window of bytes, as the code makes it.
use Rattle.std.specs.Prelude.{ℕ, ◌+◌, ◌≤◌, ◌≡◌, Bool, true, false, not, List, eqb, length, drop}
use Rattle.terms.specs.Paper.{pick}
use Rattle.record.specs.declared.Record.{Record}
use Rattle.walk_laws.specs.Walk.{Says}
use Rattle.walk_laws.specs.Waits.{Got, ran_of}
use Rattle.walk_laws.specs.WaitLaws.{mode_of}
use Rattle.walk_laws.specs.Closing.{final}
use Rattle.walk_laws.specs.Account.{Account, account_of}
use Rattle.reading.specs.declared.Seen.{Seen}
use Rattle.reading.specs.Seen.{seen_of, says_of, seen_number}
use Rattle.stream_spec.specs.declared.Tally.{Tally}
use Rattle.stream_spec.specs.Tally.{record_at, tally_after}

-- what a reading says to the walk: at the closing call none waits
abbrev pub ends_with : Bool → Says → Says
ends_with true w = final w
ends_with false w = w

abbrev pub says_in : Bool → Seen → Says
says_in closing x = ends_with closing (says_of x)

unfoldable pub waits_at : Bool → ℕ → Bool
waits_at true a = false
waits_at false a = eqb a 1

unfoldable pub passed_over : Bool → ℕ → Bool
passed_over true a = not (eqb a 0)
passed_over false a = false

unfoldable pub stride_of : Seen → ℕ
stride_of x = pick (eqb (seen_number x) 0) x.size 1

abbrev pub got_of : ℕ → Bool → Bool → List ℕ → Got Seen
got_of base seek closing w = ran_of seen_of (says_in closing) (mode_of seek) base w

unfoldable pub accounted_of : ℕ → Bool → Bool → Tally → List ℕ → Account Tally Record
accounted_of base seek closing start w = account_of record_at tally_after start (got_of base seek closing w).seen

-- a run stopped at this place of the window, in this mode, with so many records and this tally
pub record RanIs (w : List ℕ) (base : ℕ) (seek closing : Bool) (start : Tally) (k at : ℕ) (seeking : Bool) (count : ℕ) (tally : Tally) : Type 0 where
  pub inside : at ≤ length w
  pub mode : (got_of base seek closing w).mode ≡ mode_of seeking
  pub place : (got_of base seek closing w).place ≡ base + at
  pub kept : (got_of base seek closing w).kept ≡ drop at w
  pub counted : count ≡ k + length (accounted_of base seek closing start w).records
  pub ends : tally ≡ (accounted_of base seek closing start w).ledger
