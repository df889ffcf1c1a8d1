-- What one pass over a capture keeps of a channel: its ledger, and five counts.
use Rattle.std.specs.Prelude.{ℕ, ◌+◌, ◌*◌, ◌/◌, ◌%◌, ◌<◌, ◌≡◌, ◌&&◌, List, [], ◌∷◌, eqb, ltb, length, get_or}
use Rattle.terms.specs.Paper.{pick}
use Rattle.rules.specs.Table.{kind_of}
use Rattle.ledger_spec.specs.Calls.{Ask, Missing, answer_to}
use Rattle.ledger_spec.specs.Trace.{none, after, trace}
use Rattle.ledger_spec.specs.Words.{one, value_at}
use Rattle.ledger.specs.State.{book_of, ledger_of}
use Rattle.reading.specs.declared.Seen.{Seen}
use Rattle.walk_spec.specs.Offers.{offer_of}
use Rattle.walk_spec.specs.CallLaws.{is_tick}
use Rattle.clean_spec.specs.Figures.{calls_made}
use Rattle.month_spec.specs.Page.{places, figures_in_all, tabled}
use Rattle.month_spec.specs.Figures.{ticks_answered, is_resend, resent}
use Rattle.month.specs.declared.Row.{Row}

-- the row of a channel after these accepted frames
unfoldable pub row_after : ℕ → List Seen → Row
row_after channel xs =
    record {
      ledger = ledger_of (after channel (calls_made none xs));
      received = ticks_answered 0 (trace channel (calls_made none xs));
      repeated = ticks_answered 11 (trace channel (calls_made none xs));
      far = ticks_answered 12 (trace channel (calls_made none xs));
      asked = resent channel 0 xs;
      unavailable = resent channel 4 xs;
    }

-- the row after one more frame: an M201 and a P001 are offered to its ledger; a tick is counted by
-- what the ledger answers, a P002 by its status
pub record Turned (row : Row) (x : Seen) (r : Row) : Type 0 where
  pub ledger : r.ledger ≡ ledger_of (offer_of (book_of row.ledger) x).book
  pub received : r.received ≡ row.received + one (is_tick (kind_of x.msg_type) && eqb (offer_of (book_of row.ledger) x).number 0)
  pub repeated : r.repeated ≡ row.repeated + one (is_tick (kind_of x.msg_type) && eqb (offer_of (book_of row.ledger) x).number 11)
  pub far : r.far ≡ row.far + one (is_tick (kind_of x.msg_type) && eqb (offer_of (book_of row.ledger) x).number 12)
  pub asked : r.asked ≡ row.asked + one (is_resend (kind_of x.msg_type) && eqb x.status 0)
  pub unavailable : r.unavailable ≡ row.unavailable + one (is_resend (kind_of x.msg_type) && eqb x.status 4)

-- a row with room for one more count of each kind
pub record Roomy (row : Row) : Type 0 where
  pub received : row.received < 18446744073709551615
  pub repeated : row.repeated < 18446744073709551615
  pub far : row.far < 18446744073709551615
  pub asked : row.asked < 18446744073709551615
  pub unavailable : row.unavailable < 18446744073709551615

-- 32 rows, of which each named one is that of its channel after these frames
pub record Kept (channels : List ℕ) (named : ℕ) (xs : List Seen) (rows : List Row) : Type 0 where
  pub all_places : length rows ≡ places
  pub row_is : (j : ℕ) (d : Row) → j < named → get_or rows j d ≡ row_after (get_or channels j 0) xs

-- figure number i of a row; the fourth is the ledger's own count
abbrev pub row_numbers : Row → List ℕ
row_numbers row =
    row.received ∷ row.repeated ∷ row.far ∷ value_at (answer_to (book_of row.ledger) (Ask Missing)) 0 ∷ row.asked ∷ row.unavailable ∷ []

-- all figures of the rows, six for each; those of an unnamed place are 0
pub no_row : Row
no_row = row_after 0 []

abbrev pub row_figure : List Row → ℕ → ℕ
row_figure rows k = get_or (row_numbers (get_or rows (k / 6) no_row)) (k % 6) 0

unfoldable pub row_figures : List Row → ℕ → List ℕ
row_figures rows named = tabled (λ k. pick (ltb k (6 * named)) (row_figure rows k) 0) figures_in_all
