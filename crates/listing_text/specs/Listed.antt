-- Document 01, "Fault records and the listing": the listing of a capture, from its bytes.
use Rattle.std.specs.Prelude.{ℕ, ◌≡◌, List, ◌++◌}
use Rattle.std.proofs.Common.{ap, ◌∙◌, arith}
use Rattle.terms.specs.Counters.{tick_of}
use Rattle.ledger_spec.specs.State.{Book}
use Rattle.ledger_spec.specs.Calls.{Ask, Missing, answer_to}
use Rattle.ledger_spec.specs.Trace.{after}
use Rattle.ledger_spec.specs.Words.{value_at}
use Rattle.ledger_spec.proofs.Agree.{agrees}
use Rattle.ledger.specs.State.{book_of, ledger_of}
use Rattle.ledger.proofs.Seam.{book_of_lem}
use Rattle.listing_text.specs.declared.Summary.{Summary}
use Rattle.listing_text.specs.Text.{summary_of}
use Rattle.walk_spec.specs.Walk.{calls_of}
use Rattle.walk_spec.specs.CallLaws.{walk_ledger}
use Rattle.walk_spec.specs.Literal.{Walk, literal_walk}
use Rattle.walk_spec.proofs.LiteralLaws.{literal_walk_lem}
use Rattle.listing_text.specs.Whole.{lines_of}

-- "`missing` is the ledger's"
abbrev pub last_at : ℕ → ℕ → Book → Summary
last_at frames refused b =
    record {
      frames = frames;
      refused = refused;
      floor = tick_of b.floor;
      top = tick_of b.top;
      missing = value_at (answer_to b (Ask Missing)) 0;
    }

-- the line of each record of document 01's walk, and the last line
unfoldable pub listed_of : List ℕ → List ℕ
listed_of s = lines_of (literal_walk s).records ++ summary_of (last_at (literal_walk s).frames (literal_walk s).refused (literal_walk s).ledger)

-- its ledger is told whole from the code's
pub walked_book : (s : List ℕ) → book_of (ledger_of (literal_walk s).ledger) ≡ (literal_walk s).ledger
walked_book s =
    let e : (literal_walk s).ledger ≡ after 100 (calls_of s) = ap (λ (w : Walk). w.ledger) (literal_walk_lem s) ∙ walk_ledger s in
    rw e (book_of_lem (after 100 (calls_of s)) (agrees 100 (omega arith) (calls_of s)).rules.places)
