-- What the walk sees and offers of an accepted frame, by document 01's offsets; and of a
-- refused reading.
use Rattle.std.specs.Prelude.{ℕ, ◌≡◌, List}
use Rattle.std.proofs.Math.Path.{ap}
use Rattle.std.proofs.Common.{sym, ◌∙◌}
use Rattle.frame_spec.specs.Frame.{read_of}
use Rattle.ledger_spec.specs.State.{Book}
use Rattle.record.specs.Record.{blank_of}
use Rattle.reading.specs.Seen.{seen_of, seen_number}
use Rattle.reading.proofs.SeenLaws.{seen_blank, seen_answer}
use Rattle.walk_spec.specs.Offers.{Offer, offering, offer_of}
use Rattle.walk_spec.specs.OfferLaws.{calls_refused}
use Rattle.walk_spec.specs.Walk.{made_of, record_by}

-- A REFUSED READING

module _ (s : List ℕ) (ne : (read_of s).number ≡ 0 → ⊥) (b : Book) where
  offer_refused : offer_of b (seen_of s) ≡ record { number = (read_of s).number; book = b }
  unfolding offer_of offering
  offer_refused =
      let a : seen_number (seen_of s) ≡ (read_of s).number = seen_answer s in
      rw (calls_refused (seen_of s) (λ (z : seen_number (seen_of s) ≡ 0). ne (sym a ∙ z)), a)

  pub refused_book : (offer_of b (seen_of s)).book ≡ b
  refused_book = ap (λ (o : Offer). o.book) offer_refused

  -- no byte of the frame but its place is in its record
  pub refused_record : (p : ℕ) → record_by b (record { place = p; read = seen_of s }) ≡ blank_of p (read_of s).number b.floor b.top
  unfolding record_by made_of blank_of
  refused_record p = rw (offer_refused, seen_blank s ne)
