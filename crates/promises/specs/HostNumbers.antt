-- Demand 1 through the host, for captures and streams: an answer is 0, or one of document 01's
-- table. This is said of what is offered to the ledger, of each paper that a function of
-- `host_captures` names in its promise, and of each function.
use Rattle.std.specs.Prelude.{ℕ, ◌+◌, refl, List, [], ◌∷◌, eqb, ltb, leb, length}
use Rattle.terms.specs.Verdicts.{verdict_number}
use Rattle.terms.specs.Paper.{answer, refusal}
use Rattle.octets.specs.Papers.{room_for}
use Rattle.frame_spec.specs.Frame.{checked}
use Rattle.ledger_spec.specs.State.{Book}
use Rattle.ledger_spec.specs.Calls.{Call, Ask, Missing, number_to, answer_to, next_of}
use Rattle.reading.specs.Seen.{seen_number}
use Rattle.ledger.specs.State.{book_of}
use Rattle.walk_spec.specs.Offers.{calls_by, offering, offer_of}
use Rattle.walk_spec.specs.Walk as walk
use Rattle.walk_step.proofs.offer.Reads as offer
use Rattle.walk_step.proofs.offer.Kinds as offer-kinds
use Rattle.clean_spec.specs.Clean as clean
use Rattle.host_words.specs.Words.{book_in}
use Rattle.host_words.specs.Calls.{call_told}
use Rattle.host_captures.specs.Captures.{record_told, listed, listing_told, clean_told}
use Rattle.host_captures.proofs.rk_walk.Reads as rk-walk
use Rattle.host_captures.proofs.rk_walk.Kinds as rk-walk-kinds
use Rattle.host_captures.proofs.rk_record.Reads as rk-record
use Rattle.host_captures.proofs.rk_record.Kinds as rk-record-kinds
use Rattle.host_captures.proofs.rk_lines.Reads as rk-lines
use Rattle.host_captures.proofs.rk_lines.Kinds as rk-lines-kinds
use Rattle.host_captures.proofs.rk_listing.Reads as rk-listing
use Rattle.host_captures.proofs.rk_listing.Kinds as rk-listing-kinds
use Rattle.host_captures.proofs.rk_clean.Reads as rk-clean
use Rattle.host_captures.proofs.rk_clean.Kinds as rk-clean-kinds
use Rattle.host_captures.proofs.rk_is_clean.Reads as rk-is-clean
use Rattle.host_captures.proofs.rk_is_clean.Kinds as rk-is-clean-kinds
use Rattle.promises_words.specs.Words.{Promises, in_table, Numbered, done, refused, picked, chosen, tells_numbered}
use Rattle.promises_words.specs.LedgerNumbers.{calling}
use Rattle.promises.specs.Demand1.{seen_numbered}

-- offers: of every reading, also of one made by hand
offered : (b : Book) (n : ℕ) (calls : List Call) → Numbered n → Numbered (offering b n calls).number
unfolding offering answer_to
offered b n [] h = h
offered b n (call ∷ calls) h = offered (next_of b call) (number_to b call) calls (calling b call)

pub offer_numbered : Promises _ offer-kinds.ps offer-kinds.r offer.Post (λ κs a x s. Numbered (verdict_number x.answer))
unfolding offer_of
offer_numbered κs a x s p = rw p.0 (offered (book_of a.0) (seen_number a.1.0) (calls_by a.1.0) (seen_numbered a.1.0))

room : (at n len : ℕ) → Numbered (room_for at n len).number
unfolding room_for in_table
room at n len = chosen (leb (at + n) len) (answer 0 (n ∷ [])) (refusal 8) (done refl) (refused refl)

-- EACH PAPER OF THE HOST

pub record HostNumbered : Type 0 where
  pub walking : (s : List ℕ) (len : ℕ) → Numbered (walk.walk_answer s len).number
  pub records : (bytes : List ℕ) → Numbered (record_told bytes).number
  pub lines : (n len : ℕ) → Numbered (room_for 0 n len).number
  pub listing : (records : List ℕ) (frames refusals : ℕ) (w : List ℕ) (len : ℕ) → Numbered (listing_told records frames refusals w len).number
  pub cleaning : (s : List ℕ) (len : ℕ) → Numbered (clean.clean_answer s len).number
  pub checking : (s : List ℕ) → Numbered (clean_told s).number

pub host_numbered : HostNumbered
unfolding checked record_told listing_told clean_told walk.walk_answer clean.clean_answer clean.check_of in_table
host_numbered =
    record {
      walking = λ s len. chosen (walk.fits_in s len) _ _ (done refl) (refused refl);
      records = λ bytes. picked (ltb (length bytes) 64) 1 0 (refused refl) (done refl);
      lines = λ n len. room 0 n len;
      listing = λ records frames refusals w len.
          chosen (eqb (call_told w (Ask Missing)).number 0) _ (refusal (call_told w (Ask Missing)).number) (room 0 (length (listed records frames refusals w)) len)
          (calling (book_in w) (Ask Missing));
      cleaning = λ s len. chosen (clean.fits_in s len) _ _ (done refl) (refused refl);
      checking = λ s. done refl;
    }

-- EACH FUNCTION OF THE HOST: whatever its promise allows it to answer

pub rk_walk_numbered : Promises _ rk-walk-kinds.ps rk-walk-kinds.r rk-walk.Post (λ κs a x s. Numbered x)
rk_walk_numbered κs a x s p = tells_numbered p.0 (host_numbered.walking _ _)

pub rk_record_numbered : Promises _ rk-record-kinds.ps rk-record-kinds.r rk-record.Post (λ κs a x s. Numbered x)
rk_record_numbered κs a x s p = tells_numbered p (host_numbered.records _)

pub rk_lines_numbered : Promises _ rk-lines-kinds.ps rk-lines-kinds.r rk-lines.Post (λ κs a x s. Numbered x)
rk_lines_numbered κs a x s p = tells_numbered p.0 (host_numbered.lines _ _)

pub rk_listing_numbered : Promises _ rk-listing-kinds.ps rk-listing-kinds.r rk-listing.Post (λ κs a x s. Numbered x)
rk_listing_numbered κs a x s p = tells_numbered p.0 (host_numbered.listing _ _ _ _ _)

pub rk_clean_numbered : Promises _ rk-clean-kinds.ps rk-clean-kinds.r rk-clean.Post (λ κs a x s. Numbered x)
rk_clean_numbered κs a x s p = tells_numbered p.0 (host_numbered.cleaning _ _)

pub rk_is_clean_numbered : Promises _ rk-is-clean-kinds.ps rk-is-clean-kinds.r rk-is-clean.Post (λ κs a x s. Numbered x)
rk_is_clean_numbered κs a x s p = tells_numbered p (host_numbered.checking _)
