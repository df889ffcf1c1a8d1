-- What the host is told of whole captures.
use Rattle.std.specs.Prelude.{ℕ, ◌≡◌, false, List, [], ◌∷◌, eqb, ltb, length}
use Rattle.std.proofs.Math.Path.{refl}
use Rattle.std.proofs.Common.{ap₂, ◌∙◌}
use borrow.Author.Tests.{ne_eqb}
use Rattle.terms.specs.Paper.{Paper, answer, pick}
use Rattle.terms.specs.declared.TickNumber.{TickNumber}
use Rattle.octets.specs.Papers.{room_for, laid_if_room}
use Rattle.frame_spec.specs.Frame.{checked}
use Rattle.ledger_spec.specs.Words.{value_at}
use Rattle.ledger_spec.specs.Calls.{Ask, Missing}
use Rattle.ledger.specs.State.{ledger_of}
use Rattle.ledger.specs.declared.Ledger.{Ledger}
use Rattle.record.specs.declared.Record.{Record}
use Rattle.record.specs.Record.{record_at}
use Rattle.listing_text.specs.declared.Summary.{Summary}
use Rattle.walk_spec.specs.Walk.{walk_answer, walk_book}
use Rattle.listing_text.specs.Whole.{listing_of}
use Rattle.clean_spec.specs.Clean.{check_of}
use Rattle.host_words.specs.Told.{perhaps, retold, Tells, tells_refused}
use Rattle.host_words.specs.Words.{ledger_in}
use Rattle.host_words.specs.Calls.{kept_by, call_told}

-- the words after a walk: those of channel 100's ledger; beside 8 as they were
unfoldable pub walk_words : List ℕ → ℕ → List ℕ → List ℕ
walk_words capture room was = kept_by (walk_answer capture room).number (ledger_of (walk_book capture room)) was

-- a record's numbers, in the order of its bytes
abbrev pub record_numbers : Record → List ℕ
record_numbers r = r.place ∷ r.msg_type ∷ r.answer ∷ r.seq.0 ∷ r.tick.0 ∷ r.channel.0 ∷ r.body_len ∷ r.floor.0 ∷ r.top.0 ∷ []

-- 1 where the 64 bytes are not all there
unfoldable pub record_told : List ℕ → Paper
record_told bytes = answer (pick (ltb (length bytes) 64) 1 0) (record_numbers (record_at 0 bytes))

-- the numbers of the last line
abbrev pub last_line : ℕ → ℕ → List ℕ → Summary
last_line frames refused w =
    record {
      frames = frames;
      refused = refused;
      floor = (ledger_in w).floor;
      top = (ledger_in w).top;
      missing = value_at (call_told w (Ask Missing)) 0;
    }

abbrev pub listed : List ℕ → ℕ → ℕ → List ℕ → List ℕ
listed records frames refused w = listing_of records (last_line frames refused w)

-- 13 where the words break the state rules, then 8
unfoldable pub listing_told : List ℕ → ℕ → ℕ → List ℕ → ℕ → Paper
listing_told records frames refused w room = checked (call_told w (Ask Missing)).number (room_for 0 (length (listed records frames refused w)) room)

unfoldable pub listing_leaves : List ℕ → ℕ → ℕ → List ℕ → List ℕ → List ℕ
listing_leaves records frames refused w text =
    pick (eqb (call_told w (Ask Missing)).number 0) (laid_if_room 0 (listed records frames refused w) text) text

unfoldable pub clean_told : List ℕ → Paper
clean_told capture = retold perhaps (check_of capture)

-- PROOFS

pub record_told_lem : (b : List ℕ) (r : Record) → r ≡ record_at 0 b → ltb (length b) 64 ≡ false → answer 0 (record_numbers r) ≡ record_told b
unfolding record_told
record_told_lem b r e h = rw (h, e)

pub walk_words_lem : (capture : List ℕ) (room : ℕ) (was : List ℕ) {n : ℕ} {l : Ledger} {row : List ℕ} → n ≡ (walk_answer capture room).number → l ≡ ledger_of (walk_book capture room)
    → row ≡ kept_by n l was → row ≡ walk_words capture room was
unfolding walk_words
walk_words_lem capture room was ne le e = e ∙ ap₂ (λ (m : ℕ) (x : Ledger). kept_by m x was) ne le

pub last_line_holds : (frames refused : ℕ) (w : List ℕ) (floor top : TickNumber) (missing : ℕ) → floor ≡ (ledger_in w).floor → top ≡ (ledger_in w).top → missing ≡ value_at (call_told w (Ask Missing)) 0
    → ◌≡◌ {A = Summary} (record { frames = frames; refused = refused; floor = floor; top = top; missing = missing }) (last_line frames refused w)
last_line_holds frames refused w floor top missing e f g = rw (e, f, g)

module _ (records : List ℕ) (frames refused : ℕ) (w text : List ℕ) (n : ℕ) (e : n ≡ (call_told w (Ask Missing)).number) where
  pub listing_refused : (was : List ℕ) → (n ≡ 0 → ⊥)
      → Tells (listing_told records frames refused w (length text)) was n was × (text ≡ listing_leaves records frames refused w text)
  unfolding listing_told listing_leaves checked
  listing_refused was ne = rw (← e, ne_eqb n 0 ne) (tells_refused _ _ _ refl ne, refl)

  pub listing_laid : (s : Summary) (p : Paper) (after : List ℕ) → n ≡ 0 → s ≡ last_line frames refused w → p ≡ room_for 0 (length (listing_of records s)) (length text)
      → after ≡ laid_if_room 0 (listing_of records s) text → (p ≡ listing_told records frames refused w (length text)) × (after ≡ listing_leaves records frames refused w text)
  unfolding listing_told listing_leaves checked
  listing_laid s p after z f g h = rw (← e, z, ← f) (g, h)
