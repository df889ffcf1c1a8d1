-- rk_walk and then rk_listing of what it left is document 01's listing of the capture, from the
-- promises that the checker makes of the `ensures`. Assumes nothing.
use Prim.Native.Nat.{ℕ, ◌+◌, ◌*◌, ◌/◌, ◌^◌, ◌≤◌, ◌<◌}
use mathlib.Core.Path.{◌≡◌, refl, sym, ap, ◌∙◌}
use mathlib.Core.Bool.{true, false}
use mathlib.Core.List.{List, [], ◌∷◌}
use native.Mathlib.Nat.{zero-add}
use native.Mathlib.Omega.{arith}
use contract.Lifetimes.{Lfts}
use borrow.Author.Tests.{le-leb, lt-leb}
use borrow.Fn.Kinds.{Dens, ended_of, res_t}
use denote.Triple.Clauses.{AtExit}
use lib.Dec.{leb}
use lib.ListN.{length, get_or}
use Rattle.terms.specs.Paper.{one_number}
use Rattle.octets.specs.Octets.{Bytes}
use Rattle.octets.specs.Overlays.{take_front}
use Rattle.octets.specs.Papers.{room_for, laid_if_room, room_there, room_lacks, laid_there, laid_kept}
use Rattle.frame_spec.specs.Frame.{checked}
use Rattle.ledger_spec.specs.State.{Book, StateRules}
use Rattle.ledger_spec.specs.Calls.{Ask, Missing, own_number, number_to, answer_to}
use Rattle.ledger_spec.proofs.Numbers.{checked_test}
use Rattle.ledger_spec.specs.Words.{value_at}
use Rattle.ledger.specs.declared.Ledger.{Ledger}
use Rattle.ledger.specs.State.{ledger_of}
use Rattle.walk_spec.specs.Walk.{walk_of, fits_in, walk_answer, walk_book, table_of, walk_leaves}
use Rattle.walk_spec.specs.Literal.{Walk, literal_walk}
use Rattle.walk_spec.proofs.LiteralLaws.{literal_walk_lem}
use Rattle.walk_spec.proofs.Demand3.{walk_demand_3}
use Rattle.listing_text.specs.Laws.{length_table, listing_table}
use Rattle.listing_text.specs.Whole.{listing_of}
use Rattle.listing_text.specs.Fit.{walk_fits}
use Rattle.listing_text.specs.Listed.{listed_of}
use Rattle.host_words.specs.Told.{told_by}
use Rattle.host_words.specs.Words.{words_of}
use Rattle.host_words.proofs.Back.{book_words, book_back}
use Rattle.host_words.specs.Calls.{kept_by, call_told}
use Rattle.host_captures.specs.Captures.{walk_words, last_line, listed, listing_told, listing_leaves, last_line_holds}
use Rattle.host_captures.specs.Listed.{last_of, text_of, HostWalked, Lends, HostListed}
use Rattle.host_captures.proofs.rk_walk.Reads as walk
use Rattle.host_captures.proofs.rk_walk.Kinds as walk-kinds
use Rattle.host_captures.proofs.rk_listing.Reads as listing
use Rattle.host_captures.proofs.rk_listing.Kinds as listing-kinds

-- it is document 01's listing of the capture: the line of each record, then the last line
pub text_listed : (s : List ℕ) → Bytes s → length s < 256 ^ 8 → text_of (literal_walk s) ≡ listed_of s
unfolding text_of listed_of
text_listed s b n = listing_table (literal_walk s).records (last_of (literal_walk s)) (walk_fits s b n)

-- ======== The walk

module _ (κs : Lfts 4) (a : Dens κs walk-kinds.ps) (x : (res_t walk-kinds.r κs).Denot) (s : AtExit (ended_of 4 walk-kinds.ps walk-kinds.r) κs) (p : walk.Post κs a x s)
    (roomy : 64 * length (literal_walk a.0.now).records ≤ length a.1.0.now) where
  fits : fits_in a.0.now (length a.1.0.now) ≡ true
  unfolding fits_in
  fits =
      let e : length (literal_walk a.0.now).records ≡ length (walk_of a.0.now).records = ap (λ (w : Walk). length w.records) (literal_walk_lem a.0.now) in
      le-leb (length (walk_of a.0.now).records) (length a.1.0.now / 64) (omega (arith, e, roomy))

  pub rk_walk_lists : HostWalked (literal_walk a.0.now) a.1.0.now x s.1.0.now s.1.1.0.now s.1.1.1.0.now
  unfolding told_by walk_answer walk_book walk_leaves walk_words kept_by
  rk_walk_lists =
      rw (literal_walk_lem a.0.now)
      (record {
        number = p.0.answered ∙ rw fits;
        told = p.0.told ∙ rw fits;
        words = p.1.0 ∙ rw fits;
        buffer = p.1.1 ∙ rw fits;
      })

-- ======== The listing of what it left

module _ (w : Walk) (r : StateRules w.ledger) where
  abbrev words : List ℕ
  words = words_of (ledger_of w.ledger)

  -- 13 never comes
  counts : number_to w.ledger (Ask Missing) ≡ 0
  unfolding own_number
  counts = checked_test w.ledger (Ask Missing) r refl

  sound : (call_told words (Ask Missing)).number ≡ 0
  unfolding answer_to
  sound = ap (λ (b : Book). number_to b (Ask Missing)) (book_back w.ledger r) ∙ counts

  missing_is : value_at (call_told words (Ask Missing)) 0 ≡ value_at (answer_to w.ledger (Ask Missing)) 0
  missing_is = ap (λ (b : Book). value_at (answer_to b (Ask Missing)) 0) (book_back w.ledger r)

  last_is : last_line w.frames w.refused words ≡ last_of w
  unfolding ledger_of
  last_is = sym (last_line_holds w.frames w.refused words _ _ _ (sym (ap (λ (l : Ledger). l.floor) (book_words w.ledger r))) (sym (ap (λ (l : Ledger). l.top) (book_words w.ledger r))) (sym missing_is))

  text_is : listed (table_of w.records) w.frames w.refused words ≡ text_of w
  unfolding text_of
  text_is = ap (listing_of (table_of w.records)) last_is

-- the records that were told stand at the front of the buffer
module _ {w : Walk} {d : List ℕ} {x : ℕ} {d' w' row : List ℕ} (h : HostWalked w d x d' w' row) {records : List ℕ} {frames refused : ℕ} {words : List ℕ} (l : Lends d' w' row records frames refused words) where
  records_told : records ≡ table_of w.records
  records_told = l.records_are ∙ rw (h.told, h.buffer) (take_front (64 * length w.records) (table_of w.records) d (length_table w.records))

  lent_as : {A : Type 0} (f : List ℕ → ℕ → ℕ → List ℕ → A) → f records frames refused words ≡ f (table_of w.records) w.frames w.refused (words_of (ledger_of w.ledger))
  lent_as f = rw (records_told, l.frames_are, l.refused_are, l.words_are, h.told, h.words)

literal_rules : (s : List ℕ) → StateRules (literal_walk s).ledger
literal_rules s = rw (literal_walk_lem s) (walk_demand_3 s).state_rules

module _ (c : List ℕ) {d : List ℕ} {x : ℕ} {d' w' row : List ℕ} (h : HostWalked (literal_walk c) d x d' w' row)
    (κs : Lfts 4) (a : Dens κs listing-kinds.ps) (y : (res_t listing-kinds.r κs).Denot) (s : AtExit (ended_of 4 listing-kinds.ps listing-kinds.r) κs) (p : listing.Post κs a y s)
    (l : Lends d' w' row a.0.now a.1.0 a.1.1.0 a.1.1.1.0.now) where
  abbrev text : List ℕ
  text = text_of (literal_walk c)

  abbrev before : List ℕ
  before = a.1.1.1.1.0.now

  told_as : listing_told a.0.now a.1.0 a.1.1.0 a.1.1.1.0.now (length before) ≡ room_for 0 (length text) (length before)
  unfolding listing_told checked
  told_as =
      lent_as h l (λ (r : List ℕ) (f g : ℕ) (w : List ℕ). listing_told r f g w (length before))
      ∙ rw (sound (literal_walk c) (literal_rules c), text_is (literal_walk c) (literal_rules c))

  left_as : listing_leaves a.0.now a.1.0 a.1.1.0 a.1.1.1.0.now before ≡ laid_if_room 0 text before
  unfolding listing_leaves
  left_as =
      lent_as h l (λ (r : List ℕ) (f g : ℕ) (w : List ℕ). listing_leaves r f g w before)
      ∙ rw (sound (literal_walk c) (literal_rules c), text_is (literal_walk c) (literal_rules c))

  -- with room for the text: 0, and the text at the front of the buffer
  pub rk_listing_lists : length text ≤ length before → HostListed text before y s.1.1.1.1.0.now s.1.1.1.1.1.0.now
  unfolding told_by
  rk_listing_lists room =
      let t : leb (0 + length text) (length before) ≡ true = rw (zero-add (length text)) (le-leb (length text) (length before) room) in
      let e = told_as ∙ room_there 0 (length text) (length before) t in
      let row : s.1.1.1.1.1.0.now ∷ [] ≡ length text ∷ [] = p.0.told ∙ rw e in
      record {
        number = p.0.answered ∙ one_number e;
        bytes = ap (λ (v : List ℕ). get_or v 0 0) row;
        buffer = p.1 ∙ left_as ∙ laid_there 0 (length text) text before refl t;
      }

  -- without: 8, and the buffer as it was; so 13 never comes
  pub rk_listing_lacks : length before < length text → (y ≡ 8) × (s.1.1.1.1.0.now ≡ before)
  rk_listing_lacks short =
      let f : leb (0 + length text) (length before) ≡ false = rw (zero-add (length text)) (lt-leb (length text) (length before) short) in
      (p.0.answered ∙ one_number (told_as ∙ room_lacks 0 (length text) (length before) f), p.1 ∙ left_as ∙ laid_kept 0 (length text) text before refl f)
