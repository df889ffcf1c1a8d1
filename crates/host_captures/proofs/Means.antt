-- What a call on whole captures comes to, from the promises that the checker makes of the
-- `ensures`. Assumes nothing.
use Prim.Native.Nat.{ℕ, ◌+◌, ◌*◌, ◌/◌, ◌≤◌, ◌<◌}
use mathlib.Core.Path.{◌≡◌, refl, sym, ap, ◌∙◌}
use mathlib.Core.Bool.{true, false}
use mathlib.Core.Logic.{⊎_elim, ◌↔◌}
use mathlib.Core.List.{List, [], ◌∷◌, ◌++◌}
use native.Mathlib.Nat.{zero-add}
use native.Mathlib.Omega.{arith}
use contract.Lifetimes.{Lfts}
use borrow.Author.Tests.{le-leb, lt-leb, lt-ltb, le-ltb}
use borrow.Fn.Kinds.{Dens, ended_of, res_t}
use denote.Triple.Clauses.{AtExit}
use lib.Dec.{leb}
use lib.ListN.{length, get_or}
use Rattle.terms.specs.Paper.{Paper, one_number}
use Rattle.terms.specs.Cases.{two, less}
use Rattle.octets.specs.Papers.{room_for, laid_if_room, room_there, room_lacks, laid_there, laid_kept}
use Rattle.frame_spec.specs.Frame.{checked}
use Rattle.ledger_spec.specs.Calls.{Ask, Missing, own_number, number_to, answer_to}
use Rattle.ledger_spec.specs.State.{Book, StateRules}
use Rattle.ledger_spec.proofs.Given.{given_13}
use Rattle.ledger_spec.proofs.Numbers.{checked_test}
use Rattle.ledger.specs.State.{book_of}
use Rattle.walk_spec.specs.Literal.{Walk, literal_walk}
use Rattle.walk_spec.proofs.LiteralLaws.{literal_walk_lem}
use Rattle.walk_spec.specs.Walk as walks
use Rattle.clean_spec.specs.Checks.{First, Differs, d_none, d_first, differs, check_clean}
use Rattle.clean_spec.specs.Clean as cleans
use Rattle.clean_spec.specs.Clean.{clean_of, differ_of, check_of}
use Rattle.listing_text.specs.Listed.{last_at}
use Rattle.octets.specs.Octets.{laid}
use Rattle.record.specs.Record.{record_at}
use Rattle.record.specs.Back.{read_back}
use Rattle.listing_text.specs.Text.{summary_of}
use Rattle.listing_text.specs.Whole.{lines_in, listing_of}
use Rattle.host_words.specs.Told.{perhaps, told_by, Tells}
use Rattle.host_words.specs.Words.{book_in}
use Rattle.host_words.specs.Calls.{kept_by, call_told}
use Rattle.host_captures.specs.Captures.{walk_words, record_numbers, record_told, last_line, listed, listing_told, listing_leaves, clean_told}
use Rattle.host_captures.specs.Listed.{HostListed}
use Rattle.host_captures.specs.Means.{HostRecord, HostCleaned, HostChecked}
use Rattle.host_captures.proofs.rk_walk.Reads as walk
use Rattle.host_captures.proofs.rk_walk.Kinds as walk-kinds
use Rattle.host_captures.proofs.rk_record.Reads as record-read
use Rattle.host_captures.proofs.rk_record.Kinds as record-kinds
use Rattle.host_captures.proofs.rk_lines.Reads as lines
use Rattle.host_captures.proofs.rk_lines.Kinds as lines-kinds
use Rattle.host_captures.proofs.rk_listing.Reads as listing
use Rattle.host_captures.proofs.rk_listing.Kinds as listing-kinds
use Rattle.host_captures.proofs.rk_clean.Reads as clean
use Rattle.host_captures.proofs.rk_clean.Kinds as clean-kinds
use Rattle.host_captures.proofs.rk_is_clean.Reads as is-clean
use Rattle.host_captures.proofs.rk_is_clean.Kinds as is-clean-kinds

-- ======== A record

number_of : (b : List ℕ) → (((record_told b).number ≡ 0) ↔ (64 ≤ length b)) × (((record_told b).number ≡ 1) ↔ (length b < 64))
unfolding record_told
number_of b =
    ⊎_elim
    (λ (h : length b < 64). rw (lt-ltb (length b) 64 h) ((λ e. absurd (omega arith), λ (k : 64 ≤ length b). absurd (omega arith)), (λ e. h, λ k. refl)))
    (λ (h : 64 ≤ length b). rw (le-ltb (length b) 64 h) ((λ e. h, λ k. refl), (λ e. absurd (omega arith), λ (k : length b < 64). absurd (omega arith))))
    (less (length b) 64)

module _ (κs : Lfts 2) (a : Dens κs record-kinds.ps) (x : (res_t record-kinds.r κs).Denot) (s : AtExit (ended_of 2 record-kinds.ps record-kinds.r) κs) (p : record-read.Post κs a x s) where
  record_row : x ≡ 0 → s.1.0.now ≡ record_numbers (record_at 0 a.0.now)
  unfolding told_by record_told
  record_row z = p.told ∙ rw (sym p.answered ∙ z)

  pub rk_record_tells : HostRecord a.0.now x s.1.0.now
  unfolding record_at
  rk_record_tells =
      record {
        given_0 = rw p.answered (number_of a.0.now).0;
        given_1 = rw p.answered (number_of a.0.now).1;
        told = record_row;
        back = λ r f e z. record_row z ∙ ap record_numbers (ap (record_at 0) e ∙ read_back r f);
      }

-- ======== The lines: those of the listing without its last line

pub rk_lines_then_last : (records : List ℕ) (frames refused : ℕ) (w : List ℕ) → listed records frames refused w ≡ lines_in records ++ summary_of (last_line frames refused w)
unfolding listing_of
rk_lines_then_last records frames refused w = refl

pub rk_lines_lays : (κs : Lfts 3) (a : Dens κs lines-kinds.ps) (x : (res_t lines-kinds.r κs).Denot) (s : AtExit (ended_of 3 lines-kinds.ps lines-kinds.r) κs) → lines.Post κs a x s
    → length (lines_in a.0.now) ≤ length a.1.0.now → (x ≡ 0) × ((s.1.1.0.now ≡ length (lines_in a.0.now)) × (s.1.0.now ≡ laid 0 (lines_in a.0.now) a.1.0.now))
unfolding told_by
rk_lines_lays κs a x s p h =
    let bs = lines_in a.0.now in
    let t = le-leb (0 + length bs) (length a.1.0.now) (omega arith) in
    let r = room_there 0 (length bs) (length a.1.0.now) t in (
      p.0.answered ∙ one_number r,
      (ap (λ (l : List ℕ). get_or l 0 0) (rw r at p.0.told), p.1 ∙ laid_there 0 (length bs) bs a.1.0.now refl t),
    )

-- ======== Cleaning

module _ (κs : Lfts 3) (a : Dens κs clean-kinds.ps) (x : (res_t clean-kinds.r κs).Denot) (s : AtExit (ended_of 3 clean-kinds.ps clean-kinds.r) κs) (p : clean.Post κs a x s) where
  pub rk_clean_cleans : length (clean_of a.0.now) ≤ length a.1.0.now → HostCleaned a.0.now a.1.0.now x s.1.1.0.now s.1.0.now
  unfolding told_by cleans.clean_answer cleans.clean_leaves cleans.fits_in
  rk_clean_cleans h =
      let f = le-leb (length (clean_of a.0.now)) (length a.1.0.now) h in
      record { number = p.0.answered ∙ rw f; told = p.0.told ∙ rw f; buffer = p.1 ∙ rw f }

  -- without room: 8, and row and buffer as they were
  pub rk_clean_lacks : length a.1.0.now < length (clean_of a.0.now) → (x ≡ 8) × ((s.1.1.0.now ≡ a.1.1.0.now) × (s.1.0.now ≡ a.1.0.now))
  unfolding told_by cleans.clean_answer cleans.clean_leaves cleans.fits_in
  rk_clean_lacks h =
      let f = lt-leb (length (clean_of a.0.now)) (length a.1.0.now) h in
      (p.0.answered ∙ rw f, (p.0.told ∙ rw f, p.1 ∙ rw f))

module _ (c : List ℕ) {was row : List ℕ} {x : ℕ} (t : Tells (clean_told c) was x row) where
  check_row : row ≡ perhaps (differ_of 0 c (clean_of c))
  unfolding told_by clean_told check_of
  check_row = t.told

  clean_shown : (l : List ℕ) → Differs 0 c (clean_of c) l → row ≡ perhaps l → row ≡ 0 ∷ 0 ∷ [] → clean_of c ≡ c
  clean_shown l (d_none e same) f r = sym same
  clean_shown l (d_first i e first) f r = absurd (omega (arith, ap (λ (k : List ℕ). get_or k 0 0) (sym (f ∙ ap perhaps e) ∙ r)))

  changed_shown : (l : List ℕ) → Differs 0 c (clean_of c) l → row ≡ perhaps l → (clean_of c ≡ c → ⊥) → (p : ℕ) × ((row ≡ 1 ∷ p ∷ []) × First c (clean_of c) p)
  changed_shown l (d_none e same) f n = absurd (n (sym same))
  changed_shown l (d_first i e first) f n = (i, (f ∙ ap perhaps (e ∙ ap (λ (k : ℕ). k ∷ []) (zero-add i)), first))

  host_checked : HostChecked c x row
  unfolding told_by clean_told check_of
  host_checked =
      record {
        number = t.answered;
        clean = (
          clean_shown _ (differs 0 c (clean_of c)) check_row,
          λ (e : clean_of c ≡ c). check_row ∙ ap (λ (q : Paper). perhaps q.values) ((check_clean c).1 e),
        );
        changed = changed_shown _ (differs 0 c (clean_of c)) check_row;
      }

pub rk_is_clean_checks : (κs : Lfts 2) (a : Dens κs is-clean-kinds.ps) (x : (res_t is-clean-kinds.r κs).Denot) (s : AtExit (ended_of 2 is-clean-kinds.ps is-clean-kinds.r) κs) → is-clean.Post κs a x s
    → HostChecked a.0.now x s.1.0.now
rk_is_clean_checks κs a x s p = host_checked a.0.now p

-- it never refuses: it answers 0 to all input
pub rk_is_clean_answers_0 : (κs : Lfts 2) (a : Dens κs is-clean-kinds.ps) (x : (res_t is-clean-kinds.r κs).Denot) (s : AtExit (ended_of 2 is-clean-kinds.ps is-clean-kinds.r) κs) → is-clean.Post κs a x s → x ≡ 0
unfolding clean_told check_of
rk_is_clean_answers_0 κs a x s p = p.answered

-- ======== The walk without room, and the listing of any records

-- 8, and nothing is written anywhere
pub rk_walk_lacks : (κs : Lfts 4) (a : Dens κs walk-kinds.ps) (x : (res_t walk-kinds.r κs).Denot) (s : AtExit (ended_of 4 walk-kinds.ps walk-kinds.r) κs) → walk.Post κs a x s
    → length a.1.0.now < 64 * length (literal_walk a.0.now).records
    → (x ≡ 8) × ((s.1.0.now ≡ a.1.0.now) × ((s.1.1.0.now ≡ a.1.1.0.now) × (s.1.1.1.0.now ≡ a.1.1.1.0.now)))
unfolding told_by walks.walk_answer walks.walk_leaves walks.fits_in walk_words kept_by
rk_walk_lacks κs a x s p h =
    let e : length (literal_walk a.0.now).records ≡ length (walks.walk_of a.0.now).records = ap (λ (w : Walk). length w.records) (literal_walk_lem a.0.now) in
    let f : leb (length (walks.walk_of a.0.now).records) (length a.1.0.now / 64) ≡ false = lt-leb (length (walks.walk_of a.0.now).records) (length a.1.0.now / 64) (omega (arith, e, h)) in
    (p.0.answered ∙ rw f, (p.1.1 ∙ rw f, (p.1.0 ∙ rw f, p.0.told ∙ rw f)))

module _ (κs : Lfts 4) (a : Dens κs listing-kinds.ps) (y : (res_t listing-kinds.r κs).Denot) (s : AtExit (ended_of 4 listing-kinds.ps listing-kinds.r) κs) (p : listing.Post κs a y s) where
  -- the book that the words stand for, and the listing: the line of each record, and the last line
  -- with the counts lent and what the book says
  abbrev book : Book
  book = book_in a.1.1.1.0.now

  abbrev text : List ℕ
  text = listing_of a.0.now (last_at a.1.0 a.1.1.0 book)

  abbrev before : List ℕ
  before = a.1.1.1.1.0.now

  text_is : listed a.0.now a.1.0 a.1.1.0 a.1.1.1.0.now ≡ text
  unfolding book_of
  text_is = refl

  module _ (r : StateRules book) where
    counts : (call_told a.1.1.1.0.now (Ask Missing)).number ≡ 0
    unfolding answer_to own_number
    counts = checked_test book (Ask Missing) r refl

    told_as : listing_told a.0.now a.1.0 a.1.1.0 a.1.1.1.0.now (length before) ≡ room_for 0 (length text) (length before)
    unfolding listing_told checked
    told_as = rw (counts, text_is)

    left_as : listing_leaves a.0.now a.1.0 a.1.1.0 a.1.1.1.0.now before ≡ laid_if_room 0 text before
    unfolding listing_leaves
    left_as = rw (counts, text_is)

    pub rk_listing_tells : length text ≤ length before → HostListed text before y s.1.1.1.1.0.now s.1.1.1.1.1.0.now
    unfolding told_by
    rk_listing_tells room =
        let t : leb (0 + length text) (length before) ≡ true = rw (zero-add (length text)) (le-leb (length text) (length before) room) in
        let e = told_as ∙ room_there 0 (length text) (length before) t in
        let row : s.1.1.1.1.1.0.now ∷ [] ≡ length text ∷ [] = p.0.told ∙ rw e in
        record {
          number = p.0.answered ∙ one_number e;
          bytes = ap (λ (v : List ℕ). get_or v 0 0) row;
          buffer = p.1 ∙ left_as ∙ laid_there 0 (length text) text before refl t;
        }

    pub rk_listing_full : length before < length text → (y ≡ 8) × (s.1.1.1.1.0.now ≡ before)
    rk_listing_full few =
        let f : leb (0 + length text) (length before) ≡ false = rw (zero-add (length text)) (lt-leb (length text) (length before) few) in
        (p.0.answered ∙ one_number (told_as ∙ room_lacks 0 (length text) (length before) f), p.1 ∙ left_as ∙ laid_kept 0 (length text) text before refl f)

    not_13 : y ≡ 13 → ⊥
    not_13 e =
        ⊎_elim (λ (t : leb (0 + length text) (length before) ≡ true). omega (arith, e, p.0.answered ∙ one_number (told_as ∙ room_there 0 (length text) (length before) t)))
        (λ (f : leb (0 + length text) (length before) ≡ false). omega (arith, e, p.0.answered ∙ one_number (told_as ∙ room_lacks 0 (length text) (length before) f)))
        (two (leb (0 + length text) (length before)))

  -- 13 exactly where the words break the state rules
  pub rk_listing_given_13 : (y ≡ 13) ↔ (StateRules book → ⊥)
  unfolding listing_told checked answer_to
  rk_listing_given_13 = (
    λ (e : y ≡ 13) (r : StateRules book). not_13 r e,
    λ (n : StateRules book → ⊥). let e : number_to book (Ask Missing) ≡ 13 = (given_13 book (Ask Missing)).1 n in p.0.answered ∙ rw e,
  )
