-- What the walk is: document 01's walk, word for word.
use Rattle.std.specs.Prelude.{ℕ, zero, suc, ◌+◌, ◌≤◌, ◌<◌, ◌≡◌, refl, List, [], ◌∷◌, length, drop}
use Rattle.std.proofs.Common.{sym, ap, ◌∙◌, ⊎_elim, zero-add, arith}
use borrow.Author.Tests.{le-leb, lt-leb, eq-eqb, ne_eqb}
use Rattle.terms.specs.Paper.{Paper}
use Rattle.terms.specs.Cases.{less, same}
use Rattle.frame_spec.specs.Frame.{read_of}
use Rattle.frame_spec.specs.Search.{search_of}
use Rattle.frame_spec.specs.Lowest.{Lowest, l_at, l_none, lowest}
use Rattle.ledger_spec.specs.State.{Book}
use Rattle.ledger_spec.specs.Calls.{fresh}
use Rattle.record.specs.Record.{blank_of}
use Rattle.walk_laws.specs.Walk.{Sight}
use Rattle.walk_laws.specs.Account as Account
use Rattle.walk_laws.specs.Account.{account_of}
use Rattle.walk_laws.specs.Literal.{from_of, sight_at, from_end}
use Rattle.reading.specs.declared.Seen.{Seen}
use Rattle.reading.specs.Seen.{seen_of, seen_number, says_of}
use Rattle.reading.proofs.SeenLaws.{seen_answer, seen_size}
use Rattle.walk_spec.specs.Onward.{Goes, goes_frame, goes_found, goes_none}
use Rattle.walk_spec.specs.Walk.{record_by, book_by, sights, walk_of, accepts, refuses, frames_of, refused_of}
use Rattle.walk_spec.specs.Literal.{length_in, ledger_after, frame_record, Walk, stopped, a_frame, a_refusal, go_on, walk_from, literal_walk}
use Rattle.walk_spec.specs.FrameLaws.{refused_book, refused_record}
use Rattle.walk_spec.proofs.FrameLaws.{offer_book, frame_record_lem}

-- records, counts and ledger of these readings
abbrev whole : Book → List (Sight Seen) → Walk
whole b xs =
    record {
      records = (account_of record_by book_by b xs).records;
      frames = frames_of xs;
      refused = refused_of xs;
      ledger = (account_of record_by book_by b xs).ledger;
    }

whole_none : (b : Book) → whole b [] ≡ stopped b
unfolding account_of frames_of refused_of
whole_none b = refl

module _ (s : List ℕ) (p : ℕ) (b : Book) (xs : List (Sight Seen)) where
  whole_frame : (read_of (drop p s)).number ≡ 0 → whole b (sight_at seen_of says_of p s ∷ xs) ≡ a_frame (frame_record p b (drop p s)) (whole (ledger_after b (drop p s)) xs)
  unfolding account_of frames_of refused_of accepts refuses book_by
  whole_frame z = rw (frame_record_lem (drop p s) z b p, offer_book (drop p s) z b, eq-eqb (seen_number (seen_of (drop p s))) 0 (seen_answer (drop p s) ∙ z), zero-add)

  whole_refusal : ((read_of (drop p s)).number ≡ 0 → ⊥) → whole b (sight_at seen_of says_of p s ∷ xs) ≡ a_refusal (blank_of p (read_of (drop p s)).number b.floor b.top) (whole b xs)
  unfolding account_of frames_of refused_of accepts refuses book_by
  whole_refusal ne =
      rw (refused_record (drop p s) ne b p, refused_book (drop p s) ne b, ne_eqb (seen_number (seen_of (drop p s))) 0 (λ (z : seen_number (seen_of (drop p s)) ≡ 0). ne (sym (seen_answer (drop p s)) ∙ z)), zero-add)

-- one reading, where the walk behind it is known
module _ (k : ℕ) (s : List ℕ) (p : ℕ) (b : Book) (h : p < length s) (ih : (q : ℕ) (c : Book) → p < q → walk_from k s q c ≡ whole c (from_of seen_of says_of q s)) where
  on_frame : (read_of (drop p s)).number ≡ 0
      → a_frame (frame_record p b (drop p s)) (walk_from k s (p + length_in (drop p s)) (ledger_after b (drop p s))) ≡ whole b (from_of seen_of says_of p s)
  on_frame z =
      let g : Goes s p (p + length_in (drop p s)) = rw (← seen_size (drop p s) z) (goes_frame s p (seen_of (drop p s)) h refl (seen_answer (drop p s) ∙ z)) in
      ap (a_frame (frame_record p b (drop p s))) (ih (p + length_in (drop p s)) (ledger_after b (drop p s)) (omega arith))
      ∙ sym (whole_frame s p b (from_of seen_of says_of (p + length_in (drop p s)) s) z)
      ∙ ap (whole b) (sym g.rest)

  on_refusal : ((read_of (drop p s)).number ≡ 0 → ⊥) → (a : Paper) → search_of s (p + 1) ≡ a → Lowest s (p + 1) a
      → a_refusal (blank_of p (read_of (drop p s)).number b.floor b.top) (go_on (λ q. walk_from k s q b) (stopped b) a.values) ≡ whole b (from_of seen_of says_of p s)
  on_refusal ne a e (l_at q f x y z d) =
      let g = goes_found s p (seen_of (drop p s)) h refl (λ (i : seen_number (seen_of (drop p s)) ≡ 0). ne (sym (seen_answer (drop p s)) ∙ i)) q (sym (e ∙ f)) in
      rw f (ap (a_refusal (blank_of p (read_of (drop p s)).number b.floor b.top)) (ih q b (omega arith)))
      ∙ sym (whole_refusal s p b (from_of seen_of says_of q s) ne)
      ∙ ap (whole b) (sym g.rest)
  on_refusal ne a e (l_none f d) =
      let g = goes_none s p (seen_of (drop p s)) h refl (λ (i : seen_number (seen_of (drop p s)) ≡ 0). ne (sym (seen_answer (drop p s)) ∙ i)) (sym (e ∙ f)) in
      rw f (ap (a_refusal (blank_of p (read_of (drop p s)).number b.floor b.top)) (sym (ap (whole b) (from_end seen_of says_of (length s) s (omega arith)) ∙ whole_none b)))
      ∙ sym (whole_refusal s p b (from_of seen_of says_of (length s) s) ne)
      ∙ ap (whole b) (sym g.rest)

walk_from_lem : (k : ℕ) (s : List ℕ) (p : ℕ) (b : Book) → length s ≤ p + k → walk_from k s p b ≡ whole b (from_of seen_of says_of p s)
unfolding walk_from
walk_from_lem zero s p b l = rw (from_end seen_of says_of p s (omega arith), whole_none b)
walk_from_lem (suc k) s p b l =
    ⊎_elim (λ (h : p < length s).
    ⊎_elim (λ (z : (read_of (drop p s)).number ≡ 0). rw (lt-leb (length s) p h, eq-eqb (read_of (drop p s)).number 0 z) (on_frame k s p b h (λ q c m. walk_from_lem k s q c (omega arith)) z))
    (λ (ne : (read_of (drop p s)).number ≡ 0 → ⊥).
    rw (lt-leb (length s) p h, ne_eqb (read_of (drop p s)).number 0 ne) (on_refusal k s p b h (λ q c m. walk_from_lem k s q c (omega arith)) ne _ refl (lowest s (p + 1) (omega arith))))
    (same (read_of (drop p s)).number 0))
    (λ (h : length s ≤ p). rw (le-leb (length s) p h, from_end seen_of says_of p s h, whole_none b))
    (less p (length s))

-- RECORDS, COUNTS AND LEDGER ARE THOSE OF DOCUMENT 01'S WALK, for every capture
pub literal_walk_lem : (s : List ℕ) → literal_walk s ≡ record { records = (walk_of s).records; frames = frames_of (sights s); refused = refused_of (sights s); ledger = (walk_of s).ledger }
unfolding literal_walk Account.walk_of
literal_walk_lem s = walk_from_lem (length s) s 0 (fresh 100) (omega arith)
