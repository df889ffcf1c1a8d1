-- The code's promise in document 01's words.
use Rattle.std.specs.Prelude.{ℕ, ◌*◌, ◌/◌, ◌≤◌, ◌<◌, ◌≡◌, List, [], ◌∷◌, length, Ok, Err}
use Rattle.std.proofs.Math.Path.{ap}
use Rattle.std.proofs.Common.{◌∙◌, arith}
use Rattle.std.proofs.Math.Bool.{true, false}
use Rattle.std.proofs.Math.Dec.{leb}
use borrow.Author.Tests.{le-leb, lt-leb}
use Rattle.terms.specs.Paper.{answer}
use Rattle.octets.specs.Octets.{laid}
use Rattle.ledger.specs.State.{ledger_of}
use Rattle.ledger_spec.specs.Calls.{fresh}
use Rattle.terms.specs.declared.Refusal.TheVariants.{Room}
use Rattle.walk.specs.declared.Walked.{Walked}
use Rattle.walk_spec.specs.Walk.{sights, walk_of, frames_of, refused_of, fits_in, walk_answer, walk_book, table_of, walk_leaves}
use Rattle.walk.specs.Papers.{walk_paper, counts_one}
use Rattle.walk_spec.specs.Literal.{Walk, literal_walk}
use Rattle.walk_spec.proofs.LiteralLaws.{literal_walk_lem}

-- WHAT THE CODE'S PROMISE COMES TO, of a capture s, a buffer d that is d' later, and the answer x

-- with room for all records of the walk w: 0, its counts and its ledger, and its records one behind
-- the other at the front of the buffer
pub record Listed (w : Walk) (d d' : List ℕ) (x : Walked) : Type 0 where
  pub answer : x.answer ≡ Ok (record { records = length w.records; frames = w.frames; refused = w.refused })
  pub ledger : x.ledger ≡ ledger_of w.ledger
  pub buffer : d' ≡ laid 0 (table_of w.records) d

-- where not all records fit: 8, nothing written, and the ledger just opened (document 01, Records,
-- paragraph 1)
pub record Untouched (d d' : List ℕ) (x : Walked) : Type 0 where
  pub answer : x.answer ≡ Err Room
  pub ledger : x.ledger ≡ ledger_of (fresh 100)
  pub buffer : d' ≡ d

module _ (s d d' : List ℕ) (x : Walked) (p : walk_paper x ≡ walk_answer s (length d)) (l : x.ledger ≡ ledger_of (walk_book s (length d))) (o : d' ≡ walk_leaves s d) where
  as_many : length (literal_walk s).records ≡ length (walk_of s).records
  as_many = ap (λ (w : Walk). length w.records) (literal_walk_lem s)

  pub with_room : 64 * length (literal_walk s).records ≤ length d → Listed (literal_walk s) d d' x
  unfolding walk_answer walk_book walk_leaves fits_in
  with_room h =
      let f : leb (length (walk_of s).records) (length d / 64) ≡ true = le-leb (length (walk_of s).records) (length d / 64) (omega (arith, as_many)) in
      let q : walk_paper x ≡ answer 0 (length (walk_of s).records ∷ frames_of (sights s) ∷ refused_of (sights s) ∷ []) = p ∙ rw f in
      rw (literal_walk_lem s)
      (record {
        answer = counts_one x.answer _ q;
        ledger = l ∙ rw f;
        buffer = o ∙ rw f;
      })

  pub without_room : length d < 64 * length (literal_walk s).records → Untouched d d' x
  unfolding walk_answer walk_book walk_leaves fits_in
  without_room h =
      let f : leb (length (walk_of s).records) (length d / 64) ≡ false = lt-leb (length (walk_of s).records) (length d / 64) (omega (arith, as_many)) in
      let q : walk_paper x ≡ answer 8 (0 ∷ 0 ∷ 0 ∷ []) = p ∙ rw f in
      record {
        answer = counts_one x.answer _ q;
        ledger = l ∙ rw f;
        buffer = o ∙ rw f;
      }
