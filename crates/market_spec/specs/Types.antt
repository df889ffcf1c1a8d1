-- What stands at a line's start, by the tests that decide; and the bytes behind the trailer.
use Rattle.std.specs.Prelude.{ℕ, ◌+◌, ◌<◌, ◌≤◌, ◌≡◌, refl, Bool, true, false, ◌||◌, List, eqb, take, drop}
use Rattle.std.proofs.Common.{arith, lit≤, drop_of_length-le}
use Rattle.std.proofs.Math.Logic.{⊎_elim}
use Rattle.std.proofs.Math.ListN.{length, length-drop, length-take}
use borrow.Author.Tests.{lt-ltb, le-ltb, ne_eqb}
use Rattle.terms.specs.Paper.{pick}
use Rattle.terms.specs.Cases.{two, same}
use Rattle.market_columns.specs.Columns.{alike, header}
use Rattle.market_spec.specs.File.{fault, fine, and_then, word_of, begins_at, type_at, tail_fault, marks, left_over, closing, trailer_fault, line_fault, lines_fault, fault_of}
use Rattle.market_spec.specs.Files.{then_fine, then_fault}

module _ (at : ℕ) (s : List ℕ) where
  abbrev b1 : ℕ
  b1 = begins_at (word_of 0 5) at s

  abbrev b2 : ℕ
  b2 = begins_at (word_of 5 5) at s

  abbrev b3 : ℕ
  b3 = begins_at (word_of 10 5) at s

  abbrev b4 : ℕ
  b4 = begins_at (word_of 15 5) at s

  abbrev b5 : ℕ
  b5 = begins_at (word_of 20 7) at s

  pub type_1 : b1 ≡ 1 → type_at at s ≡ 1
  unfolding type_at
  type_1 e = rw e

  module _ (n1 : b1 ≡ 1 → ⊥) where
    pub type_2 : b2 ≡ 1 → type_at at s ≡ 2
    unfolding type_at
    type_2 e = rw (ne_eqb b1 1 n1, e)

    module _ (n2 : b2 ≡ 1 → ⊥) where
      pub type_3 : b3 ≡ 1 → type_at at s ≡ 3
      unfolding type_at
      type_3 e = rw (ne_eqb b1 1 n1, ne_eqb b2 1 n2, e)

      module _ (n3 : b3 ≡ 1 → ⊥) where
        pub type_4 : b4 ≡ 1 → type_at at s ≡ 4
        unfolding type_at
        type_4 e = rw (ne_eqb b1 1 n1, ne_eqb b2 1 n2, ne_eqb b3 1 n3, e)

        module _ (n4 : b4 ≡ 1 → ⊥) where
          pub type_5 : b5 ≡ 1 → type_at at s ≡ 5
          unfolding type_at
          type_5 e = rw (ne_eqb b1 1 n1, ne_eqb b2 1 n2, ne_eqb b3 1 n3, ne_eqb b4 1 n4, e)

          module _ (n5 : b5 ≡ 1 → ⊥) where
            pub type_other : (t : Bool) → ((((eqb b1 2 || eqb b2 2) || eqb b3 2) || eqb b4 2) || eqb b5 2) ≡ t → type_at at s ≡ pick t 6 0
            unfolding type_at
            type_other t e = rw (ne_eqb b1 1 n1, ne_eqb b2 1 n2, ne_eqb b3 1 n3, ne_eqb b4 1 n4, ne_eqb b5 1 n5, e)

  -- a word stands whole
  word_room : (w start : ℕ) → length (word_of start w) ≡ w → begins_at (word_of start w) at s ≡ 1 → at ≤ length s → at + w ≤ length s
  unfolding begins_at
  word_room w start n e h =
      ⊎_elim (λ (a : alike (take (length (take (length (word_of start w)) (drop at s))) (word_of start w)) (take (length (word_of start w)) (drop at s)) ≡ true).
      ⊎_elim (λ (b : length (take (length (word_of start w)) (drop at s)) ≡ length (word_of start w)). omega (arith, length-take (length (word_of start w)) (drop at s), length-drop at s, n))
      (λ (b : length (take (length (word_of start w)) (drop at s)) ≡ length (word_of start w) → ⊥). absurd (omega (arith, rw (a, ne_eqb (length (take (length (word_of start w)) (drop at s))) (length (word_of start w)) b) at e)))
      (same (length (take (length (word_of start w)) (drop at s))) (length (word_of start w))))
      (λ (a : alike (take (length (take (length (word_of start w)) (drop at s))) (word_of start w)) (take (length (word_of start w)) (drop at s)) ≡ false). absurd (omega (arith, rw a at e)))
      (two (alike (take (length (take (length (word_of start w)) (drop at s))) (word_of start w)) (take (length (word_of start w)) (drop at s))))

-- WHAT STANDS THERE, once for all: a line's type, the trailer's word, or no word whole
pub data TypeView (at : ℕ) (s : List ℕ) : Type 0 where
  line_type : (t : ℕ) → t ≤ 4 → type_at at s ≡ t → TypeView at s
  trailer_type : begins_at (word_of 20 7) at s ≡ 1 → type_at at s ≡ 5 → TypeView at s
  no_type : (cut : Bool) → type_at at s ≡ pick cut 6 0 → TypeView at s

pub type_view : (at : ℕ) (s : List ℕ) → TypeView at s
type_view at s =
    ⊎_elim (λ (a : b1 at s ≡ 1). line_type 1 (lit≤ tt) (type_1 at s a))
    (λ (a : b1 at s ≡ 1 → ⊥).
    ⊎_elim (λ (b : b2 at s ≡ 1). line_type 2 (lit≤ tt) (type_2 at s a b))
    (λ (b : b2 at s ≡ 1 → ⊥).
    ⊎_elim (λ (c : b3 at s ≡ 1). line_type 3 (lit≤ tt) (type_3 at s a b c))
    (λ (c : b3 at s ≡ 1 → ⊥).
    ⊎_elim (λ (d : b4 at s ≡ 1). line_type 4 (lit≤ tt) (type_4 at s a b c d))
    (λ (d : b4 at s ≡ 1 → ⊥).
    ⊎_elim (λ (f : b5 at s ≡ 1). trailer_type f (type_5 at s a b c d f))
    (λ (f : b5 at s ≡ 1 → ⊥). no_type ((((eqb (b1 at s) 2 || eqb (b2 at s) 2) || eqb (b3 at s) 2) || eqb (b4 at s) 2) || eqb (b5 at s) 2) (type_other at s a b c d f ((((eqb (b1 at s) 2 || eqb (b2 at s) 2) || eqb (b3 at s) 2) || eqb (b4 at s) 2) || eqb (b5 at s) 2) refl))
    (same (b5 at s) 1))
    (same (b4 at s) 1))
    (same (b3 at s) 1))
    (same (b2 at s) 1))
    (same (b1 at s) 1)

pub trailer_word : (at : ℕ) (s : List ℕ) → type_at at s ≡ 5 → begins_at (word_of 20 7) at s ≡ 1
trailer_word at s e = by (type_view at s)
  where
    by : TypeView at s → begins_at (word_of 20 7) at s ≡ 1
    by (line_type t h q) = absurd (omega arith)
    by (trailer_type w q) = w
    by (no_type true q) = absurd (omega arith)
    by (no_type false q) = absurd (omega arith)

-- a trailer stands whole
pub trailer_room : (at : ℕ) (s : List ℕ) → at ≤ length s → type_at at s ≡ 5 → at + 7 ≤ length s
trailer_room at s h e = word_room at s 7 20 refl (trailer_word at s e) h

-- the type at a line's start is 0 to 6
pub type_most : (at : ℕ) (s : List ℕ) → type_at at s ≤ 6
type_most at s = by (type_view at s)
  where
    by : TypeView at s → type_at at s ≤ 6
    by (line_type t h q) = omega arith
    by (trailer_type w q) = omega arith
    by (no_type true q) = omega arith
    by (no_type false q) = omega arith

pub left_none : (s : List ℕ) (at : ℕ) → length s ≤ at → left_over s at ≡ fine at
left_none s at h = rw (le-ltb at (length s) h)

-- past the end stands no word whole
pub type_past : (at : ℕ) (s : List ℕ) → length s ≤ at → type_at at s ≡ 6
unfolding type_at begins_at alike
type_past at s h = rw (drop_of_length-le s {i = at} h)

-- THE TRAILER, AND THE FILE

pub trailer_wrong : (k at n q : ℕ) (s : List ℕ) → (n ≡ 0 → ⊥) → and_then (tail_fault marks (at + 7) s) (left_over s) ≡ fault n q → trailer_fault k at s ≡ fault n q
unfolding trailer_fault
trailer_wrong k at n q s z e = then_fault (and_then (tail_fault marks (at + 7) s) (left_over s)) (λ (p : ℕ). closing k at s) n q e z

pub trailer_fine : (k at q : ℕ) (s : List ℕ) → and_then (tail_fault marks (at + 7) s) (left_over s) ≡ fine q → trailer_fault k at s ≡ closing k at s
unfolding trailer_fault
trailer_fine k at q s e = then_fine (and_then (tail_fault marks (at + 7) s) (left_over s)) (λ (p : ℕ). closing k at s) q e

pub file_large : (s : List ℕ) → 65536 < length s → fault_of s ≡ fault 47 0
unfolding fault_of
file_large s h = rw (lt-ltb 65536 (length s) h)

pub file_header : (s : List ℕ) (n q : ℕ) → length s ≤ 65536 → (n ≡ 0 → ⊥) → line_fault 41 header 0 s ≡ fault n q → fault_of s ≡ fault n q
unfolding fault_of
file_header s n q h z e = rw (le-ltb 65536 (length s) h) (then_fault (line_fault 41 header 0 s) (λ (p : ℕ). lines_fault (length s + 1) 0 p s) n q e z)

pub file_lines : (s : List ℕ) (q : ℕ) → length s ≤ 65536 → line_fault 41 header 0 s ≡ fine q → fault_of s ≡ lines_fault (length s + 1) 0 q s
unfolding fault_of
file_lines s q h e = rw (le-ltb 65536 (length s) h) (then_fine (line_fault 41 header 0 s) (λ (p : ℕ). lines_fault (length s + 1) 0 p s) q e)

-- THE LOOP OVER LINES: k lines are passed, the next begins at p, and what is left gives the same
-- answer

pub record Left (s : List ℕ) (at p k : ℕ) : Type 0 where
  pub inside : p ≤ length s
  pub few : k ≤ p
  pub fuel : ℕ
  pub enough : length s < fuel + p
  pub same_answer : lines_fault fuel k p s ≡ lines_fault (length s + 1) 0 at s

pub left_first : (s : List ℕ) (at : ℕ) → at ≤ length s → Left s at at 0
left_first s at h = record { inside = h; few = omega arith; fuel = length s + 1; enough = omega arith; same_answer = refl }
