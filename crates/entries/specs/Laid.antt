-- An entry is the bytes at its place: its fields, laid out in the document's widths and order, are
-- those bytes again.
use Rattle.std.specs.Prelude.{ℕ, ◌+◌, ◌≤◌, ◌≡◌, refl, List, [], ◌∷◌, ◌++◌, length, take, drop, get_or}
use Rattle.std.proofs.Common.{sym, ap, ◌∙◌, arith, take-add, drop-drop}
use Rattle.octets.specs.Octets.{be, bytes_of, Bytes}
use Rattle.octets.specs.Numerals.{bytes_of_be}
use Rattle.rules.specs.Rules.{EntrySize, short, long}
use Rattle.entries.specs.Reader.{entry_at, step_of}
use Rattle.entries.specs.Given.{Stands}
use Rattle.entries.specs.Outcomes.{entry_short, entry_long, step_done}
use Rattle.entries.specs.Places.{stands_says}

-- "type 2, price 8"; "type 2, price 8, size 8, position 1"
unfoldable pub laid_out : List ℕ → List ℕ
laid_out [] = []
laid_out (x ∷ []) = []
laid_out (kind ∷ (price ∷ [])) = bytes_of 2 kind ++ bytes_of 8 price
laid_out (kind ∷ (price ∷ (size ∷ vs))) = bytes_of 2 kind ++ (bytes_of 8 price ++ (bytes_of 8 size ++ bytes_of 1 (get_or vs 0 0)))

-- m bytes from p on, and n more from q on
more : (m n p q : ℕ) (b : List ℕ) → q ≡ p + m → take (m + n) (drop p b) ≡ take m (drop p b) ++ take n (drop q b)
more m n p q b e = take-add m n (drop p b) ∙ rw (drop-drop m p b, e)

module _ (b : List ℕ) (p : ℕ) (h : Bytes b) where
  abbrev at : ℕ → ℕ → List ℕ
  at n q = take n (drop q b)

  -- the number in n bytes, laid out
  field : (n q : ℕ) → q + n ≤ length b → bytes_of n (be n q b) ≡ at n q
  field n q l = bytes_of_be n q b h l

  short_laid : p + 10 ≤ length b → bytes_of 2 (be 2 p b) ++ bytes_of 8 (be 8 (p + 2) b) ≡ at 10 p
  short_laid l = rw (field 2 p (omega arith), field 8 (p + 2) (omega arith)) (sym (more 2 8 p (p + 2) b refl))

  long_laid : p + 19 ≤ length b → bytes_of 2 (be 2 p b) ++ (bytes_of 8 (be 8 (p + 2) b) ++ (bytes_of 8 (be 8 (p + 10) b) ++ bytes_of 1 (be 1 (p + 18) b))) ≡ at 19 p
  long_laid l =
      rw (field 2 p (omega arith), field 8 (p + 2) (omega arith), field 8 (p + 10) (omega arith), field 1 (p + 18) (omega arith))
      (sym
      (more 2 17 p (p + 2) b refl
      ∙ ap (λ (x : List ℕ). at 2 p ++ x)
      (more 8 9 (p + 2) (p + 10) b (omega arith) ∙ ap (λ (x : List ℕ). at 8 (p + 2) ++ x) (more 8 1 (p + 10) (p + 18) b (omega arith)))))

  laid_size : (w : ℕ) → EntrySize (be 5 10 b) w → p + w ≤ length b → laid_out (entry_at b p).values ≡ take w (drop p b)
  unfolding laid_out
  laid_size w (short e x) l = rw (x, entry_short b p e) (short_laid (omega arith))
  laid_size w (long e x) l = rw (x, entry_long b p e) (long_laid (omega arith))

  -- what a step gives where an entry stands
  pub step_bytes : (r : Stands b p) → laid_out (step_of b p).values ≡ take r.w (drop p b)
  step_bytes r = rw (step_done b p ((stands_says b p).1 r)) (laid_size r.w r.kth.size r.whole)
