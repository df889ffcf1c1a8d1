-- Laws of words, of the trailer and of all lines, by the tests that decide.
use Rattle.std.specs.Prelude.{ℕ, suc, ◌+◌, ◌-◌, ◌<◌, ◌≤◌, ◌≡◌, true, false, List, ◌∷◌, eqb, drop}
use Rattle.std.proofs.Math.Path.{sym}
use Rattle.std.proofs.Common.{ap, ◌∙◌, ⊎_elim, add-one, arith, lit<, drop_of_length-le, drop-cons}
use Rattle.std.proofs.Math.ListN.{length, get_or, take, length-drop, length-take}
use Rattle.std.proofs.Math.Seq.{take_all, get_or-take, get_or-drop}
use borrow.Author.Tests.{le-leb, lt-leb, eq-eqb, ne_eqb}
use Rattle.terms.specs.Paper.{Paper}
use Rattle.terms.specs.Cases.{two, less, same, clash}
use Rattle.market_columns.specs.Columns.{Column, md401, md404, md405, md406, alike, columns}
use Rattle.market_columns.specs.ColumnLaws.{alike_self, alike_is, alike_not, same_more}
use Rattle.market_columns.specs.Numbers.{number_at}
use Rattle.market_columns.specs.Pieces.{column_length, column_byte}
use Rattle.digits.specs.Digits.{nothing, digits_at}
use Rattle.market_columns.specs.Tables.{length_of}
use Rattle.market_spec.specs.File.{fault, fine, and_then, line_fault, words, word_of, begins_at, type_at, layout_of, marks, mark_ok, tail_fault, count_ok, sum_ok, closing, trailer_fault, lines_fault}

-- ONE AFTER THE OTHER

pub then_fine : (p : Paper) (f : ℕ → Paper) (q : ℕ) → p ≡ fine q → and_then p f ≡ f q
then_fine p f q e = rw e

pub then_fault : (p : Paper) (f : ℕ → Paper) (n q : ℕ) → p ≡ fault n q → (n ≡ 0 → ⊥) → and_then p f ≡ fault n q
then_fault p f n q e h = rw (e, ne_eqb n 0 h)

-- THE WORD AT A PLACE

alike_of : (x y : List ℕ) → x ≡ y → alike x y ≡ true
alike_of x y e = ap (λ (t : List ℕ). alike t y) e ∙ alike_self y

module _ (word : List ℕ) (at : ℕ) (s : List ℕ) where
  abbrev pub x : List ℕ
  x = take (length word) (drop at s)

  begins_whole : word ≡ x → begins_at word at s ≡ 1
  unfolding begins_at
  begins_whole e =
      let n : length x ≡ length word = ap length (sym e) in
      let p : take (length x) word ≡ x = rw n (take_all (length word) word (omega arith) ∙ e) in
      rw (p, alike_self x, eq-eqb (length x) (length word) n)

  begins_part : take (length x) word ≡ x → (length x ≡ length word → ⊥) → begins_at word at s ≡ 2
  unfolding begins_at
  begins_part p n = rw (p, alike_self x, ne_eqb (length x) (length word) n)

  begins_none : (take (length x) word ≡ x → ⊥) → begins_at word at s ≡ 0
  unfolding begins_at
  begins_none n = rw (⊎_elim (λ (t : alike (take (length x) word) x ≡ true). absurd (n (alike_is (take (length x) word) x t))) (λ (t : alike (take (length x) word) x ≡ false). t) (two (alike (take (length x) word) x)))

  -- i of its bytes are passed
  module _ (i : ℕ) where
    pub word_cut : at ≤ length s → i < length word → take i word ≡ take i x → length s ≤ at + i → at + i ≤ length s → begins_at word at s ≡ 2
    unfolding begins_at
    word_cut h k e l m =
        let n : length x ≡ i = length-take (length word) (drop at s) ∙ rw length-drop (omega arith) in
        let p : take (length x) word ≡ x = rw n (e ∙ take_all i x (omega arith)) in
        rw (p, alike_self x, ne_eqb (length x) (length word) (λ q. omega arith))

    pub word_not : at + i < length s → i < length word → (get_or s (at + i) 0 ≡ get_or word i 0 → ⊥) → begins_at word at s ≡ 0
    unfolding begins_at
    word_not l k d =
        let n : i < length x = rw (length-take, length-drop) (omega arith) in
        let a : get_or (take (length x) word) i 0 ≡ get_or word i 0 = get_or-take (length x) word i 0 n in
        let b : get_or x i 0 ≡ get_or s (at + i) 0 = get_or-take (length word) (drop at s) i 0 k ∙ get_or-drop at s i 0 in
        rw (alike_not (take (length x) word) x i (λ q. d (sym b ∙ sym q ∙ a)))

    pub word_more : at + i < length s → i < length word → take i word ≡ take i x → get_or s (at + i) 0 ≡ get_or word i 0 → take (i + 1) word ≡ take (i + 1) x
    word_more l k e q =
        let n : i < length x = rw (length-take, length-drop) (omega arith) in
        let b : get_or x i 0 ≡ get_or s (at + i) 0 = get_or-take (length word) (drop at s) i 0 k ∙ get_or-drop at s i 0 in
        same_more word x i k n e (sym q ∙ sym b)

    pub word_whole : length word ≤ i → i ≤ length word → at + i ≤ length s → take i word ≡ take i x → begins_at word at s ≡ 1
    unfolding begins_at
    word_whole h k l e =
        let n : length x ≡ length word = length-take (length word) (drop at s) ∙ rw length-drop (omega arith) in
        let p : take (length x) word ≡ x = rw n (take_all (length word) word (omega arith) ∙ sym (take_all i word h) ∙ e ∙ take_all i x (omega arith)) in
        rw (p, alike_self x, eq-eqb (length x) (length word) n)

  -- the word stands whole where it is the bytes there
  pub word_test : alike word x ≡ eqb (begins_at word at s) 1
  word_test =
      ⊎_elim (λ (t : alike word x ≡ true). t ∙ sym (eq-eqb (begins_at word at s) 1 (begins_whole (alike_is word x t))))
      (λ (t : alike word x ≡ false).
      t ∙ sym (ne_eqb (begins_at word at s) 1 (other (λ e. clash (alike_of word x e) t))))
      (two (alike word x))
    where
      other : (word ≡ x → ⊥) → begins_at word at s ≡ 1 → ⊥
      other n b =
          ⊎_elim (λ (p : alike (take (length x) word) x ≡ true).
          let q : take (length x) word ≡ x = alike_is (take (length x) word) x p in
          ⊎_elim (λ (l : length x ≡ length word). n (sym (take_all (length x) word (omega (arith, l))) ∙ q)) (λ (l : length x ≡ length word → ⊥). omega (arith, b, begins_part q l)) (same (length x) (length word)))
          (λ (p : alike (take (length x) word) x ≡ false). omega (arith, b, begins_none (λ q. clash (alike_of (take (length x) word) x q) p)))
          (two (alike (take (length x) word) x))

  -- the file ends within the word where what is left is its beginning
  module _ (not_whole : begins_at word at s ≡ 1 → ⊥) where
    abbrev r : List ℕ
    r = drop at s

    pub cut_test : alike r (take (length r) word) ≡ eqb (begins_at word at s) 2
    cut_test =
        ⊎_elim (λ (t : alike r (take (length r) word) ≡ true). t ∙ sym (eq-eqb (begins_at word at s) 2 (part (alike_is r (take (length r) word) t))))
        (λ (t : alike r (take (length r) word) ≡ false).
        t ∙ sym (ne_eqb (begins_at word at s) 2 (other (λ e. clash (alike_of r (take (length r) word) e) t))))
        (two (alike r (take (length r) word)))
      where
        part : r ≡ take (length r) word → begins_at word at s ≡ 2
        part e =
            let l : length r ≤ length word = omega (arith, ap length e, length-take (length r) word) in
            let q : x ≡ r = take_all (length word) r l in
            let p : take (length x) word ≡ x = rw q (sym e) in
            begins_part p (λ n. not_whole (begins_whole (sym (take_all (length x) word (omega (arith, n))) ∙ p)))

        other : (r ≡ take (length r) word → ⊥) → begins_at word at s ≡ 2 → ⊥
        other n b =
            ⊎_elim (λ (p : alike (take (length x) word) x ≡ true).
            let q : take (length x) word ≡ x = alike_is (take (length x) word) x p in
            ⊎_elim (λ (l : length r < length word). let m : x ≡ r = take_all (length word) r (omega arith) in n (sym (rw m at q)))
            (λ (l : length word ≤ length r). let m : length x ≡ length word = length-take (length word) r ∙ omega arith in not_whole (begins_whole (sym (take_all (length x) word (omega (arith, m))) ∙ q)))
            (less (length r) (length word)))
            (λ (p : alike (take (length x) word) x ≡ false). omega (arith, b, begins_none (λ q. clash (alike_of (take (length x) word) x q) p)))
            (two (alike (take (length x) word) x))

-- THE TRAILER

module _ (m : ℕ) (ms : List ℕ) (at : ℕ) (s : List ℕ) where
  pub tail_cut : length s ≤ at → tail_fault (m ∷ ms) at s ≡ fault 40 (length s)
  unfolding tail_fault
  tail_cut h = rw (le-leb (length s) at h)

  pub tail_wrong : at < length s → mark_ok m (get_or s at 0) ≡ false → tail_fault (m ∷ ms) at s ≡ fault 45 at
  unfolding tail_fault
  tail_wrong h e = rw (lt-leb (length s) at h, e)

  pub tail_on : at < length s → mark_ok m (get_or s at 0) ≡ true → tail_fault (m ∷ ms) at s ≡ tail_fault ms (at + 1) s
  unfolding tail_fault
  tail_on h e = rw (lt-leb (length s) at h, e)

-- ALL LINES

module _ (f k at : ℕ) (s : List ℕ) (h : 1 ≤ f) where
  lines_open : lines_fault f k at s ≡ lines_fault (suc (f - 1)) k at s
  lines_open = let e : f ≡ suc (f - 1) = omega arith in ap (λ (n : ℕ). lines_fault n k at s) e

  pub lines_trailer : type_at at s ≡ 5 → lines_fault f k at s ≡ trailer_fault k at s
  unfolding lines_fault
  lines_trailer e = lines_open ∙ rw e

  pub lines_cut : type_at at s ≡ 6 → lines_fault f k at s ≡ fault 40 (length s)
  unfolding lines_fault
  lines_cut e = lines_open ∙ rw e

  pub lines_type : type_at at s ≡ 0 → lines_fault f k at s ≡ fault 42 at
  unfolding lines_fault
  lines_type e = lines_open ∙ rw e

  pub lines_line : (type_at at s ≡ 5 → ⊥) → (type_at at s ≡ 6 → ⊥) → (type_at at s ≡ 0 → ⊥) → lines_fault f k at s ≡ and_then (line_fault 43 (layout_of (type_at at s)) at s) (λ (e : ℕ). lines_fault (f - 1) (k + 1) e s)
  unfolding lines_fault
  lines_line a b c = lines_open ∙ rw (ne_eqb (type_at at s) 5 a, ne_eqb (type_at at s) 6 b, ne_eqb (type_at at s) 0 c)

-- what holds of the four layouts holds of any line's
pub each_layout : (P : List Column → Type 0) → P md401 → P md404 → P md405 → P md406 → (t : ℕ) → P (layout_of t)
each_layout P a b c d t =
    ⊎_elim (λ (e : eqb t 1 ≡ true). rw e a)
    (λ (e : eqb t 1 ≡ false).
    ⊎_elim (λ (f : eqb t 2 ≡ true). rw (e, f) b)
    (λ (f : eqb t 2 ≡ false).
    ⊎_elim (λ (g : eqb t 3 ≡ true). rw (e, f, g) c) (λ (g : eqb t 3 ≡ false). rw (e, f, g) d) (two (eqb t 3)))
    (two (eqb t 2)))
    (two (eqb t 1))

-- every layout has bytes
pub layout_some : (t : ℕ) → 1 ≤ length_of (layout_of t)
layout_some = each_layout (λ cs. 1 ≤ length_of cs) (lit< tt) (lit< tt) (lit< tt) (lit< tt)

pub count_lacks : (k : ℕ) (s : List ℕ) → number_at 27 5 0 s ≡ nothing → count_ok k s ≡ false
unfolding alike
count_lacks k s e = rw e

pub sum_lacks : (at : ℕ) (s : List ℕ) → digits_at (at + 8) 3 s ≡ nothing → sum_ok at s ≡ false
unfolding alike
sum_lacks at s e = rw e

pub close_sum : (k at : ℕ) (s : List ℕ) → count_ok k s ≡ true → sum_ok at s ≡ false → closing k at s ≡ fault 46 0
close_sum k at s e f = rw (e, f)

pub close_fine : (k at : ℕ) (s : List ℕ) → count_ok k s ≡ true → sum_ok at s ≡ true → closing k at s ≡ fine k
close_fine k at s e f = rw (e, f)

-- one turn of the trailer's loop
module _ (i p : ℕ) (s : List ℕ) (h : i < 5) where
  pub marks_open : tail_fault (drop i marks) p s ≡ tail_fault (get_or marks i 0 ∷ drop (i + 1) marks) p s
  marks_open = ap (λ (ms : List ℕ). tail_fault ms p s) (drop-cons marks i 0 h ∙ rw (add-one i))

pub marks_done : (i p : ℕ) (s : List ℕ) → 5 ≤ i → tail_fault (drop i marks) p s ≡ fine p
unfolding tail_fault
marks_done i p s h = rw (drop_of_length-le marks {i = i} h)

-- a word, of the five
pub word_length : (start w : ℕ) → start + w ≤ 27 → length (word_of start w) ≡ w
word_length start w h = column_length words start w h

pub word_byte : (start w i : ℕ) → i < w → get_or (word_of start w) i 0 ≡ get_or words (start + i) 0
word_byte start w i h = column_byte words start w i h

-- the layouts as rows
pub layout_1 : (t : ℕ) → t ≡ 1 → columns 9 26 ≡ layout_of t
layout_1 t a = rw a

pub layout_2 : (t : ℕ) → t ≡ 2 → columns 26 36 ≡ layout_of t
layout_2 t a = rw a

pub layout_3 : (t : ℕ) → t ≡ 3 → columns 36 46 ≡ layout_of t
layout_3 t a = rw a

pub layout_4 : (t : ℕ) → (t ≡ 1 → ⊥) → (t ≡ 2 → ⊥) → (t ≡ 3 → ⊥) → columns 46 58 ≡ layout_of t
layout_4 t a b c = rw (ne_eqb t 1 a, ne_eqb t 2 b, ne_eqb t 3 c)
