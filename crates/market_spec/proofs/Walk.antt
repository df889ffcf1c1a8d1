-- CR 10: when each number is given, told by the places of a file and not by the function that
-- answers.
-- `At`: the columns before a place stand right. `Walked`: so do the header and k lines before a
-- place, where the next line begins.
use Rattle.std.specs.Prelude.{ℕ, zero, suc, ◌+◌, ◌-◌, ◌<◌, ◌≤◌, ◌≡◌, refl, true, false, ◌↔◌, List, [], ◌∷◌, length, get_or, take, drop}
use Rattle.std.proofs.Common.{◌∙◌, ⊎_elim, arith}
use Rattle.terms.specs.Paper.{Paper}
use Rattle.terms.specs.Cases.{two, less, same}
use Rattle.market_columns.specs.Columns.{Column, header, wide, column_ok}
use Rattle.market_spec.specs.File.{fault, fine, and_then, end_of, line_fault, type_at, layout_of, marks, tail_fault, left_over, count_ok, sum_ok, closing, trailer_fault, lines_fault, fault_of}
use Rattle.market_spec.specs.Files.{then_fine, then_fault, layout_some, tail_cut, tail_wrong, tail_on, lines_trailer, lines_cut, lines_type, lines_line, close_sum, close_fine}
use Rattle.market_spec.specs.Types.{left_none, trailer_wrong, trailer_fine, file_large, file_header, file_lines, type_most}
use Rattle.market_spec.specs.LinesValues.{is_line, is_line_holds}
use Rattle.market_spec.proofs.Files.{close_count, line_long}
use Rattle.market_spec.proofs.Lines.{line_on, line_wrong, line_bar, line_cut, line_ends}
use Rattle.market_spec.proofs.Types.{left_some}
use Rattle.market_spec.specs.Walk.{RowEnd, within, At, cut_short, next, wrong_at, column, bar, behind, passed, left_over_lem, MarksEnd, Whole, trailer_cut, marks_end, mark_wrong, Finding, sum_wrong, sound, start, Walked, count_wrong, line, type_wrong, line_cut_short, column_wrong, type_cut, header_cut, head, header_wrong, large, Wrong, Cut, MarksAt, From, line_from}

pub row_end : (n : ℕ) (s : List ℕ) (cs0 : List Column) (p0 : ℕ) (cs : List Column) (p : ℕ) → At s cs0 p0 cs p → RowEnd n s cs0 p0 (line_fault n cs p s)
unfolding line_fault
row_end n s cs0 p0 [] p a = passed a refl
row_end n s cs0 p0 (c ∷ cs) p a =
    ⊎_elim (λ (l : length s < p + wide c). cut_short (within a l) (line_cut n c cs p s l))
    (λ (l : p + wide c ≤ length s).
    ⊎_elim (λ (o : column_ok c (take (wide c) (drop p s)) ≡ true).
    ⊎_elim (λ (m : p + wide c < length s).
    ⊎_elim (λ (b : get_or s (p + wide c) 0 ≡ end_of cs). over n s cs0 p0 (line_fault n (c ∷ cs) p s) (line_fault n cs (p + wide c + 1) s) (line_on n c cs p s l o m b) (row_end n s cs0 p0 cs (p + wide c + 1) (next a m o b)))
    (λ (b : get_or s (p + wide c) 0 ≡ end_of cs → ⊥). wrong_at (bar a m o b) (line_bar n c cs p s l o m b))
    (same (get_or s (p + wide c) 0) (end_of cs)))
    (λ (m : length s ≤ p + wide c). cut_short (behind a (omega arith) o) (line_ends n c cs p s l o m))
    (less (p + wide c) (length s)))
    (λ (o : column_ok c (take (wide c) (drop p s)) ≡ false). wrong_at (column a l o) (line_wrong n c cs p s l o))
    (two (column_ok c (take (wide c) (drop p s)))))
    (less (length s) (p + wide c))
  where
    over : (m : ℕ) (t : List ℕ) (es : List Column) (i : ℕ) (x y : Paper) → x ≡ y → RowEnd m t es i y → RowEnd m t es i x
    over m t es i x y e (passed b f) = passed b (e ∙ f)
    over m t es i x y e (wrong_at w f) = wrong_at w (e ∙ f)
    over m t es i x y e (cut_short w f) = cut_short w (e ∙ f)

module _ (s : List ℕ) (few : length s ≤ 65536) where
  trailer_end : (k p : ℕ) → Walked s k p → type_at p s ≡ 5 → Finding s (trailer_fault k p s)
  trailer_end k p w t = by (marks_end s (p + 7) marks (p + 7) start)
    where
      by : MarksEnd s (p + 7) (tail_fault marks (p + 7) s) → Finding s (trailer_fault k p s)
      by (wrong_at {q = q} a l o e) = rw (trailer_wrong k p 45 q s (λ z. omega arith) (then_fault (tail_fault marks (p + 7) s) (left_over s) 45 q e (λ z. omega arith))) (mark_wrong few w t a l o)
      by (cut_short a l e) = rw (trailer_wrong k p 40 (length s) s (λ z. omega arith) (then_fault (tail_fault marks (p + 7) s) (left_over s) 40 (length s) e (λ z. omega arith))) (trailer_cut few w t a l)
      by (passed {e = q} a e) =
          ⊎_elim (λ (l : q < length s). rw (trailer_wrong k p 40 q s (λ z. omega arith) (then_fine (tail_fault marks (p + 7) s) (left_over s) q e ∙ left_some s q l)) (left_over_lem few w t a l))
          (λ (l : length s ≤ q).
          let h : Whole s k p = record { few = few; walked = w; trailer = t; tail = q; marked = a; nothing_left = l } in
          let f : trailer_fault k p s ≡ closing k p s = trailer_fine k p q s (then_fine (tail_fault marks (p + 7) s) (left_over s) q e ∙ left_none s q l) in
          ⊎_elim (λ (c : count_ok k s ≡ true).
          ⊎_elim (λ (d : sum_ok p s ≡ true). rw (f ∙ close_fine k p s c d) (sound h c d)) (λ (d : sum_ok p s ≡ false). rw (f ∙ close_sum k p s c d) (sum_wrong h c d)) (two (sum_ok p s)))
          (λ (c : count_ok k s ≡ false). rw (f ∙ close_count k p s c) (count_wrong h c))
          (two (count_ok k s)))
          (less q (length s))

  lines_end : (f k p : ℕ) → Walked s k p → p ≤ length s → length s < f + p → Finding s (lines_fault f k p s)
  lines_end zero k p w i h = absurd (omega arith)
  lines_end (suc f) k p w i h =
      ⊎_elim (λ (a : type_at p s ≡ 5). rw (lines_trailer (suc f) k p s (omega arith) a) (trailer_end k p w a))
      (λ (a : type_at p s ≡ 5 → ⊥).
      ⊎_elim (λ (b : type_at p s ≡ 6). rw (lines_cut (suc f) k p s (omega arith) b) (type_cut few w b))
      (λ (b : type_at p s ≡ 6 → ⊥).
      ⊎_elim (λ (c : type_at p s ≡ 0). rw (lines_type (suc f) k p s (omega arith) c) (type_wrong few w c))
      (λ (c : type_at p s ≡ 0 → ⊥).
      let z : suc f - 1 ≡ f = omega arith in
      let u : lines_fault (suc f) k p s ≡ and_then (line_fault 43 (layout_of (type_at p s)) p s) (λ (e : ℕ). lines_fault f (k + 1) e s) = rw z at (lines_line (suc f) k p s (omega arith) a b c) in
      by f k p w i h u (is_line_holds (type_at p s) (type_most p s) a b c) (λ (q : ℕ). λ (v : Walked s (k + 1) q). λ (l : q ≤ length s). λ (e : length s < f + q). lines_end f (k + 1) q v l e) (row_end 43 s (layout_of (type_at p s)) p (layout_of (type_at p s)) p start))
      (same (type_at p s) 0))
      (same (type_at p s) 6))
      (same (type_at p s) 5)
    where
      by : (f k p : ℕ) → Walked s k p → p ≤ length s → length s < suc f + p → lines_fault (suc f) k p s ≡ and_then (line_fault 43 (layout_of (type_at p s)) p s) (λ (e : ℕ). lines_fault f (k + 1) e s) → is_line (type_at p s) ≡ true
          → ((q : ℕ) → Walked s (k + 1) q → q ≤ length s → length s < f + q → Finding s (lines_fault f (k + 1) q s)) → RowEnd 43 s (layout_of (type_at p s)) p (line_fault 43 (layout_of (type_at p s)) p s) → Finding s (lines_fault (suc f) k p s)
      by f k p w i h u t g (wrong_at {q = q} x e) = rw (u ∙ then_fault (line_fault 43 (layout_of (type_at p s)) p s) (λ (y : ℕ). lines_fault f (k + 1) y s) 43 q e (λ z. omega arith)) (column_wrong few w t x)
      by f k p w i h u t g (cut_short x e) = rw (u ∙ then_fault (line_fault 43 (layout_of (type_at p s)) p s) (λ (y : ℕ). lines_fault f (k + 1) y s) 40 (length s) e (λ z. omega arith)) (line_cut_short few w t x)
      by f k p w i h u t g (passed {e = q} x e) =
          let l = line_long 43 (layout_of (type_at p s)) p q s (λ z. omega arith) i e in
          rw (u ∙ then_fine (line_fault 43 (layout_of (type_at p s)) p s) (λ (y : ℕ). lines_fault f (k + 1) y s) q e) (g q (line w t x) l.1 (omega (arith, l.0, layout_some (type_at p s))))

pub found : (s : List ℕ) → Finding s (fault_of s)
found s =
    ⊎_elim (λ (l : 65536 < length s). rw (file_large s l) (large l)) (λ (l : length s ≤ 65536). by l (row_end 41 s header 0 header 0 start)) (less 65536 (length s))
  where
    by : length s ≤ 65536 → RowEnd 41 s header 0 (line_fault 41 header 0 s) → Finding s (fault_of s)
    by l (wrong_at {q = q} x e) = rw (file_header s 41 q l (λ z. omega arith) e) (header_wrong l x)
    by l (cut_short x e) = rw (file_header s 40 (length s) l (λ z. omega arith) e) (header_cut l x)
    by l (passed {e = q} x e) = let g = line_long 41 header 0 q s (λ z. omega arith) (omega arith) e in rw (file_lines s q l e) (lines_end s l (length s + 1) 0 q (head x) g.1 (omega arith))

-- AND SUCH AN END IS WHAT IT ANSWERS

pub at_is : (n : ℕ) {s : List ℕ} {cs0 : List Column} {p0 : ℕ} {cs : List Column} {p : ℕ} → At s cs0 p0 cs p → line_fault n cs0 p0 s ≡ line_fault n cs p s
at_is n start = refl
at_is n {s} (next {c = c} {cs = cs} {p = p} a m o b) = at_is n a ∙ line_on n c cs p s (omega arith) o m b

wrong_is : (n : ℕ) {s : List ℕ} {cs0 : List Column} {p0 q : ℕ} → Wrong s cs0 p0 q → line_fault n cs0 p0 s ≡ fault n q
wrong_is n {s} (column {c = c} {cs = cs} {p = p} a l o) = at_is n a ∙ line_wrong n c cs p s l o
wrong_is n {s} (bar {c = c} {cs = cs} {p = p} a m o b) = at_is n a ∙ line_bar n c cs p s (omega arith) o m b

cut_is : (n : ℕ) {s : List ℕ} {cs0 : List Column} {p0 : ℕ} → Cut s cs0 p0 → line_fault n cs0 p0 s ≡ fault 40 (length s)
cut_is n {s} (within {c = c} {cs = cs} {p = p} a l) = at_is n a ∙ line_cut n c cs p s l
cut_is n {s} (behind {c = c} {cs = cs} {p = p} a e o) = at_is n a ∙ line_ends n c cs p s (omega arith) o (omega arith)

at_fine : (n : ℕ) {s : List ℕ} {cs0 : List Column} {p0 e : ℕ} → At s cs0 p0 [] e → line_fault n cs0 p0 s ≡ fine e
unfolding line_fault
at_fine n a = at_is n a

marks_is : {s : List ℕ} {p0 : ℕ} {ms : List ℕ} {p : ℕ} → MarksAt s p0 ms p → tail_fault marks p0 s ≡ tail_fault ms p s
marks_is start = refl
marks_is {s} (next {m = m} {ms = ms} {p = p} a l o) = marks_is a ∙ tail_on m ms p s l o

marks_fine : {s : List ℕ} {p0 e : ℕ} → MarksAt s p0 [] e → tail_fault marks p0 s ≡ fine e
unfolding tail_fault
marks_fine a = marks_is a

pub walked_is : {s : List ℕ} {k p : ℕ} → length s ≤ 65536 → Walked s k p → From s k p
walked_is {s} l (head {e = e} a) =
    let x = at_fine 41 a in
    let g = line_long 41 header 0 e s (λ z. omega arith) (omega arith) x in
    record { fuel = length s + 1; enough = omega arith; inside = g.1; same_answer = file_lines s e l x }
walked_is {s} l (line {k = k} {p = p} {e = e} w t a) =
    let f = walked_is l w in
    let x = at_fine 43 a in
    let g = line_long 43 (layout_of (type_at p s)) p e s (λ z. omega arith) f.inside x in
    record { fuel = f.fuel - 1; enough = omega (arith, f.enough, f.inside, g.0, layout_some (type_at p s)); inside = g.1; same_answer = line_from f t ∙ then_fine (line_fault 43 (layout_of (type_at p s)) p s) (λ (y : ℕ). lines_fault (f.fuel - 1) (k + 1) y s) e x }

trailer_from : {s : List ℕ} {k p : ℕ} → From s k p → type_at p s ≡ 5 → fault_of s ≡ trailer_fault k p s
trailer_from {s} {k} {p} f t = f.same_answer ∙ lines_trailer f.fuel k p s (omega (arith, f.enough, f.inside)) t

whole_is : {s : List ℕ} {k p : ℕ} → Whole s k p → fault_of s ≡ closing k p s
whole_is {s} {k} {p} h = trailer_from (walked_is h.few h.walked) h.trailer ∙ trailer_fine k p h.tail s (then_fine (tail_fault marks (p + 7) s) (left_over s) h.tail (marks_fine h.marked) ∙ left_none s h.tail h.nothing_left)

pub answers : {s : List ℕ} {p : Paper} → Finding s p → fault_of s ≡ p
unfolding tail_fault
answers {s} (large l) = file_large s l
answers {s} (header_wrong {q = q} l w) = file_header s 41 q l (λ z. omega arith) (wrong_is 41 w)
answers {s} (header_cut l w) = file_header s 40 (length s) l (λ z. omega arith) (cut_is 41 w)
answers {s} (type_wrong {k = k} {p = p} l w t) = let f = walked_is l w in f.same_answer ∙ lines_type f.fuel k p s (omega (arith, f.enough, f.inside)) t
answers {s} (type_cut {k = k} {p = p} l w t) = let f = walked_is l w in f.same_answer ∙ lines_cut f.fuel k p s (omega (arith, f.enough, f.inside)) t
answers {s} (column_wrong {k = k} {p = p} {q = q} l w t x) = let f = walked_is l w in line_from f t ∙ then_fault (line_fault 43 (layout_of (type_at p s)) p s) (λ (y : ℕ). lines_fault (f.fuel - 1) (k + 1) y s) 43 q (wrong_is 43 x) (λ z. omega arith)
answers {s} (line_cut_short {k = k} {p = p} l w t x) = let f = walked_is l w in line_from f t ∙ then_fault (line_fault 43 (layout_of (type_at p s)) p s) (λ (y : ℕ). lines_fault (f.fuel - 1) (k + 1) y s) 40 (length s) (cut_is 43 x) (λ z. omega arith)
answers {s} (mark_wrong {k = k} {p = p} {m = m} {ms = ms} {q = q} l w t a i o) =
    trailer_from (walked_is l w) t ∙ trailer_wrong k p 45 q s (λ z. omega arith) (then_fault (tail_fault marks (p + 7) s) (left_over s) 45 q (marks_is a ∙ tail_wrong m ms q s i o) (λ z. omega arith))
answers {s} (trailer_cut {k = k} {p = p} {m = m} {ms = ms} {q = q} l w t a i) =
    trailer_from (walked_is l w) t ∙ trailer_wrong k p 40 (length s) s (λ z. omega arith) (then_fault (tail_fault marks (p + 7) s) (left_over s) 40 (length s) (marks_is a ∙ tail_cut m ms q s i) (λ z. omega arith))
answers {s} (left_over_lem {k = k} {p = p} {q = q} l w t a i) =
    trailer_from (walked_is l w) t ∙ trailer_wrong k p 40 q s (λ z. omega arith) (then_fine (tail_fault marks (p + 7) s) (left_over s) q (marks_fine a) ∙ left_some s q i)
answers {s} (count_wrong {k = k} {p = p} h c) = whole_is h ∙ close_count k p s c
answers {s} (sum_wrong {k = k} {p = p} h c d) = whole_is h ∙ close_sum k p s c d
answers {s} (sound {k = k} {p = p} h c d) = whole_is h ∙ close_fine k p s c d

-- each answer exactly when its end is there
pub given_exactly : (s : List ℕ) (p : Paper) → (fault_of s ≡ p) ↔ Finding s p
given_exactly s p = (λ e. rw e at (found s), λ d. answers d)
