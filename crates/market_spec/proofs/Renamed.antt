-- CR 10, "Columns are counted, never split at bars": two files that differ in the bytes of names
-- alone have the same answer, whatever bars
-- and newlines the names hold, unless one of the two is 46.
use Rattle.std.specs.Prelude.{ℕ, zero, suc, ◌+◌, ◌-◌, ◌<◌, ◌≤◌, ◌≡◌, refl, true, false, eqb, length}
use Rattle.std.proofs.Math.Path.{sym, ap}
use Rattle.std.proofs.Common.{◌∙◌, inl, inr, ⊎_elim, add-zero, add_assoc, lit≤, take-take, get_or-take}
use mathlib.Core.List.{List, [], ◌∷◌}
use native.Mathlib.Omega.{arith}
use Rattle.std.proofs.Math.ListN.{get_or, take, drop}
use Rattle.std.proofs.Math.Seq.{drop-drop, get_or-drop}
use Rattle.terms.specs.Paper.{Paper}
use Rattle.terms.specs.Cases.{two, less, same}
use Rattle.market_columns.specs.Numbers.{number_at}
use Rattle.market_columns.specs.Pieces.{take_drop}
use Rattle.market_columns.specs.Columns.{Column, K, C, U, header, md401, md404, md405, md406, wide, alike, column_ok}
use Rattle.market_columns.specs.Tables.{length_of}
use Rattle.market_spec.specs.File.{fault, fine, and_then, line_fault, word_of, begins_at, type_at, layout_of, marks, tail_fault, left_over, count_ok, sum_ok, closing, trailer_fault, lines_fault, fault_of}
use Rattle.market_spec.specs.LinesValues.{is_line, is_line_holds, type_drop}
use Rattle.market_spec.specs.Files.{each_layout, then_fine, then_fault, lines_trailer, lines_cut, lines_type, lines_line, close_sum, close_fine}
use Rattle.market_spec.specs.Types.{file_large, file_header, file_lines, type_most}
use Rattle.market_spec.specs.Told.{Told, at_place, refused}
use Rattle.market_spec.specs.Walk.{line_not}
use Rattle.market_spec.proofs.Files.{close_count, line_long}
use Rattle.market_spec.proofs.Told.{line_told}
use Rattle.market_spec.specs.Renamed.{Agree, ButNames, Step, alike_all, but_name, But46, Renamed}

row_agree : (n : ℕ) (cs : List Column) (p : ℕ) (s t : List ℕ) → length s ≡ length t → Agree cs (drop p s) (drop p t) → line_fault n cs p s ≡ line_fault n cs p t
unfolding line_fault
row_agree n [] p s t l a = refl
row_agree n (c ∷ cs) p s t l a =
    let z : p + (wide c + 1) ≡ p + wide c + 1 = sym (add_assoc p (wide c) 1) in
    let d : drop (wide c + 1) (drop p s) ≡ drop (p + wide c + 1) s = drop-drop (wide c + 1) p s ∙ ap (λ (i : ℕ). drop i s) z in
    let e : drop (wide c + 1) (drop p t) ≡ drop (p + wide c + 1) t = drop-drop (wide c + 1) p t ∙ ap (λ (i : ℕ). drop i t) z in
    let b : get_or s (p + wide c) 0 ≡ get_or t (p + wide c) 0 = sym (get_or-drop p s (wide c) 0) ∙ a.1.0 ∙ get_or-drop p t (wide c) 0 in
    let r = row_agree n cs (p + wide c + 1) s t l (rw (d, e) at a.1.1) in
    rw (l, a.0, b, r)

-- PARTS OF BYTES THAT BEGIN ALIKE

module _ (n : ℕ) (x y : List ℕ) (e : take n x ≡ take n y) where
  part : (a w : ℕ) → a + w ≤ n → take w (drop a x) ≡ take w (drop a y)
  part a w h =
      let f : (z : List ℕ) → take w (drop a z) ≡ take w (drop a (take n z)) = λ z. sym (ap (take w) (sym (take_drop a n z (omega arith))) ∙ take-take w (n - a) (drop a z) (omega arith)) in
      f x ∙ ap (λ (z : List ℕ). take w (drop a z)) e ∙ sym (f y)

  byte : (a i : ℕ) → a + i < n → get_or (drop a x) i 0 ≡ get_or (drop a y) i 0
  byte a i h =
      get_or-drop a x i 0 ∙ sym (get_or-take n x (a + i) 0 h) ∙ ap (λ (z : List ℕ). get_or z (a + i) 0) e ∙ get_or-take n y (a + i) 0 h ∙ sym (get_or-drop a y i 0)

agree_same : (cs : List Column) (x y : List ℕ) → take (length_of cs) x ≡ take (length_of cs) y → Agree cs x y
agree_same [] x y e = tt
agree_same (c ∷ cs) x y e = (
  ap (column_ok c) (part (wide c + 1 + length_of cs) x y e 0 (wide c) (omega arith)),
  (byte (wide c + 1 + length_of cs) x y e 0 (wide c) (omega arith), agree_same cs (drop (wide c + 1) x) (drop (wide c + 1) y) (part (wide c + 1 + length_of cs) x y e (wide c + 1) (length_of cs) (omega arith))),
)

-- a line: its word, the code, a name that may differ, and the rest
module _ (a b c d e : ℕ) (cs : List Column) (x y : List ℕ) where
  abbrev layout : List Column
  layout = K (a ∷ b ∷ c ∷ d ∷ e ∷ []) ∷ C 5 ∷ U 32 ∷ cs

  agree_line : take 12 x ≡ take 12 y → drop 44 (take (length_of layout) x) ≡ drop 44 (take (length_of layout) y) → Agree layout x y
  unfolding column_ok
  agree_line f g =
      let n = length_of layout in
      let h : (z : List ℕ) → take (1 + length_of cs) (drop 44 z) ≡ drop 44 (take n z) = λ z. let q : n - 44 ≡ 1 + length_of cs = omega arith in rw q at (take_drop 44 n z (omega arith)) in
      let k : take (1 + length_of cs) (drop 44 x) ≡ take (1 + length_of cs) (drop 44 y) = h x ∙ g ∙ sym (h y) in
      let p12 : (z : List ℕ) → drop 6 (drop 6 z) ≡ drop 12 z = λ z. drop-drop 6 6 z in
      let p45 : (z : List ℕ) → drop 33 (drop 6 (drop 6 z)) ≡ drop 45 z = λ z. ap (drop 33) (p12 z) ∙ drop-drop 33 12 z in
      let q45 : (z : List ℕ) → drop 1 (drop 44 z) ≡ drop 45 z = λ z. drop-drop 1 44 z in
      let bar : get_or (drop 6 (drop 6 x)) 32 0 ≡ get_or (drop 6 (drop 6 y)) 32 0
      = ap (λ (z : List ℕ). get_or z 32 0) (p12 x) ∙ get_or-drop 12 x 32 0 ∙ sym (get_or-drop 44 x 0 0) ∙ byte (1 + length_of cs) (drop 44 x) (drop 44 y) k 0 0 (omega arith) ∙ get_or-drop 44 y 0 0 ∙ sym (ap (λ (z : List ℕ). get_or z 32 0) (p12 y) ∙ get_or-drop 12 y 32 0) in
      let rest : take (length_of cs) (drop 33 (drop 6 (drop 6 x))) ≡ take (length_of cs) (drop 33 (drop 6 (drop 6 y)))
      = ap (take (length_of cs)) (p45 x ∙ sym (q45 x)) ∙ part (1 + length_of cs) (drop 44 x) (drop 44 y) k 1 (length_of cs) (omega arith) ∙ ap (take (length_of cs)) (q45 y ∙ sym (p45 y)) in (
        ap (alike (a ∷ b ∷ c ∷ d ∷ e ∷ [])) (part 12 x y f 0 5 (lit≤ tt)),
        (byte 12 x y f 0 5 (lit≤ tt), (ap (column_ok (C 5)) (part 12 x y f 6 5 (lit≤ tt)), (byte 12 x y f 6 5 (lit≤ tt), (refl, (bar, agree_same cs (drop 33 (drop 6 (drop 6 x))) (drop 33 (drop 6 (drop 6 y))) rest))))),
      )

agree_layout : (t : ℕ) (x y : List ℕ) → take 12 x ≡ take 12 y → drop 44 (take (length_of (layout_of t)) x) ≡ drop 44 (take (length_of (layout_of t)) y) → Agree (layout_of t) x y
agree_layout t x y f =
    each_layout (λ cs. drop 44 (take (length_of cs) x) ≡ drop 44 (take (length_of cs) y) → Agree cs x y) (agree_line 77 68 52 48 49 (drop 3 md401) x y f) (agree_line 77 68 52 48 52 (drop 3 md404) x y f) (agree_line 77 68 52 48 53 (drop 3 md405) x y f) (agree_line 77 68 52 48 54 (drop 3 md406) x y f) t

-- THE WORD AT A LINE'S START

begins_front : (word x y : List ℕ) → length word ≤ 12 → take 12 x ≡ take 12 y → begins_at word 0 x ≡ begins_at word 0 y
unfolding begins_at
begins_front word x y h e = let p : take (length word) (drop 0 x) ≡ take (length word) (drop 0 y) = part 12 x y e 0 (length word) (omega arith) in rw p

type_front : (x y : List ℕ) → take 12 x ≡ take 12 y → type_at 0 x ≡ type_at 0 y
unfolding type_at
type_front x y e = rw (begins_front (word_of 0 5) x y (lit≤ tt) e, begins_front (word_of 5 5) x y (lit≤ tt) e, begins_front (word_of 10 5) x y (lit≤ tt) e, begins_front (word_of 15 5) x y (lit≤ tt) e, begins_front (word_of 20 7) x y (lit≤ tt) e)

step : (x y : List ℕ) → ButNames x y → Step x y
step x _ alike_all = record { type_same = refl; rows_agree = λ h. agree_same (layout_of (type_at 0 x)) x x refl; onward = λ h. alike_all; trailer_same = λ h. refl }
step x y (but_name t f g r) =
    record {
      type_same = type_front x y f;
      rows_agree = λ h. agree_layout (type_at 0 x) x y f g;
      onward = λ h. r;
      trailer_same = λ h. absurd ((line_not (type_at 0 x) t).0 h);
    }

tail_agree : (ms : List ℕ) (p : ℕ) (s t : List ℕ) → length s ≡ length t → drop p s ≡ drop p t → tail_fault ms p s ≡ tail_fault ms p t
unfolding tail_fault
tail_agree [] p s t l e = refl
tail_agree (m ∷ ms) p s t l e =
    let z : p + 0 ≡ p = add-zero p in
    let b : get_or s p 0 ≡ get_or t p 0 = rw z at (sym (get_or-drop p s 0 0) ∙ ap (λ (x : List ℕ). get_or x 0 0) e ∙ get_or-drop p t 0 0) in
    let d : drop (p + 1) s ≡ drop (p + 1) t = sym (drop-drop 1 p s) ∙ ap (drop 1) e ∙ drop-drop 1 p t in
    rw (l, b, tail_agree ms (p + 1) s t l d)

closing_agree : (k p : ℕ) (s t : List ℕ) → count_ok k s ≡ count_ok k t → But46 (closing k p s) (closing k p t)
closing_agree k p s t c =
    ⊎_elim (λ (a : count_ok k t ≡ true).
    ⊎_elim (λ (b : sum_ok p s ≡ true).
    ⊎_elim (λ (d : sum_ok p t ≡ true). inl (close_fine k p s (c ∙ a) b ∙ sym (close_fine k p t a d))) (λ (d : sum_ok p t ≡ false). inr (inr (ap (λ (x : Paper). x.number) (close_sum k p t a d)))) (two (sum_ok p t)))
    (λ (b : sum_ok p s ≡ false). inr (inl (ap (λ (x : Paper). x.number) (close_sum k p s (c ∙ a) b))))
    (two (sum_ok p s)))
    (λ (a : count_ok k t ≡ false). inl (close_count k p s (c ∙ a) ∙ sym (close_count k p t a)))
    (two (count_ok k t))

trailer_agree : (k p : ℕ) (s t : List ℕ) → length s ≡ length t → count_ok k s ≡ count_ok k t → drop p s ≡ drop p t → But46 (trailer_fault k p s) (trailer_fault k p t)
unfolding trailer_fault
trailer_agree k p s t l c e =
    let d : drop (p + 7) s ≡ drop (p + 7) t = sym (drop-drop 7 p s) ∙ ap (drop 7) e ∙ drop-drop 7 p t in
    let h : and_then (tail_fault marks (p + 7) s) (left_over s) ≡ and_then (tail_fault marks (p + 7) t) (left_over t) = rw (tail_agree marks (p + 7) s t l d, l) in
    ⊎_elim (λ (a : eqb (and_then (tail_fault marks (p + 7) t) (left_over t)).number 0 ≡ true). rw (h, a) (closing_agree k p s t c)) (λ (a : eqb (and_then (tail_fault marks (p + 7) t) (left_over t)).number 0 ≡ false). rw (h, a) (inl refl)) (two (eqb (and_then (tail_fault marks (p + 7) t) (left_over t)).number 0))

-- ALL LINES

both_are : {p p' q q' : Paper} → p ≡ p' → q ≡ q' → But46 p' q' → But46 p q
both_are e f b = rw (e, f) b

then_agree : (p : Paper) (f g : ℕ → Paper) → Told p → ((q : ℕ) → p ≡ fine q → But46 (f q) (g q)) → But46 (and_then p f) (and_then p g)
then_agree p f g (at_place q x) h = both_are (then_fine p f q x) (then_fine p g q x) (h q x)
then_agree p f g (refused m q z x) h = inl (then_fault p f m q x z ∙ sym (then_fault p g m q x z))

lines_agree : (f k p : ℕ) (s t : List ℕ) → length s ≡ length t → ((n : ℕ) → count_ok n s ≡ count_ok n t) → p ≤ length s → ButNames (drop p s) (drop p t) → But46 (lines_fault f k p s) (lines_fault f k p t)
unfolding lines_fault
lines_agree zero k p s t l c i b = inl (ap (λ (n : ℕ). fault 40 n) l)
lines_agree (suc f) k p s t l c i b =
    let w = step (drop p s) (drop p t) b in
    let u : type_at p t ≡ type_at p s = type_drop p t ∙ sym w.type_same ∙ sym (type_drop p s) in
    ⊎_elim (λ (a : type_at p s ≡ 5). both_are (lines_trailer (suc f) k p s (omega arith) a) (lines_trailer (suc f) k p t (omega arith) (u ∙ a)) (trailer_agree k p s t l (c k) (w.trailer_same (sym (type_drop p s) ∙ a))))
    (λ (a : type_at p s ≡ 5 → ⊥).
    ⊎_elim (λ (d : type_at p s ≡ 6). inl (lines_cut (suc f) k p s (omega arith) d ∙ ap (λ (n : ℕ). fault 40 n) l ∙ sym (lines_cut (suc f) k p t (omega arith) (u ∙ d))))
    (λ (d : type_at p s ≡ 6 → ⊥).
    ⊎_elim (λ (e : type_at p s ≡ 0). inl (lines_type (suc f) k p s (omega arith) e ∙ sym (lines_type (suc f) k p t (omega arith) (u ∙ e))))
    (λ (e : type_at p s ≡ 0 → ⊥).
    let z : suc f - 1 ≡ f = omega arith in
    let v = is_line_holds (type_at p s) (type_most p s) a d e in
    let v0 : is_line (type_at 0 (drop p s)) ≡ true = rw (← type_drop p s) v in
    let r : line_fault 43 (layout_of (type_at p s)) p s ≡ line_fault 43 (layout_of (type_at p s)) p t = row_agree 43 (layout_of (type_at p s)) p s t l (rw (← type_drop p s) at (w.rows_agree v0)) in
    let o : ButNames (drop (p + length_of (layout_of (type_at p s))) s) (drop (p + length_of (layout_of (type_at p s))) t) = rw (← type_drop p s, drop-drop, drop-drop) at (w.onward v0) in
    let x : lines_fault (suc f) k p s ≡ and_then (line_fault 43 (layout_of (type_at p s)) p s) (λ (q : ℕ). lines_fault f (k + 1) q s) = rw z at (lines_line (suc f) k p s (omega arith) a d e) in
    let y : lines_fault (suc f) k p t ≡ and_then (line_fault 43 (layout_of (type_at p s)) p s) (λ (q : ℕ). lines_fault f (k + 1) q t)
    = lines_line (suc f) k p t (omega arith) (λ q. a (sym u ∙ q)) (λ q. d (sym u ∙ q)) (λ q. e (sym u ∙ q))
    ∙ ap (λ (i : ℕ). and_then (line_fault 43 (layout_of (type_at p t)) p t) (λ (q : ℕ). lines_fault i (k + 1) q t)) z
    ∙ ap (λ (i : ℕ). and_then (line_fault 43 (layout_of i) p t) (λ (q : ℕ). lines_fault f (k + 1) q t)) u
    ∙ ap (λ (i : Paper). and_then i (λ (q : ℕ). lines_fault f (k + 1) q t)) (sym r) in
    both_are x y (then_agree (line_fault 43 (layout_of (type_at p s)) p s) (λ (q : ℕ). lines_fault f (k + 1) q s) (λ (q : ℕ). lines_fault f (k + 1) q t) (line_told 43 (layout_of (type_at p s)) p s (λ q. omega arith))
    (λ (q : ℕ). λ (h : line_fault 43 (layout_of (type_at p s)) p s ≡ fine q). let g = line_long 43 (layout_of (type_at p s)) p q s (λ n. omega arith) i h in lines_agree f (k + 1) q s t l c g.1 (rw g.0 at o))))
    (same (type_at p s) 0))
    (same (type_at p s) 6))
    (same (type_at p s) 5)

-- THE FILE

count_agree : (s t : List ℕ) → length s ≡ length t → take 82 s ≡ take 82 t → (n : ℕ) → count_ok n s ≡ count_ok n t
unfolding number_at
count_agree s t l e n = let p : take 5 (drop 27 s) ≡ take 5 (drop 27 t) = part 82 s t e 27 5 (lit≤ tt) in rw (l, p)

pub counted_not_split : (s t : List ℕ) → Renamed s t → But46 (fault_of s) (fault_of t)
counted_not_split s t r =
    ⊎_elim (λ (h : 65536 < length s). inl (file_large s h ∙ sym (file_large t (rw (← r.long) h))))
    (λ (h : length s ≤ 65536). by h (row_agree 41 header 0 s t r.long (agree_same header s t r.header_same)) (line_told 41 header 0 s (λ q. omega arith)))
    (less 65536 (length s))
  where
    by : length s ≤ 65536 → line_fault 41 header 0 s ≡ line_fault 41 header 0 t → Told (line_fault 41 header 0 s) → But46 (fault_of s) (fault_of t)
    by h e (refused m q z x) = inl (file_header s m q h z x ∙ sym (file_header t m q (rw (← r.long) h) z (sym e ∙ x)))
    by h e (at_place q x) =
        let g = line_long 41 header 0 q s (λ n. omega arith) (omega arith) x in
        let j : q ≡ 82 = sym g.0 in
        both_are (file_lines s q h x) (file_lines t q (rw (← r.long) h) (sym e ∙ x)) (rw (← r.long, j) (lines_agree (length s + 1) 0 82 s t r.long (count_agree s t r.long r.header_same) (rw j at g.1) r.lines_same))
