-- CR 10, "the lowest place first": no column, bar or newline that ends before the place told is at
-- fault.
-- Where columns stand is counted here, by the widths of 003 and the lines' types alone.
use Rattle.std.specs.Prelude.{ℕ, ◌+◌, ◌-◌, ◌<◌, ◌≤◌, ◌≡◌, true, false, List, [], ◌∷◌, length, get_or, take, drop}
use Rattle.std.proofs.Common.{sym, ap, ◌∙◌, ⊎_elim, arith, add-zero}
use Rattle.terms.specs.Cases.{two, less, same}
use Rattle.market_columns.specs.Columns.{Column, header, wide, column_ok}
use Rattle.market_columns.specs.Tables.{length_of}
use Rattle.market_spec.specs.File.{fault, place_of, end_of, line_fault, lines_fault, type_at, layout_of, fault_of}
use Rattle.market_spec.specs.Files.{then_fault}
use Rattle.market_spec.specs.Types.{file_large, file_header}
use Rattle.market_spec.specs.LinesValues.{is_line}
use Rattle.market_spec.specs.Walk.{At, start, next, Walked, head, line, From, line_from}
use Rattle.market_spec.proofs.Lines.{line_wrong, line_bar, line_ends, line_cut}
use Rattle.market_spec.proofs.Walk.{at_is, walked_is}
use Rattle.market_spec.specs.Lowest.{beyond, Counted, here, RightThere, Starts, later, first}

counted_all : {cs0 : List Column} {p0 : ℕ} (cs : List Column) (p : ℕ) → Counted cs0 p0 cs p → Counted cs0 p0 [] (p + length_of cs)
counted_all [] p a = rw (add-zero p) a
counted_all (c ∷ cs) p a = let z : p + wide c + 1 + length_of cs ≡ p + (wide c + 1 + length_of cs) = omega arith in rw (← z) (counted_all cs (p + wide c + 1) (beyond a))

counted_on : {cs0 : List Column} {p0 : ℕ} {cs : List Column} {p : ℕ} → Counted cs0 p0 cs p → p0 ≤ p
counted_on here = omega arith
counted_on (beyond a) = omega (arith, counted_on a)

-- NO FAULT BEFORE A PLACE

abbrev Clear : ℕ → List ℕ → List Column → ℕ → ℕ → Type 0
Clear n s cs0 p0 b = (m q : ℕ) → (m ≡ 0 → ⊥) → line_fault n cs0 p0 s ≡ fault m q → b ≤ q

module _ (n b : ℕ) (some : n ≡ 0 → ⊥) (s : List ℕ) (cs0 : List Column) (p0 : ℕ) (clear : Clear n s cs0 p0 b) where
  clear_right : (c : Column) (cs : List Column) (p : ℕ) → At s cs0 p0 (c ∷ cs) p → p + wide c < b → RightThere s c cs p
  clear_right c cs p a h =
      ⊎_elim (λ (l : length s < p + wide c). absurd (omega (arith, clear 40 (length s) (λ z. omega arith) (at_is n a ∙ line_cut n c cs p s l))))
      (λ (l : p + wide c ≤ length s).
      ⊎_elim (λ (o : column_ok c (take (wide c) (drop p s)) ≡ true).
      ⊎_elim (λ (m : p + wide c < length s).
      ⊎_elim (λ (e : get_or s (p + wide c) 0 ≡ end_of cs). record { inside = m; right = o; bar = e }) (λ (e : get_or s (p + wide c) 0 ≡ end_of cs → ⊥). absurd (omega (arith, clear n (p + wide c) some (at_is n a ∙ line_bar n c cs p s l o m e)))) (same (get_or s (p + wide c) 0) (end_of cs)))
      (λ (m : length s ≤ p + wide c). absurd (omega (arith, clear 40 (length s) (λ z. omega arith) (at_is n a ∙ line_ends n c cs p s l o m))))
      (less (p + wide c) (length s)))
      (λ (o : column_ok c (take (wide c) (drop p s)) ≡ false). absurd (omega (arith, clear n p some (at_is n a ∙ line_wrong n c cs p s l o))))
      (two (column_ok c (take (wide c) (drop p s)))))
      (less (length s) (p + wide c))

  clear_at : {cs : List Column} {p : ℕ} → Counted cs0 p0 cs p → p ≤ b → At s cs0 p0 cs p
  clear_at here h = start
  clear_at (beyond {c = c} {cs = cs} {p = p} a) h =
      let x = clear_at a (omega arith) in
      let r = clear_right c cs p x (omega arith) in
      next x r.inside r.right r.bar

-- A FILE WITH A FAULT AT q

module _ (s : List ℕ) (n q : ℕ) (answered : fault_of s ≡ fault n q) where
  few : 0 < q → length s ≤ 65536
  few h = ⊎_elim (λ (l : 65536 < length s). let z : q ≡ 0 = ap place_of (sym answered ∙ file_large s l) in absurd (omega arith)) (λ (l : length s ≤ 65536). l) (less 65536 (length s))

  header_clear : length s ≤ 65536 → Clear 41 s header 0 q
  header_clear l m i z e = let w : q ≡ i = ap place_of (sym answered ∙ file_header s m i l z e) in omega arith

  line_clear : {k p : ℕ} → From s k p → is_line (type_at p s) ≡ true → Clear 43 s (layout_of (type_at p s)) p q
  line_clear {k} {p} f t m i z e =
      let w : q ≡ i = ap place_of (sym answered ∙ line_from f t ∙ then_fault (line_fault 43 (layout_of (type_at p s)) p s) (λ (y : ℕ). lines_fault (f.fuel - 1) (k + 1) y s) m i e z) in
      omega arith

  -- a line that begins before the fault is come to
  come_to : length s ≤ 65536 → {p : ℕ} → Starts s p → p ≤ q → (k : ℕ) × Walked s k p
  come_to l first h = (0, head (clear_at 41 q (λ z. omega arith) s header 0 (header_clear l) (counted_all header 0 here) h))
  come_to l (later {p = p} a t) h =
      let w = come_to l a (omega arith) in
      let f = walked_is l w.1 in
      (w.0 + 1, line w.1 t (clear_at 43 q (λ z. omega arith) s (layout_of (type_at p s)) p (line_clear f t) (counted_all (layout_of (type_at p s)) p here) h))

  -- THE THEOREMS
  pub lowest_place_header : {c : Column} {cs : List Column} {p : ℕ} → Counted header 0 (c ∷ cs) p → p + wide c < q → RightThere s c cs p
  lowest_place_header {c} {cs} {p} a h =
      let l = few (omega arith) in
      clear_right 41 q (λ z. omega arith) s header 0 (header_clear l) c cs p (clear_at 41 q (λ z. omega arith) s header 0 (header_clear l) a (omega arith)) h

  pub lowest_place : {i : ℕ} {c : Column} {cs : List Column} {p : ℕ} → Starts s i → is_line (type_at i s) ≡ true → Counted (layout_of (type_at i s)) i (c ∷ cs) p → p + wide c < q → RightThere s c cs p
  lowest_place {i} {c} {cs} {p} b t a h =
      let l = few (omega arith) in
      let w = come_to l b (omega (arith, counted_on a)) in
      let f = walked_is l w.1 in
      clear_right 43 q (λ z. omega arith) s (layout_of (type_at i s)) i (line_clear f t) c cs p (clear_at 43 q (λ z. omega arith) s (layout_of (type_at i s)) i (line_clear f t) a (omega arith)) h
