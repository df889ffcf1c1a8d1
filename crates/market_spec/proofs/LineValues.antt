-- A line of values, by the law of each column: induction over the columns, whatever the layout.
use Rattle.std.specs.Prelude.{ℕ, ◌+◌, ◌<◌, ◌≤◌, ◌≡◌, refl, true, false, List, [], ◌∷◌, ◌++◌, length, get_or, take, drop}
use Rattle.std.proofs.Common.{sym, ap, ◌∙◌, ⊎_elim, append_assoc, add-one, add-zero, add_assoc, arith, length-append, length-drop, take-append-drop, drop-cons, drop-drop, get_or-drop}
use Rattle.std.proofs.lemmas.List.{get_or_at}
use Rattle.terms.specs.Paper.{Paper}
use Rattle.terms.specs.Cases.{two, less, same, clash}
use Rattle.market_columns.specs.Pieces.{column_length}
use Rattle.market_columns.specs.Columns.{Column, wide, column_ok}
use Rattle.market_columns.specs.Tables.{length_of}
use Rattle.market_spec.specs.File.{fault, fine, place_of, end_of, line_fault}
use Rattle.market_columns.specs.Values.{Value, text_of}
use Rattle.market_columns.proofs.Values.{column_reads, column_writes}
use Rattle.market_spec.proofs.Lines.{line_on, line_wrong, line_bar, line_cut, line_ends}
use Rattle.market_spec.specs.LineValues.{Passed, line_fits, line_text, line_values, LineBack, joint, after, front, line_fits_both}

not_fine : (n q e : ℕ) → (n ≡ 0 → ⊥) → fault n q ≡ fine e → ⊥
not_fine n q e h p = h (ap (λ (x : Paper). x.number) p)

pub line_passed : (n : ℕ) (c : Column) (cs : List Column) (at e : ℕ) (s : List ℕ) → (n ≡ 0 → ⊥) → line_fault n (c ∷ cs) at s ≡ fine e → Passed n c cs at e s
line_passed n c cs at e s z p =
    ⊎_elim (λ (l : length s < at + wide c). absurd (not_fine 40 (length s) e (λ q. omega arith) (sym (line_cut n c cs at s l) ∙ p)))
    (λ (l : at + wide c ≤ length s).
    ⊎_elim (λ (o : column_ok c (take (wide c) (drop at s)) ≡ true).
    ⊎_elim (λ (m : at + wide c < length s).
    ⊎_elim (λ (b : get_or s (at + wide c) 0 ≡ end_of cs). record { room = m; right = o; bar = b; onward = sym (line_on n c cs at s l o m b) ∙ p })
    (λ (b : get_or s (at + wide c) 0 ≡ end_of cs → ⊥). absurd (not_fine n (at + wide c) e z (sym (line_bar n c cs at s l o m b) ∙ p)))
    (same (get_or s (at + wide c) 0) (end_of cs)))
    (λ (m : length s ≤ at + wide c). absurd (not_fine 40 (length s) e (λ q. omega arith) (sym (line_ends n c cs at s l o m) ∙ p)))
    (less (at + wide c) (length s)))
    (λ (o : column_ok c (take (wide c) (drop at s)) ≡ false). absurd (not_fine n at e z (sym (line_wrong n c cs at s l o) ∙ p)))
    (two (column_ok c (take (wide c) (drop at s)))))
    (less (length s) (at + wide c))

pub line_reads : (n : ℕ) (cs : List Column) (at e : ℕ) (s : List ℕ) → (n ≡ 0 → ⊥) → line_fault n cs at s ≡ fine e → LineBack cs (drop at s) (drop e s)
unfolding line_fault line_text line_values line_fits
line_reads n [] at e s z p = let q : at ≡ e = ap place_of p in record { same_bytes = rw q; fitting = refl }
line_reads n (c ∷ cs) at e s z p =
    let q = line_passed n c cs at e s z p in
    let b = column_reads c (take (wide c) (drop at s)) (column_length s at (wide c) (omega (arith, q.room))) q.right in
    let r = line_reads n cs (at + wide c + 1) e s z q.onward in
    let d : drop (wide c + 1) (drop at s) ≡ drop (at + wide c + 1) s = drop-drop (wide c + 1) at s ∙ ap (λ (i : ℕ). drop i s) (sym (add_assoc at (wide c) 1)) in
    let t : end_of cs ∷ drop (at + wide c + 1) s ≡ drop (wide c) (drop at s)
    = sym (drop-drop (wide c) at s ∙ drop-cons s (at + wide c) 0 q.room ∙ rw (q.bar, add-one (at + wide c))) in
    record {
      same_bytes = rw (b.same_bytes, d) (append_assoc (take (wide c) (drop at s)) (end_of cs ∷ line_text cs (line_values cs (drop (at + wide c + 1) s))) (drop e s) ∙ rw (r.same_bytes, t) (take-append-drop (wide c) (drop at s)));
      fitting = rw (b.fitting, d) r.fitting;
    }

-- THE BYTES OF FITTING VALUES

-- a text x, a byte b, then y and what follows
module _ (x y r : List ℕ) (b w : ℕ) (l : length x ≡ w) where
  byte : get_or ((x ++ (b ∷ y)) ++ r) w 0 ≡ b
  byte = rw (joint x y r b w l) (get_or_at x b (y ++ r) 0 w l)

  more : w + 1 ≤ length ((x ++ (b ∷ y)) ++ r)
  more = rw (joint x y r b w l, length-append x (b ∷ (y ++ r)), l) (omega arith)

-- nothing is wrong with them, wherever they stand
pub line_writes : (n : ℕ) (cs : List Column) (vs : List Value) (at : ℕ) (s r : List ℕ) → line_fits cs vs ≡ true → at ≤ length s → drop at s ≡ line_text cs vs ++ r → (line_fault n cs at s ≡ fine (at + length_of cs)) × (drop (at + length_of cs) s ≡ r)
unfolding line_fault line_text line_fits
line_writes n [] [] at s r f h e = rw (add-zero at) (refl, e)
line_writes n [] (v ∷ vs) at s r f h e = absurd (clash f refl)
line_writes n (c ∷ cs) [] at s r f h e = absurd (clash f refl)
line_writes n (c ∷ cs) (v ∷ vs) at s r f h e =
    let p = line_fits_both c cs v vs f in
    let g = column_writes c v p.0 in
    let m = rw (← e, length-drop) at (more (text_of c v) (line_text cs vs) r (end_of cs) (wide c) g.long) in
    let x : take (wide c) (drop at s) ≡ text_of c v = rw e (front (text_of c v) (line_text cs vs) r (end_of cs) (wide c) g.long) in
    let b : get_or s (at + wide c) 0 ≡ end_of cs = sym (get_or-drop at s (wide c) 0) ∙ rw e (byte (text_of c v) (line_text cs vs) r (end_of cs) (wide c) g.long) in
    let d : drop (at + wide c + 1) s ≡ line_text cs vs ++ r = ap (λ (i : ℕ). drop i s) (add_assoc at (wide c) 1) ∙ sym (drop-drop (wide c + 1) at s) ∙ rw e (after (text_of c v) (line_text cs vs) r (end_of cs) (wide c) g.long) in
    let q = line_writes n cs vs (at + wide c + 1) s r p.1 (omega (arith, m)) d in
    let k : at + wide c + 1 + length_of cs ≡ at + (wide c + 1 + length_of cs) = omega arith in
    (line_on n c cs at s (omega (arith, m)) (rw x g.right) (omega (arith, m)) b ∙ rw (← k) q.0, rw (← k) q.1)
