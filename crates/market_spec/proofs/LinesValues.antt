-- All lines of a file as values: induction over lines, whatever their types.
use Rattle.std.specs.Prelude.{ℕ, zero, suc, ◌+◌, ◌-◌, ◌<◌, ◌≤◌, ◌≡◌, refl, true, ◌&&◌, List, [], ◌∷◌, ◌++◌, leb, length, drop}
use Rattle.std.proofs.Common.{sym, ap, ◌∙◌, ⊎_elim, append_assoc, add-zero, arith, length-append, leb-true}
use Rattle.terms.specs.Cases.{same}
use Rattle.digits.specs.Laws.{both}
use Rattle.market_columns.specs.Tables.{length_of}
use Rattle.market_spec.specs.File.{fine, and_then, line_fault, type_at, layout_of, lines_fault}
use Rattle.market_spec.specs.Files.{then_fine, lines_trailer, lines_cut, lines_type, lines_line}
use Rattle.market_spec.specs.LineValues.{line_values, line_text, line_fits, line_values_lem, line_text_long}
use Rattle.market_spec.specs.Told.{not_fine, then_both}
use Rattle.market_spec.specs.Types.{type_most}
use Rattle.market_spec.proofs.Files.{line_long}
use Rattle.market_spec.proofs.LineValues.{line_reads, line_writes}
use Rattle.market_spec.proofs.Told.{line_told}
use Rattle.market_spec.specs.LinesValues.{LinesBack, lines_fit, lines_values, is_line_holds, not_line, lines_text, Line, line_kind, text_of_line, type_drop, is_line, LinesMade}

pub lines_back : (f k at n : ℕ) (s : List ℕ) → at ≤ length s → lines_fault f k at s ≡ fine n → LinesBack k at n s (lines_values f at s)
unfolding lines_fault lines_values lines_text lines_fit
lines_back zero k at n s h p = absurd (not_fine 40 (length s) n (λ q. omega arith) p)
lines_back (suc f) k at n s h p =
    ⊎_elim (λ (a : type_at at s ≡ 5). rw (not_line (type_at at s) a) (record { place = at; inside = h; ends = a; closes = rw (add-zero k) (sym (lines_trailer (suc f) k at s (omega arith) a) ∙ p); same_bytes = refl; fitting = refl }))
    (λ (a : type_at at s ≡ 5 → ⊥).
    ⊎_elim (λ (b : type_at at s ≡ 6). absurd (not_fine 40 (length s) n (λ q. omega arith) (sym (lines_cut (suc f) k at s (omega arith) b) ∙ p)))
    (λ (b : type_at at s ≡ 6 → ⊥).
    ⊎_elim (λ (c : type_at at s ≡ 0). absurd (not_fine 42 at n (λ q. omega arith) (sym (lines_type (suc f) k at s (omega arith) c) ∙ p)))
    (λ (c : type_at at s ≡ 0 → ⊥).
    let z : suc f - 1 ≡ f = omega arith in
    let u : and_then (line_fault 43 (layout_of (type_at at s)) at s) (λ (e : ℕ). lines_fault f (k + 1) e s) ≡ fine n = rw z at (sym (lines_line (suc f) k at s (omega arith) a b c) ∙ p) in
    let t = then_both (line_fault 43 (layout_of (type_at at s)) at s) (λ (e : ℕ). lines_fault f (k + 1) e s) n (line_told 43 (layout_of (type_at at s)) at s (λ q. omega arith)) u in
    let g = line_long 43 (layout_of (type_at at s)) at t.place s (λ q. omega arith) h t.first in
    let b1 = line_reads 43 (layout_of (type_at at s)) at t.place s (λ q. omega arith) t.first in
    let r = lines_back f (k + 1) t.place n s g.1 t.second in
    let j : k + 1 + length (lines_values f t.place s) ≡ k + suc (length (lines_values f t.place s)) = omega arith in
    rw (is_line_holds (type_at at s) (type_most at s) a b c, g.0)
    (record {
      place = r.place;
      inside = r.inside;
      ends = r.ends;
      closes = rw j at r.closes;
      same_bytes = append_assoc (line_text (layout_of (type_at at s)) (line_values (layout_of (type_at at s)) (drop at s))) (lines_text (lines_values f t.place s)) (drop r.place s) ∙ rw r.same_bytes b1.same_bytes;
      fitting = rw (b1.fitting, is_line_holds (type_at at s) (type_most at s) a b c) r.fitting;
    }))
    (same (type_at at s) 0))
    (same (type_at at s) 6))
    (same (type_at at s) 5)

pub lines_made : (f k at : ℕ) (s : List ℕ) (ls : List Line) (r : List ℕ) → lines_fit ls ≡ true → at ≤ length s → drop at s ≡ lines_text ls ++ r → type_at 0 r ≡ 5 → length ls < f → LinesMade f k at s ls r
unfolding lines_values lines_text lines_fit
lines_made zero k at s ls r g h e w l = absurd (omega arith)
lines_made (suc f) k at s [] r g h e w l =
    let t : type_at at s ≡ 5 = type_drop at s ∙ ap (type_at 0) e ∙ w in
    record { answered = lines_trailer (suc f) k at s (omega arith) t ∙ rw (add-zero k, add-zero at); same_values = rw (not_line (type_at at s) t); onward = rw (add-zero at) e }
lines_made (suc f) k at s (x ∷ ls) r g h e w l =
    let p = both (is_line x.kind && line_fits (layout_of x.kind) x.values) (lines_fit ls) g in
    let q = both (is_line x.kind) (line_fits (layout_of x.kind) x.values) p.0 in
    let i = both (leb 1 x.kind) (leb x.kind 4) q.0 in
    let e1 : drop at s ≡ text_of_line x ++ (lines_text ls ++ r) = e ∙ append_assoc (text_of_line x) (lines_text ls) r in
    let t : type_at at s ≡ x.kind = type_drop at s ∙ ap (type_at 0) e1 ∙ line_kind x.kind x.values (lines_text ls ++ r) q.0 q.1 in
    let lo = leb-true 1 x.kind i.0 in
    let hi = leb-true x.kind 4 i.1 in
    let m = line_writes 43 (layout_of x.kind) x.values at s (lines_text ls ++ r) q.1 h e1 in
    let n = line_text_long (layout_of x.kind) x.values q.1 in
    let c = line_long 43 (layout_of x.kind) at (at + length_of (layout_of x.kind)) s (λ z. omega arith) h m.0 in
    let y = lines_made f (k + 1) (at + length_of (layout_of x.kind)) s ls r p.1 c.1 m.1 w (omega arith) in
    let z : suc f - 1 ≡ f = omega arith in
    let j : k + 1 + length ls ≡ k + suc (length ls) = omega arith in
    let o : at + length_of (layout_of x.kind) + length (lines_text ls) ≡ at + length (text_of_line x ++ lines_text ls) = rw (length-append (text_of_line x) (lines_text ls), n) (omega arith) in
    record {
      answered =
          lines_line (suc f) k at s (omega arith) (λ u. omega arith) (λ u. omega arith) (λ u. omega arith)
          ∙ rw (z, t) (then_fine (line_fault 43 (layout_of x.kind) at s) (λ (b : ℕ). lines_fault f (k + 1) b s) (at + length_of (layout_of x.kind)) m.0 ∙ rw (← j, ← o) y.answered);
      same_values = rw (t, q.0, y.same_values, e1, line_values_lem (layout_of x.kind) x.values (lines_text ls ++ r) q.1);
      onward = rw (← o) y.onward;
    }
