-- Values as bytes, both ways: fitting values are read back from their bytes; and values that pass
-- fit, and give their bytes again.
use Rattle.std.specs.Prelude.{ℕ, zero, suc, ◌+◌, ◌-◌, ◌<◌, ◌≤◌, ◌^◌, ◌≡◌, refl, true, false, ◌&&◌, List, [], ◌∷◌, ◌++◌, leb, eqb, length, take, drop}
use Rattle.std.proofs.Common.{sym, ap, ◌∙◌, ⊎_elim, append_assoc, add-zero, arith, lit<, length-append, length-drop, take-append-drop, drop_of_length-le, drop-drop, drop_at}
use borrow.Author.Tests.{le-leb, lt-leb, leb-true, lt-ltb, le-ltb, ne_eqb}
use Rattle.terms.specs.Cases.{two, less, same}
use Rattle.octets.specs.Octets.{be, bytes_of, Bytes}
use Rattle.octets.specs.Numerals.{length_digits, numeral_drop, be_front, bytes_of_be}
use Rattle.digits.specs.Laws.{both}
use Rattle.market_spec.specs.File.{fault, fine, and_then, layout_of}
use Rattle.market_spec.specs.Files.{then_fine, then_fault}
use Rattle.market_spec.specs.Told.{Told, at_place, refused, not_fine, then_both}
use Rattle.market_spec.specs.LineValues.{line_fits}
use Rattle.market_spec.specs.LinesValues.{Line, is_line, lines_fit}
use Rattle.market_spec.specs.ValueBytes.{row_bytes, taken_line, taken_fault}
use Rattle.market_spec.specs.TakenBack.{sizes_of, row_told, RowFits, row_fits_lem, row_made, row_bytes_lem}
use Rattle.market_spec.specs.FileBytes.{type_number, type_of, line_bytes, lines_bytes, lines_taken, lines_given}

-- TYPES

pub type_back : (t : ℕ) → is_line t ≡ true → type_of (type_number t) ≡ t
type_back t h =
    let k = both (leb 1 t) (leb t 4) h in
    ⊎_elim (λ (a : t ≡ 1). rw a)
    (λ (a : t ≡ 1 → ⊥).
    ⊎_elim (λ (b : t ≡ 2). rw b)
    (λ (b : t ≡ 2 → ⊥).
    ⊎_elim (λ (c : t ≡ 3). rw c) (λ (c : t ≡ 3 → ⊥). let e : t ≡ 4 = omega (arith, leb-true 1 t k.0, leb-true t 4 k.1) in rw e) (same t 3))
    (same t 2))
    (same t 1)

pub type_few : (t : ℕ) → type_number t < 256 ^ 2
type_few t =
    ⊎_elim (λ (a : eqb t 1 ≡ true). rw a (lit< tt))
    (λ (a : eqb t 1 ≡ false).
    ⊎_elim (λ (b : eqb t 2 ≡ true). rw (a, b) (lit< tt))
    (λ (b : eqb t 2 ≡ false).
    ⊎_elim (λ (d : eqb t 3 ≡ true). rw (a, b, d) (lit< tt)) (λ (d : eqb t 3 ≡ false). rw (a, b, d) (lit< tt)) (two (eqb t 3)))
    (two (eqb t 2)))
    (two (eqb t 1))

-- a number that is a type's
pub record TypeIs (n : ℕ) : Type 0 where
  pub is_line_holds : is_line (type_of n) ≡ true
  pub again : type_number (type_of n) ≡ n

pub type_is : (n : ℕ) → (type_of n ≡ 0 → ⊥) → TypeIs n
type_is n h =
    ⊎_elim (λ (a : n ≡ 401). rw a (record { is_line_holds = refl; again = refl }))
    (λ (a : n ≡ 401 → ⊥).
    ⊎_elim (λ (b : n ≡ 404). rw b (record { is_line_holds = refl; again = refl }))
    (λ (b : n ≡ 404 → ⊥).
    ⊎_elim (λ (c : n ≡ 405). rw c (record { is_line_holds = refl; again = refl }))
    (λ (c : n ≡ 405 → ⊥).
    ⊎_elim (λ (d : n ≡ 406). rw d (record { is_line_holds = refl; again = refl })) (λ (d : n ≡ 406 → ⊥). absurd (h (rw (ne_eqb n 401 a, ne_eqb n 404 b, ne_eqb n 405 c, ne_eqb n 406 d)))) (same n 406))
    (same n 405))
    (same n 404))
    (same n 401)

-- EACH ANSWER FROM THE TESTS THAT LEAD TO IT

module _ (f p : ℕ) (s : List ℕ) (h : 1 ≤ f) where
  abbrev t : ℕ
  t = type_of (be 2 p s)

  open_taken : lines_taken f p s ≡ lines_taken (suc (f - 1)) p s
  open_taken = let e : f ≡ suc (f - 1) = omega arith in ap (λ (n : ℕ). lines_taken n p s) e

  open_given : lines_given f p s ≡ lines_given (suc (f - 1)) p s
  open_given = let e : f ≡ suc (f - 1) = omega arith in ap (λ (n : ℕ). lines_given n p s) e

  pub taken_end : length s ≤ p → lines_taken f p s ≡ fine 0
  unfolding lines_taken
  taken_end l = open_taken ∙ rw (le-leb (length s) p l)

  pub given_end : length s ≤ p → lines_given f p s ≡ []
  unfolding lines_given
  given_end l = open_given ∙ rw (le-leb (length s) p l)

  module _ (l : p < length s) where
    pub taken_short : length s < p + 2 → lines_taken f p s ≡ fault 40 (length s)
    unfolding lines_taken
    taken_short k = open_taken ∙ rw (lt-leb (length s) p l, lt-ltb (length s) (p + 2) k)

    pub given_on : lines_given f p s ≡ record { kind = t; values = taken_line (layout_of t) (drop (p + 2) s) } ∷ lines_given (f - 1) (p + 2 + sizes_of (layout_of t)) s
    unfolding lines_given
    given_on = open_given ∙ rw (lt-leb (length s) p l)

    module _ (k : p + 2 ≤ length s) where
      pub taken_type : t ≡ 0 → lines_taken f p s ≡ fault 42 p
      unfolding lines_taken
      taken_type e = open_taken ∙ rw (lt-leb (length s) p l, le-ltb (length s) (p + 2) k, e)

      pub taken_line_lem : (t ≡ 0 → ⊥) → lines_taken f p s ≡ and_then (taken_fault (layout_of t) (p + 2) s) (λ (e : ℕ). lines_taken (f - 1) e s)
      unfolding lines_taken
      taken_line_lem e = open_taken ∙ rw (lt-leb (length s) p l, le-ltb (length s) (p + 2) k, ne_eqb t 0 e)

-- LINES THAT PASS

-- the next line, where there is one: its type, its values, and what follows
pub record LineGiven (f p : ℕ) (s : List ℕ) : Type 0 where
  pub room : p + 2 ≤ length s
  pub type : TypeIs (be 2 p s)
  pub row : RowFits (layout_of (type_of (be 2 p s))) (p + 2) (p + 2 + sizes_of (layout_of (type_of (be 2 p s)))) s
  pub answered : taken_fault (layout_of (type_of (be 2 p s))) (p + 2) s ≡ fine (p + 2 + sizes_of (layout_of (type_of (be 2 p s))))
  pub onward : lines_taken (f - 1) (p + 2 + sizes_of (layout_of (type_of (be 2 p s)))) s ≡ fine 0
  pub lines : lines_given f p s ≡ record { kind = type_of (be 2 p s); values = taken_line (layout_of (type_of (be 2 p s))) (drop (p + 2) s) } ∷ lines_given (f - 1) (p + 2 + sizes_of (layout_of (type_of (be 2 p s)))) s

pub line_given : (f p : ℕ) (s : List ℕ) → 1 ≤ f → p < length s → lines_taken f p s ≡ fine 0 → LineGiven f p s
line_given f p s h l q =
    ⊎_elim (λ (k : length s < p + 2). absurd (not_fine 40 (length s) 0 (λ z. omega arith) (sym (taken_short f p s h l k) ∙ q)))
    (λ (k : p + 2 ≤ length s).
    ⊎_elim (λ (e : type_of (be 2 p s) ≡ 0). absurd (not_fine 42 p 0 (λ z. omega arith) (sym (taken_type f p s h l k e) ∙ q)))
    (λ (e : type_of (be 2 p s) ≡ 0 → ⊥).
    let b = then_both (taken_fault (layout_of (type_of (be 2 p s))) (p + 2) s) (λ (x : ℕ). lines_taken (f - 1) x s) 0 (row_told (layout_of (type_of (be 2 p s))) (p + 2) s) (sym (taken_line_lem f p s h l k e) ∙ q) in
    let r = row_fits_lem (layout_of (type_of (be 2 p s))) (p + 2) b.place s k b.first in
    record {
      room = k;
      type = type_is (be 2 p s) e;
      row = rw (← r.ends) at r;
      answered = rw (← r.ends) at b.first;
      onward = rw (← r.ends) at b.second;
      lines = given_on f p s h l;
    })
    (same (type_of (be 2 p s)) 0))
    (less (length s) (p + 2))

-- all lines that pass fit
pub lines_fit_lem : (f p : ℕ) (s : List ℕ) → lines_taken f p s ≡ fine 0 → lines_fit (lines_given f p s) ≡ true
unfolding lines_taken lines_fit
lines_fit_lem zero p s q = absurd (not_fine 40 (length s) 0 (λ z. omega arith) q)
lines_fit_lem (suc f) p s q =
    ⊎_elim (λ (l : p < length s).
    let g = line_given (suc f) p s (omega arith) l q in
    let z : suc f - 1 ≡ f = omega arith in
    let r = lines_fit_lem f (p + 2 + sizes_of (layout_of (type_of (be 2 p s)))) s (rw z at g.onward) in
    rw (g.lines, g.type.is_line_holds, g.row.fitting, z) r)
    (λ (l : length s ≤ p). rw (given_end (suc f) p s (omega arith) l))
    (less p (length s))

-- and give their bytes again
pub lines_bytes_lem : (f p : ℕ) (s : List ℕ) → Bytes s → lines_taken f p s ≡ fine 0 → lines_bytes (lines_given f p s) ≡ drop p s
unfolding lines_taken lines_bytes
lines_bytes_lem zero p s b q = absurd (not_fine 40 (length s) 0 (λ z. omega arith) q)
lines_bytes_lem (suc f) p s b q =
    ⊎_elim (λ (l : p < length s).
    let g = line_given (suc f) p s (omega arith) l q in
    let z : suc f - 1 ≡ f = omega arith in
    let r = lines_bytes_lem f (p + 2 + sizes_of (layout_of (type_of (be 2 p s)))) s b (rw z at g.onward) in
    let w = row_bytes_lem (layout_of (type_of (be 2 p s))) (p + 2) (p + 2 + sizes_of (layout_of (type_of (be 2 p s)))) s b g.room g.answered in
    rw (g.lines, z, g.type.again, bytes_of_be 2 p s b g.room, r)
    (append_assoc (take 2 (drop p s)) (row_bytes (taken_line (layout_of (type_of (be 2 p s))) (drop (p + 2) s))) (drop (p + 2 + sizes_of (layout_of (type_of (be 2 p s)))) s)
    ∙ rw (w, ← drop-drop 2 p s) (take-append-drop 2 (drop p s))))
    (λ (l : length s ≤ p). rw (given_end (suc f) p s (omega arith) l) (sym (drop_of_length-le s {i = p} l)))
    (less p (length s))

-- LINES MADE OF FITTING VALUES

pub record LinesRead (f p : ℕ) (s : List ℕ) (ls : List Line) : Type 0 where
  pub answered : lines_taken f p s ≡ fine 0
  pub same_values : lines_given f p s ≡ ls

pub lines_read : (f p : ℕ) (s : List ℕ) (ls : List Line) → lines_fit ls ≡ true → p ≤ length s → drop p s ≡ lines_bytes ls → length ls < f → LinesRead f p s ls
unfolding lines_fit lines_bytes
lines_read f p s [] g h e l =
    let z : length s ≤ p = omega (arith, length-drop p s, ap length e) in
    record { answered = taken_end f p s (omega arith) z; same_values = given_end f p s (omega arith) z }
lines_read f p s (x ∷ ls) g h e l =
    let a = both (is_line x.kind && line_fits (layout_of x.kind) x.values) (lines_fit ls) g in
    let b = both (is_line x.kind) (line_fits (layout_of x.kind) x.values) a.0 in
    let some = leb-true 1 x.kind (both (leb 1 x.kind) (leb x.kind 4) b.0).0 in
    let n : length (bytes_of 2 (type_number x.kind)) ≡ 2 = length_digits 256 2 (type_number x.kind) in
    let y : drop p s ≡ bytes_of 2 (type_number x.kind) ++ (row_bytes x.values ++ lines_bytes ls) = e ∙ append_assoc (bytes_of 2 (type_number x.kind)) (row_bytes x.values) (lines_bytes ls) in
    let k : p + 2 ≤ length s = omega (arith, length-drop p s, ap length y ∙ length-append (bytes_of 2 (type_number x.kind)) (row_bytes x.values ++ lines_bytes ls), n) in
    let v : be 2 p s ≡ type_number x.kind
    = ap (λ (i : ℕ). be 2 i s) (sym (add-zero p)) ∙ sym (numeral_drop 256 2 p 0 s) ∙ ap (be 2 0) y ∙ be_front 2 (type_number x.kind) (row_bytes x.values ++ lines_bytes ls) (type_few x.kind) in
    let t : type_of (be 2 p s) ≡ x.kind = ap type_of v ∙ type_back x.kind b.0 in
    let d : drop (p + 2) s ≡ row_bytes x.values ++ lines_bytes ls = sym (drop-drop 2 p s) ∙ ap (drop 2) y ∙ drop_at (bytes_of 2 (type_number x.kind)) (row_bytes x.values ++ lines_bytes ls) 2 n in
    let m = row_made (layout_of x.kind) x.values (p + 2) s (lines_bytes ls) b.1 k d in
    let r = lines_read (f - 1) (p + 2 + sizes_of (layout_of x.kind)) s ls a.1 m.inside m.onward (omega arith) in
    record {
      answered =
          taken_line_lem f p s (omega arith) (omega arith) k (λ (z : type_of (be 2 p s) ≡ 0). omega (arith, some, t))
          ∙ rw t (then_fine (taken_fault (layout_of x.kind) (p + 2) s) (λ (i : ℕ). lines_taken (f - 1) i s) (p + 2 + sizes_of (layout_of x.kind)) m.answered ∙ r.answered);
      same_values = given_on f p s (omega arith) (omega arith) ∙ rw (t, m.same_values, r.same_values);
    }

-- each line has bytes
pub lines_short : (ls : List Line) → length ls ≤ length (lines_bytes ls)
unfolding lines_bytes
lines_short [] = omega arith
lines_short (l ∷ ls) =
    rw (length-append (line_bytes l) (lines_bytes ls), length-append (bytes_of 2 (type_number l.kind)) (row_bytes l.values), length_digits 256 2 (type_number l.kind)) (omega (arith, lines_short ls))

-- every answer is 0 or a refusal, and the place beside 0 is 0
told_line : (f p : ℕ) (s : List ℕ) → lines_taken (suc f) p s ≡ and_then (taken_fault (layout_of (type_of (be 2 p s))) (p + 2) s) (λ (e : ℕ). lines_taken (suc f - 1) e s) → Told (taken_fault (layout_of (type_of (be 2 p s))) (p + 2) s) → ((q : ℕ) → Told (lines_taken f q s)) → Told (lines_taken (suc f) p s)
told_line f p s u (refused m q z e) g = refused m q z (u ∙ then_fault (taken_fault (layout_of (type_of (be 2 p s))) (p + 2) s) (λ (i : ℕ). lines_taken (suc f - 1) i s) m q e z)
told_line f p s u (at_place q e) g =
    let z : suc f - 1 ≡ f = omega arith in
    let w : lines_taken (suc f) p s ≡ lines_taken f q s = u ∙ then_fine (taken_fault (layout_of (type_of (be 2 p s))) (p + 2) s) (λ (i : ℕ). lines_taken (suc f - 1) i s) q e ∙ ap (λ (i : ℕ). lines_taken i q s) z in
    rw w (g q)

pub taken_told : (f p : ℕ) (s : List ℕ) → Told (lines_taken f p s)
unfolding lines_taken
taken_told zero p s = refused 40 (length s) (λ q. omega arith) refl
taken_told (suc f) p s =
    ⊎_elim (λ (l : p < length s).
    ⊎_elim (λ (k : length s < p + 2). refused 40 (length s) (λ q. omega arith) (taken_short (suc f) p s (omega arith) l k))
    (λ (k : p + 2 ≤ length s).
    ⊎_elim (λ (e : type_of (be 2 p s) ≡ 0). refused 42 p (λ q. omega arith) (taken_type (suc f) p s (omega arith) l k e))
    (λ (e : type_of (be 2 p s) ≡ 0 → ⊥). told_line f p s (taken_line_lem (suc f) p s (omega arith) l k e) (row_told (layout_of (type_of (be 2 p s))) (p + 2) s) (λ (q : ℕ). taken_told f q s))
    (same (type_of (be 2 p s)) 0))
    (less (length s) (p + 2)))
    (λ (l : length s ≤ p). at_place 0 (taken_end (suc f) p s (omega arith) l))
    (less p (length s))

pub fine_0 : (f p q : ℕ) (s : List ℕ) → lines_taken f p s ≡ fine q → lines_taken f p s ≡ fine 0
unfolding lines_taken
fine_0 zero p q s e = absurd (not_fine 40 (length s) q (λ z. omega arith) e)
fine_0 (suc f) p q s e =
    ⊎_elim (λ (l : p < length s).
    ⊎_elim (λ (k : length s < p + 2). absurd (not_fine 40 (length s) q (λ z. omega arith) (sym (taken_short (suc f) p s (omega arith) l k) ∙ e)))
    (λ (k : p + 2 ≤ length s).
    ⊎_elim (λ (t : type_of (be 2 p s) ≡ 0). absurd (not_fine 42 p q (λ z. omega arith) (sym (taken_type (suc f) p s (omega arith) l k t) ∙ e)))
    (λ (t : type_of (be 2 p s) ≡ 0 → ⊥).
    let z : suc f - 1 ≡ f = omega arith in
    let u : lines_taken (suc f) p s ≡ and_then (taken_fault (layout_of (type_of (be 2 p s))) (p + 2) s) (λ (i : ℕ). lines_taken f i s) = rw z at (taken_line_lem (suc f) p s (omega arith) l k t) in
    let b = then_both (taken_fault (layout_of (type_of (be 2 p s))) (p + 2) s) (λ (i : ℕ). lines_taken f i s) q (row_told (layout_of (type_of (be 2 p s))) (p + 2) s) (sym u ∙ e) in
    u ∙ then_fine (taken_fault (layout_of (type_of (be 2 p s))) (p + 2) s) (λ (i : ℕ). lines_taken f i s) b.place b.first ∙ fine_0 f b.place q s b.second)
    (same (type_of (be 2 p s)) 0))
    (less (length s) (p + 2)))
    (λ (l : length s ≤ p). taken_end (suc f) p s (omega arith) l)
    (less p (length s))
