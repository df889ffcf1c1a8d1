-- The trailer both ways: where it is sound its bytes are TRAILER, a bar, the sum in three digits
-- and a newline; and those are sound.
use Rattle.std.specs.Prelude.{ℕ, suc, ◌+◌, ◌<◌, ◌≤◌, ◌≡◌, refl, true, false, ◌&&◌, List, [], ◌∷◌, ◌++◌, length, get_or, take, drop}
use Rattle.std.proofs.Common.{sym, ap, ◌∙◌, inl, inr, ⊎_elim, add-one, add-zero, arith, lit≤, length-drop, take-append-drop, drop_of_length-le, drop-cons, drop-drop, take_at, take_all, ne_eqb, eqb-true}
use Rattle.terms.specs.Paper.{Paper}
use Rattle.terms.specs.Cases.{two, less, same, clash}
use Rattle.octets.specs.Octets.{sum8}
use Rattle.octets.specs.Sums.{sum8_below}
use Rattle.digits.specs.Digits.{is_digit, all_digits, number, digits_at, decimal_of}
use Rattle.digits.specs.Laws.{both, length_decimal, all_decimal, said_decimal}
use Rattle.digits.specs.Texts.{digits_written, given_number}
use Rattle.market_columns.specs.Pieces.{digits_either, Either}
use Rattle.market_columns.specs.Columns.{alike}
use Rattle.market_columns.specs.ColumnLaws.{alike_is, alike_self}
use Rattle.market_spec.specs.File.{fine, place_of, and_then, word_of, trailer, begins_at, type_at, marks, mark_ok, tail_fault, left_over, count_ok, sum_ok, closing, trailer_fault}
use Rattle.market_spec.specs.Files.{then_fine, tail_on, close_sum, close_fine}
use Rattle.market_spec.specs.Types.{trailer_word, left_none, trailer_fine}
use Rattle.market_spec.specs.Told.{Told, at_place, refused, not_fine, then_both, tail_told, tail_passed}
use Rattle.market_spec.proofs.Files.{close_count}
use Rattle.market_spec.proofs.Types.{left_some}
use Rattle.market_spec.specs.TrailerText.{TrailerIs, trailer_text, sum_text, marks_ok, trailer_12}

-- A SOUND TRAILER

left_told : (s : List ℕ) (at : ℕ) → Told (left_over s at)
left_told s at = ⊎_elim (λ (h : at < length s). refused 40 at (λ q. omega arith) (left_some s at h)) (λ (h : length s ≤ at). at_place at (left_none s at h)) (less at (length s))

both_told : (p : Paper) (f : ℕ → Paper) → Told p → ((q : ℕ) → Told (f q)) → Told (and_then p f)
both_told p f (at_place q e) g = rw e (g q)
both_told p f (refused m q z e) g = rw (e, ne_eqb m 0 z) (refused m q z refl)

pub trailer_is : (k at n : ℕ) (s : List ℕ) → trailer_fault k at s ≡ fine n → TrailerIs k at n s
unfolding trailer_fault
trailer_is k at n s p =
    let a = then_both (and_then (tail_fault marks (at + 7) s) (left_over s)) (λ (e : ℕ). closing k at s) n (both_told (tail_fault marks (at + 7) s) (left_over s) (tail_told marks (at + 7) s) (left_told s)) p in
    let b = then_both (tail_fault marks (at + 7) s) (left_over s) a.place (tail_told marks (at + 7) s) a.first in
    ⊎_elim (λ (c : count_ok k s ≡ true).
    ⊎_elim (λ (d : sum_ok at s ≡ true).
    record {
      tail = b.place;
      marked = b.first;
      nothing_left = ⊎_elim (λ (h : b.place < length s). absurd (not_fine 40 b.place a.place (λ q. omega arith) (sym (left_some s b.place h) ∙ b.second))) (λ (h : length s ≤ b.place). h) (less b.place (length s));
      count = c;
      sum = d;
      lines = ap place_of (sym (close_fine k at s c d) ∙ a.second);
    })
    (λ (d : sum_ok at s ≡ false). absurd (not_fine 46 0 n (λ q. omega arith) (sym (close_sum k at s c d) ∙ a.second)))
    (two (sum_ok at s)))
    (λ (c : count_ok k s ≡ false). absurd (not_fine 44 0 n (λ q. omega arith) (sym (close_count k at s c) ∙ a.second)))
    (two (count_ok k s))

-- the word
word_is : (word : List ℕ) (at : ℕ) (s : List ℕ) → begins_at word at s ≡ 1 → take (length word) (drop at s) ≡ word
unfolding begins_at
word_is word at s e =
    ⊎_elim (λ (a : alike (take (length (take (length word) (drop at s))) word) (take (length word) (drop at s)) ≡ true).
    ⊎_elim (λ (b : length (take (length word) (drop at s)) ≡ length word).
    let i = alike_is (take (length (take (length word) (drop at s))) word) (take (length word) (drop at s)) a in
    sym i ∙ take_all (length (take (length word) (drop at s))) word (omega arith))
    (λ (b : length (take (length word) (drop at s)) ≡ length word → ⊥). absurd (omega (arith, rw (a, ne_eqb (length (take (length word) (drop at s))) (length word) b) at e)))
    (same (length (take (length word) (drop at s))) (length word)))
    (λ (a : alike (take (length (take (length word) (drop at s))) word) (take (length word) (drop at s)) ≡ false). absurd (omega (arith, rw a at e)))
    (two (alike (take (length (take (length word) (drop at s))) word) (take (length word) (drop at s))))

sum_says : (at : ℕ) (s : List ℕ) → sum_ok at s ≡ true → digits_at (at + 8) 3 s ≡ number (sum8 (take (at + 8) s))
sum_says at s e = in_both (digits_either (at + 8) 3 s)
  where
    i : (digits_at (at + 8) 3 s).values ≡ sum8 (take (at + 8) s) ∷ []
    i = alike_is (digits_at (at + 8) 3 s).values (sum8 (take (at + 8) s) ∷ []) e

    in_both : Either (digits_at (at + 8) 3 s) → digits_at (at + 8) 3 s ≡ number (sum8 (take (at + 8) s))
    in_both (inl q) = absurd (omega (arith, ap length (rw q at i)))
    in_both (inr (v, q)) = q ∙ ap number (ap (λ (l : List ℕ). get_or l 0 0) (rw q at i))

tail_none : (p e : ℕ) (s : List ℕ) → tail_fault [] p s ≡ fine e → p ≡ e
unfolding tail_fault
tail_none p e s q = ap place_of q

pub trailer_bytes : (k at n : ℕ) (s : List ℕ) → type_at at s ≡ 5 → TrailerIs k at n s → drop at s ≡ trailer_text (sum8 (take (at + 8) s))
trailer_bytes k at n s e t =
    let a = tail_passed 124 (0 ∷ 0 ∷ 0 ∷ 10 ∷ []) (at + 7) t.tail s t.marked in
    let b = tail_passed 0 (0 ∷ 0 ∷ 10 ∷ []) (at + 7 + 1) t.tail s a.onward in
    let c = tail_passed 0 (0 ∷ 10 ∷ []) (at + 7 + 1 + 1) t.tail s b.onward in
    let d = tail_passed 0 (10 ∷ []) (at + 7 + 1 + 1 + 1) t.tail s c.onward in
    let f = tail_passed 10 [] (at + 7 + 1 + 1 + 1 + 1) t.tail s d.onward in
    let z : at + 7 + 1 + 1 + 1 + 1 + 1 ≡ t.tail = last (at + 7 + 1 + 1 + 1 + 1 + 1) f.onward in
    let w : take 7 (drop at s) ≡ trailer = word_is (word_of 20 7) at s (trailer_word at s e) in
    let u : take 3 (drop (at + 8) s) ≡ decimal_of 3 (sum8 (take (at + 8) s)) = sym (digits_written (at + 8) 3 s (sum8 (take (at + 8) s)) (sum_says at s t.sum)) in
    let g : drop (at + 7) s ≡ 124 ∷ drop (at + 8) s
    = drop-cons s (at + 7) 0 a.room ∙ rw (eqb-true (get_or s (at + 7) 0) 124 a.right) (ap (λ (j : ℕ). 124 ∷ drop j s) (suc_is (at + 7) (at + 8) (omega arith))) in
    let v : at + 8 + 3 ≡ at + 7 + 1 + 1 + 1 + 1 = omega arith in
    let h : drop (at + 8 + 3) s ≡ 10 ∷ []
    = rw v (drop-cons s (at + 7 + 1 + 1 + 1 + 1) 0 f.room ∙ rw (eqb-true (get_or s (at + 7 + 1 + 1 + 1 + 1) 0) 10 f.right, drop_of_length-le s {i = suc (at + 7 + 1 + 1 + 1 + 1)} (omega (arith, t.nothing_left, z)))) in
    let m : drop (at + 8) s ≡ sum_text (sum8 (take (at + 8) s)) = sym (take-append-drop 3 (drop (at + 8) s)) ∙ rw (u, drop-drop 3 (at + 8) s, h) in
    sym (take-append-drop 7 (drop at s)) ∙ rw (w, drop-drop 7 at s, g, m)
  where
    last : (p : ℕ) → tail_fault [] p s ≡ fine t.tail → p ≡ t.tail
    last p q = tail_none p t.tail s q

    suc_is : (i j : ℕ) → i + 1 ≡ j → suc i ≡ j
    suc_is i j q = omega arith

tail_made : (ms x : List ℕ) (at : ℕ) (s : List ℕ) → drop at s ≡ x → marks_ok ms x ≡ true → tail_fault ms at s ≡ fine (at + length ms)
unfolding marks_ok tail_fault
tail_made [] x at s e o = rw (add-zero at)
tail_made (m ∷ ms) [] at s e o = absurd (clash o refl)
tail_made (m ∷ ms) (b ∷ x) at s e o =
    let p = both (mark_ok m b) (marks_ok ms x) o in
    let l : at < length s = omega (arith, length-drop at s, ap length e) in
    let c : get_or s at 0 ∷ drop (suc at) s ≡ b ∷ x = sym (drop-cons s at 0 l) ∙ e in
    let g : get_or s at 0 ≡ b = ap (λ (y : List ℕ). get_or y 0 0) c in
    let d : drop (at + 1) s ≡ x = rw (add-one at) (ap (λ (y : List ℕ). drop 1 y) c) in
    let j : at + 1 + length ms ≡ at + suc (length ms) = omega arith in
    tail_on m ms at s l (rw g p.0) ∙ rw (← j) (tail_made ms x (at + 1) s d p.1)

three_digits : (t r : List ℕ) → length t ≡ 3 → all_digits t ≡ true → marks_ok marks (124 ∷ (t ++ (10 ∷ r))) ≡ true
unfolding marks_ok all_digits
three_digits [] r l a = absurd (omega arith)
three_digits (x ∷ []) r l a = absurd (omega arith)
three_digits (x ∷ y ∷ []) r l a = absurd (omega arith)
three_digits (x ∷ y ∷ z ∷ []) r l a =
    let p = both (is_digit x) (is_digit y && (is_digit z && true)) a in
    let q = both (is_digit y) (is_digit z && true) p.1 in
    let u = both (is_digit z) true q.1 in
    rw (p.0, q.0, u.0)
three_digits (x ∷ y ∷ z ∷ w ∷ t) r l a = absurd (omega arith)

-- a file whose rest is a trailer that says its sum
pub trailer_made : (k at : ℕ) (s : List ℕ) → at ≤ length s → drop at s ≡ trailer_text (sum8 (take (at + 8) s)) → count_ok k s ≡ true → trailer_fault k at s ≡ fine k
trailer_made k at s b e c =
    let n : length (decimal_of 3 (sum8 (take (at + 8) s))) ≡ 3 = length_decimal 3 (sum8 (take (at + 8) s)) in
    let d7 : drop (at + 7) s ≡ 124 ∷ sum_text (sum8 (take (at + 8) s)) = sym (drop-drop 7 at s) ∙ rw e in
    let d8 : drop (at + 8) s ≡ sum_text (sum8 (take (at + 8) s)) = sym (drop-drop 8 at s) ∙ rw e in
    let l : length s ≡ at + 12 = omega (arith, length-drop at s, ap length e ∙ trailer_12 (sum8 (take (at + 8) s))) in
    let t = tail_made marks (124 ∷ sum_text (sum8 (take (at + 8) s))) (at + 7) s d7 (three_digits (decimal_of 3 (sum8 (take (at + 8) s))) [] n (all_decimal 3 (sum8 (take (at + 8) s)))) in
    let p : take 3 (drop (at + 8) s) ≡ decimal_of 3 (sum8 (take (at + 8) s)) = rw d8 (take_at (decimal_of 3 (sum8 (take (at + 8) s))) (10 ∷ []) 3 n) in
    let g : digits_at (at + 8) 3 s ≡ number (sum8 (take (at + 8) s))
    = given_number (at + 8) 3 s (sum8 (take (at + 8) s)) (record { place = record { some = lit≤ tt; few = lit≤ tt; within = omega arith }; digits = rw p (all_decimal 3 (sum8 (take (at + 8) s))); says = rw p (said_decimal 3 (sum8 (take (at + 8) s)) (omega (arith, sum8_below (take (at + 8) s)))) }) in
    let o : sum_ok at s ≡ true = rw g (alike_self (sum8 (take (at + 8) s) ∷ [])) in
    trailer_fine k at (at + 7 + 5) s (then_fine (tail_fault marks (at + 7) s) (left_over s) (at + 7 + 5) t ∙ left_none s (at + 7 + 5) (omega arith)) ∙ close_fine k at s c o
