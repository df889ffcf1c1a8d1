-- CR 10, both round trips over bytes: what is written from the values of a sound file is that file;
-- and the values of a file that was
-- written are those that it was written from.
use Rattle.std.specs.Prelude.{ℕ, ◌+◌, ◌<◌, ◌≤◌, ◌^◌, ◌/◌, ◌≡◌, refl, true, List, [], ◌∷◌, ◌++◌, ltb, length}
use Rattle.std.proofs.Common.{sym, ap, ◌∙◌, ⊎_elim, div-one, arith, lit≤, length-append}
use borrow.Author.Tests.{le-leb, lt-ltb, le-ltb, ne_eqb}
use Rattle.terms.specs.Paper.{pick}
use Rattle.terms.specs.Cases.{less}
use Rattle.octets.specs.Octets.{sum8, Bytes}
use Rattle.digits.specs.Digits.{width_of, decimal_of}
use Rattle.digits.specs.Widths.{width_of_lem, width_most}
use Rattle.digits.specs.Laws.{both, length_decimal}
use Rattle.market_columns.specs.Numbers.{number_fits}
use Rattle.market_columns.specs.NumberLaws.{number_fits_lem}
use Rattle.market_columns.specs.NumberPut.{text_long}
use Rattle.market_columns.specs.Columns.{header}
use Rattle.market_columns.specs.Values.{fits}
use Rattle.market_spec.specs.File.{fault, fine, place_of, and_then, fault_of}
use Rattle.market_spec.specs.Files.{then_fine, then_fault}
use Rattle.market_spec.specs.Told.{Told, at_place, refused, not_fine, then_both}
use Rattle.market_spec.specs.LineValues.{line_fits, line_text_long}
use Rattle.market_spec.specs.LinesValues.{lines_fit, lines_text}
use Rattle.market_spec.specs.TrailerText.{sum_text}
use Rattle.market_spec.specs.Sound.{Values, head_values, head_text, body_of, file_of, values_fit, values_of, Sound, body_long, lines_few}
use Rattle.market_spec.specs.ValueBytes.{row_bytes, taken_of, taken_line, taken_fault}
use Rattle.market_spec.specs.TakenBack.{row_told, row_fits_lem, row_made, row_bytes_lem}
use Rattle.market_spec.specs.FileBytes.{own, own_values, lines_bytes, values_bytes, values_answer, lines_taken, values_taken, values_given, written_answer}
use Rattle.market_spec.specs.BytesBack.{lines_fit_lem, lines_bytes_lem, lines_read, lines_short, taken_told, fine_0}

-- THE HEADER: its own values, and the count

pub own_fits : (v : Values) → line_fits header (head_values v) ≡ true → line_fits own (own_values v) ≡ true
unfolding line_fits fits
own_fits v f = (both (number_fits 5 0 0 (length v.lines)) (line_fits own (own_values v)) f).1

-- five digits hold a count below 100,000
count_fits : (n : ℕ) → n < 10 ^ 5 → number_fits 5 0 0 n ≡ true
count_fits n h =
    let e : n / 10 ^ 0 ≡ n = div-one n in
    let w : width_of n ≤ 5 = width_most 5 (width_of_lem n (omega arith)) (lit≤ tt) h in
    number_fits_lem 5 0 0 n (record { few = lit≤ tt; sign = lit≤ tt; signed = refl; room = rw (text_long 0 0 n (lit≤ tt), e) (omega arith) })

pub head_fits : (v : Values) → length v.lines < 10 ^ 5 → line_fits own (own_values v) ≡ true → line_fits header (head_values v) ≡ true
unfolding line_fits fits
head_fits v h f = rw (count_fits (length v.lines) h) f

-- HOW LONG A FILE IS

pub file_long : (v : Values) → length (file_of v) ≡ length (head_text v) + length (lines_text v.lines) + 12
unfolding file_of
file_long v =
    rw (length-append (body_of v) (sum_text (sum8 (body_of v))), length-append (decimal_of 3 (sum8 (body_of v))) (10 ∷ []), length_decimal 3 (sum8 (body_of v)), body_long v) (omega arith)

-- its length as the writer works it out; both pass 65,536, or they are equal
pub record Sized (v : Values) : Type 0 where
  pub few : 94 + length (lines_text v.lines) ≤ 65536 → (length (file_of v) ≡ 94 + length (lines_text v.lines)) × (line_fits header (head_values v) ≡ true)
  pub many : 65536 < 94 + length (lines_text v.lines) → 65536 < length (file_of v)

pub sized : (v : Values) → line_fits own (own_values v) ≡ true → lines_fit v.lines ≡ true → Sized v
sized v f g = record { few = λ h. (small (omega (arith, lines_few v.lines g)), head_fits v (omega (arith, lines_few v.lines g)) f); many = λ h. large h }
  where
    small : length v.lines < 10 ^ 5 → length (file_of v) ≡ 94 + length (lines_text v.lines)
    small l = let q : length (head_text v) ≡ 82 = line_text_long header (head_values v) (head_fits v l f) in rw (file_long v, q) (omega arith)

    large : 65536 < 94 + length (lines_text v.lines) → 65536 < length (file_of v)
    large h = ⊎_elim (λ (l : length v.lines < 10 ^ 5). rw (small l) h) (λ (l : 10 ^ 5 ≤ length v.lines). rw (file_long v) (omega (arith, lines_few v.lines g))) (less (length v.lines) (10 ^ 5))

-- VALUES THAT PASS

pub record Given (s : List ℕ) : Type 0 where
  pub own_answer : taken_fault own 0 s ≡ fine 38
  pub lines_answer : lines_taken (length s + 1) 38 s ≡ fine 0
  pub whole : 38 ≤ length s
  pub own_fitting : line_fits own (own_values (values_given s)) ≡ true
  pub lines_fitting : lines_fit (values_given s).lines ≡ true

pub given : (s : List ℕ) → values_taken s ≡ fine 0 → Given s
unfolding values_taken values_given taken_line taken_of
given s q =
    let b = then_both (taken_fault own 0 s) (λ (e : ℕ). lines_taken (length s + 1) e s) 0 (row_told own 0 s) q in
    let r = row_fits_lem own 0 b.place s (omega arith) b.first in
    let e : b.place ≡ 38 = sym r.ends in
    let l : lines_taken (length s + 1) 38 s ≡ fine 0 = rw e at b.second in
    record { own_answer = rw e at b.first; lines_answer = l; whole = rw e at r.inside; own_fitting = r.fitting; lines_fitting = lines_fit_lem (length s + 1) 38 s l }

-- and they give their bytes again
pub given_bytes : (s : List ℕ) → Bytes s → values_taken s ≡ fine 0 → values_bytes (values_given s) ≡ s
unfolding values_bytes values_given taken_line taken_of
given_bytes s b q =
    let g = given s q in
    ap (λ (x : List ℕ). row_bytes (taken_line own s) ++ x) (lines_bytes_lem (length s + 1) 38 s b g.lines_answer) ∙ row_bytes_lem own 0 38 s b (omega arith) g.own_answer

-- VALUES THAT FIT, AS BYTES

pub record Read (v : Values) : Type 0 where
  pub answered : values_taken (values_bytes v) ≡ fine 0
  pub same_values : values_given (values_bytes v) ≡ v

pub values_read : (v : Values) → line_fits own (own_values v) ≡ true → lines_fit v.lines ≡ true → Read v
unfolding values_bytes values_taken values_given
values_read v f g =
    let s = row_bytes (own_values v) ++ lines_bytes v.lines in
    let m = row_made own (own_values v) 0 s (lines_bytes v.lines) f (omega arith) refl in
    let r = lines_read (length s + 1) 38 s v.lines g m.inside m.onward (rw (length-append (row_bytes (own_values v)) (lines_bytes v.lines)) (omega (arith, lines_short v.lines))) in
    record {
      answered = then_fine (taken_fault own 0 s) (λ (e : ℕ). lines_taken (length s + 1) e s) 38 m.answered ∙ r.answered;
      same_values = rw (m.same_values, r.same_values);
    }

-- THE ANSWERS, BY THE TESTS THAT LEAD TO THEM

module _ (room : ℕ) (s : List ℕ) where
  pub written_wrong : (n q : ℕ) → (n ≡ 0 → ⊥) → values_taken s ≡ fault n q → written_answer room s ≡ fault n q
  unfolding written_answer
  written_wrong n q z e = rw (e, ne_eqb n 0 z)

  module _ (e : values_taken s ≡ fine 0) where
    pub written_large : 65536 < length (file_of (values_given s)) → written_answer room s ≡ fault 47 0
    unfolding written_answer
    written_large h = rw (e, lt-ltb 65536 (length (file_of (values_given s))) h)

    pub written_lacks : length (file_of (values_given s)) ≤ 65536 → room < length (file_of (values_given s)) → written_answer room s ≡ fault 8 0
    unfolding written_answer
    written_lacks h k = rw (e, le-ltb 65536 (length (file_of (values_given s))) h, lt-ltb room (length (file_of (values_given s))) k)

    pub written_fine : length (file_of (values_given s)) ≤ 65536 → length (file_of (values_given s)) ≤ room → written_answer room s ≡ fine (length (file_of (values_given s)))
    unfolding written_answer
    written_fine h k = rw (e, le-ltb 65536 (length (file_of (values_given s))) h, le-ltb room (length (file_of (values_given s))) k)

  pub values_wrong : (n q : ℕ) → (n ≡ 0 → ⊥) → fault_of s ≡ fault n q → values_answer room s ≡ fault n q
  unfolding values_answer
  values_wrong n q z e = then_fault (fault_of s) (λ (k : ℕ). pick (ltb room (length (values_bytes (values_of s)))) (fault 8 0) (fine (length (values_bytes (values_of s))))) n q e z

  module _ (n : ℕ) (e : fault_of s ≡ fine n) where
    pub values_lack : room < length (values_bytes (values_of s)) → values_answer room s ≡ fault 8 0
    unfolding values_answer
    values_lack h = rw (e, lt-ltb room (length (values_bytes (values_of s))) h)

    pub values_fine : length (values_bytes (values_of s)) ≤ room → values_answer room s ≡ fine (length (values_bytes (values_of s)))
    unfolding values_answer
    values_fine h = rw (e, le-ltb room (length (values_bytes (values_of s))) h)

-- THE ROUND TRIPS

-- every answer is 0 or a refusal
pub values_told : (s : List ℕ) → Told (values_taken s)
unfolding values_taken
values_told s = by (row_told own 0 s)
  where
    by : Told (taken_fault own 0 s) → Told (and_then (taken_fault own 0 s) (λ (e : ℕ). lines_taken (length s + 1) e s))
    by (at_place q e) = rw e (taken_told (length s + 1) q s)
    by (refused m q z e) = rw (e, ne_eqb m 0 z) (refused m q z refl)

pub taken_fine : (s : List ℕ) (q : ℕ) → values_taken s ≡ fine q → values_taken s ≡ fine 0
unfolding values_taken
taken_fine s q e =
    let b = then_both (taken_fault own 0 s) (λ (i : ℕ). lines_taken (length s + 1) i s) q (row_told own 0 s) e in
    then_fine (taken_fault own 0 s) (λ (i : ℕ). lines_taken (length s + 1) i s) b.place b.first ∙ fine_0 (length s + 1) b.place q s b.second

-- what was written: the values pass, and the file has its size and its room
pub record Made (room n : ℕ) (x : List ℕ) : Type 0 where
  pub taken : values_taken x ≡ fine 0
  pub few : length (file_of (values_given x)) ≤ 65536
  pub roomy : length (file_of (values_given x)) ≤ room
  pub size : length (file_of (values_given x)) ≡ n

pub made : (room n : ℕ) (x : List ℕ) → written_answer room x ≡ fine n → Made room n x
made room n x p = by (values_told x)
  where
    by : Told (values_taken x) → Made room n x
    by (refused m q z e) = absurd (not_fine m q n z (sym (written_wrong room x m q z e) ∙ p))
    by (at_place q e) =
        let t = taken_fine x q e in
        ⊎_elim (λ (a : 65536 < length (file_of (values_given x))). absurd (not_fine 47 0 n (λ z. omega arith) (sym (written_large room x t a) ∙ p)))
        (λ (a : length (file_of (values_given x)) ≤ 65536).
        ⊎_elim (λ (b : room < length (file_of (values_given x))). absurd (not_fine 8 0 n (λ z. omega arith) (sym (written_lacks room x t a b) ∙ p)))
        (λ (b : length (file_of (values_given x)) ≤ room). record { taken = t; few = a; roomy = b; size = ap place_of (sym (written_fine room x t a b) ∙ p) })
        (less room (length (file_of (values_given x)))))
        (less 65536 (length (file_of (values_given x))))

-- values that pass, of a file that is not too large, fit
pub given_fits : (x : List ℕ) → values_taken x ≡ fine 0 → length (file_of (values_given x)) ≤ 65536 → values_fit (values_given x) ≡ true
unfolding values_fit
given_fits x e h =
    let g = given x e in
    let v = values_given x in
    let l : 94 + length (lines_text v.lines) ≤ 65536 = ⊎_elim (λ (a : 65536 < 94 + length (lines_text v.lines)). absurd (omega (arith, (sized v g.own_fitting g.lines_fitting).many a))) (λ (a : 94 + length (lines_text v.lines) ≤ 65536). a) (less 65536 (94 + length (lines_text v.lines))) in
    rw (le-leb (length (file_of v)) 65536 h, ((sized v g.own_fitting g.lines_fitting).few l).1, g.lines_fitting)

-- "A sound file can be written again from its values with the same bytes"
pub record Again (room : ℕ) (s : List ℕ) : Type 0 where
  pub answered : written_answer room (values_bytes (values_of s)) ≡ fine (length s)
  pub same_bytes : file_of (values_given (values_bytes (values_of s))) ≡ s

-- and the values of a file that was written are those that it was written from
pub record Back (room n : ℕ) (x : List ℕ) : Type 0 where
  pub sound : Sound (file_of (values_given x))
  pub same_values : values_of (file_of (values_given x)) ≡ values_given x
  pub same_bytes : Bytes x → values_bytes (values_of (file_of (values_given x))) ≡ x
