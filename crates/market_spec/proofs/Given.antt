-- CR 10: each of 40 to 47 given exactly when. 44 and 46 only where nothing else is wrong, 44 before
-- 46; 47 by length alone.
use Rattle.std.specs.Prelude.{ℕ, ◌<◌, ◌≡◌, ◌↔◌, List, length}
use Rattle.std.proofs.Common.{ap, arith}
use Rattle.terms.specs.Paper.{Paper}
use Rattle.market_spec.specs.File.{fault, place_of, fault_of}
use Rattle.market_spec.specs.Walk.{Finding, large, header_wrong, header_cut, type_wrong, type_cut, column_wrong, line_cut_short, mark_wrong, trailer_cut, left_over_lem, count_wrong, sum_wrong, sound}
use Rattle.market_spec.proofs.Walk.{found, answers}
use Rattle.market_spec.specs.Given.{left, in_trailer, Given40, in_line, in_header, in_type, Given41, Given42, Given43, Given44, Given45, Given46}

-- papers of two numbers are not equal
other : {A : Type 0} {p q : Paper} → p ≡ q → (p.number ≡ q.number → ⊥) → A
other e z = absurd (z (ap (λ (x : Paper). x.number) e))

pub given_40 : (s : List ℕ) (q : ℕ) → (fault_of s ≡ fault 40 q) ↔ Given40 s q
given_40 s q = (λ e. by (found s) e, λ g. from g)
  where
    by : {p : Paper} → Finding s p → p ≡ fault 40 q → Given40 s q
    by (large a) e = other e (λ z. omega arith)
    by (header_wrong a b) e = other e (λ z. omega arith)
    by (header_cut a b) e = rw (ap place_of e) at (in_header a b)
    by (type_wrong a b c) e = other e (λ z. omega arith)
    by (type_cut a b c) e = rw (ap place_of e) at (in_type a b c)
    by (column_wrong a b c d) e = other e (λ z. omega arith)
    by (line_cut_short a b c d) e = rw (ap place_of e) at (in_line a b c d)
    by (mark_wrong a b c d f g) e = other e (λ z. omega arith)
    by (trailer_cut a b c d f) e = rw (ap place_of e) at (in_trailer a b c d f)
    by (left_over_lem a b c d f) e = rw (ap place_of e) at (left a b c d f)
    by (count_wrong a b) e = other e (λ z. omega arith)
    by (sum_wrong a b c) e = other e (λ z. omega arith)
    by (sound a b c) e = other e (λ z. omega arith)

    from : {r : ℕ} → Given40 s r → fault_of s ≡ fault 40 r
    from (in_header a b) = answers (header_cut a b)
    from (in_type a b c) = answers (type_cut a b c)
    from (in_line a b c d) = answers (line_cut_short a b c d)
    from (in_trailer a b c d f) = answers (trailer_cut a b c d f)
    from (left a b c d f) = answers (left_over_lem a b c d f)

pub given_41 : (s : List ℕ) (q : ℕ) → (fault_of s ≡ fault 41 q) ↔ Given41 s q
given_41 s q = (λ e. by (found s) e, λ g. from g)
  where
    by : {p : Paper} → Finding s p → p ≡ fault 41 q → Given41 s q
    by (large a) e = other e (λ z. omega arith)
    by (header_wrong a b) e = record { few = a; wrong = rw (ap place_of e) at b }
    by (header_cut a b) e = other e (λ z. omega arith)
    by (type_wrong a b c) e = other e (λ z. omega arith)
    by (type_cut a b c) e = other e (λ z. omega arith)
    by (column_wrong a b c d) e = other e (λ z. omega arith)
    by (line_cut_short a b c d) e = other e (λ z. omega arith)
    by (mark_wrong a b c d f g) e = other e (λ z. omega arith)
    by (trailer_cut a b c d f) e = other e (λ z. omega arith)
    by (left_over_lem a b c d f) e = other e (λ z. omega arith)
    by (count_wrong a b) e = other e (λ z. omega arith)
    by (sum_wrong a b c) e = other e (λ z. omega arith)
    by (sound a b c) e = other e (λ z. omega arith)

    from : Given41 s q → fault_of s ≡ fault 41 q
    from g = answers (header_wrong g.few g.wrong)

pub given_42 : (s : List ℕ) (q : ℕ) → (fault_of s ≡ fault 42 q) ↔ Given42 s q
given_42 s q = (λ e. by (found s) e, λ g. from g)
  where
    by : {p : Paper} → Finding s p → p ≡ fault 42 q → Given42 s q
    by (large a) e = other e (λ z. omega arith)
    by (header_wrong a b) e = other e (λ z. omega arith)
    by (header_cut a b) e = other e (λ z. omega arith)
    by (type_wrong {k = k} a b c) e = record { few = a; lines = k; walked = rw (ap place_of e) at b; type = rw (ap place_of e) at c }
    by (type_cut a b c) e = other e (λ z. omega arith)
    by (column_wrong a b c d) e = other e (λ z. omega arith)
    by (line_cut_short a b c d) e = other e (λ z. omega arith)
    by (mark_wrong a b c d f g) e = other e (λ z. omega arith)
    by (trailer_cut a b c d f) e = other e (λ z. omega arith)
    by (left_over_lem a b c d f) e = other e (λ z. omega arith)
    by (count_wrong a b) e = other e (λ z. omega arith)
    by (sum_wrong a b c) e = other e (λ z. omega arith)
    by (sound a b c) e = other e (λ z. omega arith)

    from : Given42 s q → fault_of s ≡ fault 42 q
    from g = answers (type_wrong g.few g.walked g.type)

pub given_43 : (s : List ℕ) (q : ℕ) → (fault_of s ≡ fault 43 q) ↔ Given43 s q
given_43 s q = (λ e. by (found s) e, λ g. from g)
  where
    by : {p : Paper} → Finding s p → p ≡ fault 43 q → Given43 s q
    by (large a) e = other e (λ z. omega arith)
    by (header_wrong a b) e = other e (λ z. omega arith)
    by (header_cut a b) e = other e (λ z. omega arith)
    by (type_wrong a b c) e = other e (λ z. omega arith)
    by (type_cut a b c) e = other e (λ z. omega arith)
    by (column_wrong {k = k} {p = p} a b c d) e = record { few = a; lines = k; place = p; walked = b; type = c; wrong = rw (ap place_of e) at d }
    by (line_cut_short a b c d) e = other e (λ z. omega arith)
    by (mark_wrong a b c d f g) e = other e (λ z. omega arith)
    by (trailer_cut a b c d f) e = other e (λ z. omega arith)
    by (left_over_lem a b c d f) e = other e (λ z. omega arith)
    by (count_wrong a b) e = other e (λ z. omega arith)
    by (sum_wrong a b c) e = other e (λ z. omega arith)
    by (sound a b c) e = other e (λ z. omega arith)

    from : Given43 s q → fault_of s ≡ fault 43 q
    from g = answers (column_wrong g.few g.walked g.type g.wrong)

pub given_44 : (s : List ℕ) → (fault_of s ≡ fault 44 0) ↔ Given44 s
given_44 s = (λ e. by (found s) e, λ g. from g)
  where
    by : {p : Paper} → Finding s p → p ≡ fault 44 0 → Given44 s
    by (large a) e = other e (λ z. omega arith)
    by (header_wrong a b) e = other e (λ z. omega arith)
    by (header_cut a b) e = other e (λ z. omega arith)
    by (type_wrong a b c) e = other e (λ z. omega arith)
    by (type_cut a b c) e = other e (λ z. omega arith)
    by (column_wrong a b c d) e = other e (λ z. omega arith)
    by (line_cut_short a b c d) e = other e (λ z. omega arith)
    by (mark_wrong a b c d f g) e = other e (λ z. omega arith)
    by (trailer_cut a b c d f) e = other e (λ z. omega arith)
    by (left_over_lem a b c d f) e = other e (λ z. omega arith)
    by (count_wrong {k = k} {p = p} a b) e = record { lines = k; place = p; whole = a; count = b }
    by (sum_wrong a b c) e = other e (λ z. omega arith)
    by (sound a b c) e = other e (λ z. omega arith)

    from : Given44 s → fault_of s ≡ fault 44 0
    from g = answers (count_wrong g.whole g.count)

pub given_45 : (s : List ℕ) (q : ℕ) → (fault_of s ≡ fault 45 q) ↔ Given45 s q
given_45 s q = (λ e. by (found s) e, λ g. from g)
  where
    by : {p : Paper} → Finding s p → p ≡ fault 45 q → Given45 s q
    by (large a) e = other e (λ z. omega arith)
    by (header_wrong a b) e = other e (λ z. omega arith)
    by (header_cut a b) e = other e (λ z. omega arith)
    by (type_wrong a b c) e = other e (λ z. omega arith)
    by (type_cut a b c) e = other e (λ z. omega arith)
    by (column_wrong a b c d) e = other e (λ z. omega arith)
    by (line_cut_short a b c d) e = other e (λ z. omega arith)
    by (mark_wrong {k = k} {p = p} {m = m} {ms = ms} a b c d f g) e =
        record { few = a; lines = k; place = p; walked = b; type = c; mark = m; marks_left = ms; marked = rw (ap place_of e) at d; inside = rw (ap place_of e) at f; wrong = rw (ap place_of e) at g }
    by (trailer_cut a b c d f) e = other e (λ z. omega arith)
    by (left_over_lem a b c d f) e = other e (λ z. omega arith)
    by (count_wrong a b) e = other e (λ z. omega arith)
    by (sum_wrong a b c) e = other e (λ z. omega arith)
    by (sound a b c) e = other e (λ z. omega arith)

    from : Given45 s q → fault_of s ≡ fault 45 q
    from g = answers (mark_wrong g.few g.walked g.type g.marked g.inside g.wrong)

pub given_46 : (s : List ℕ) → (fault_of s ≡ fault 46 0) ↔ Given46 s
given_46 s = (λ e. by (found s) e, λ g. from g)
  where
    by : {p : Paper} → Finding s p → p ≡ fault 46 0 → Given46 s
    by (large a) e = other e (λ z. omega arith)
    by (header_wrong a b) e = other e (λ z. omega arith)
    by (header_cut a b) e = other e (λ z. omega arith)
    by (type_wrong a b c) e = other e (λ z. omega arith)
    by (type_cut a b c) e = other e (λ z. omega arith)
    by (column_wrong a b c d) e = other e (λ z. omega arith)
    by (line_cut_short a b c d) e = other e (λ z. omega arith)
    by (mark_wrong a b c d f g) e = other e (λ z. omega arith)
    by (trailer_cut a b c d f) e = other e (λ z. omega arith)
    by (left_over_lem a b c d f) e = other e (λ z. omega arith)
    by (count_wrong a b) e = other e (λ z. omega arith)
    by (sum_wrong {k = k} {p = p} a b c) e = record { lines = k; place = p; whole = a; count = b; sum = c }
    by (sound a b c) e = other e (λ z. omega arith)

    from : Given46 s → fault_of s ≡ fault 46 0
    from g = answers (sum_wrong g.whole g.count g.sum)

pub given_47 : (s : List ℕ) → (fault_of s ≡ fault 47 0) ↔ (65536 < length s)
given_47 s = (λ e. by (found s) e, λ g. from g)
  where
    by : {p : Paper} → Finding s p → p ≡ fault 47 0 → 65536 < length s
    by (large a) e = a
    by (header_wrong a b) e = other e (λ z. omega arith)
    by (header_cut a b) e = other e (λ z. omega arith)
    by (type_wrong a b c) e = other e (λ z. omega arith)
    by (type_cut a b c) e = other e (λ z. omega arith)
    by (column_wrong a b c d) e = other e (λ z. omega arith)
    by (line_cut_short a b c d) e = other e (λ z. omega arith)
    by (mark_wrong a b c d f g) e = other e (λ z. omega arith)
    by (trailer_cut a b c d f) e = other e (λ z. omega arith)
    by (left_over_lem a b c d f) e = other e (λ z. omega arith)
    by (count_wrong a b) e = other e (λ z. omega arith)
    by (sum_wrong a b c) e = other e (λ z. omega arith)
    by (sound a b c) e = other e (λ z. omega arith)

    from : 65536 < length s → fault_of s ≡ fault 47 0
    from l = answers (large l)
