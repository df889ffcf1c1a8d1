-- Laws of a line: by the test that decides it, and how far it goes.
use Rattle.std.specs.Prelude.{ℕ, suc, ◌+◌, ◌-◌, ◌<◌, ◌≤◌, ◌≡◌, List, [], ◌∷◌}
use Rattle.std.proofs.Common.{add-one, arith, drop_of_length-le, drop-cons, take_all}
use Rattle.market_columns.specs.Columns.{K, rows, row_of, columns}
use Rattle.market_spec.specs.File.{fine, end_of, line_fault}

-- ROWS

pub columns_more : (i e : ℕ) → i < e → i < 58 → columns i e ≡ row_of i ∷ columns (i + 1) e
columns_more i e h k =
    let n : e - i ≡ suc (e - (i + 1)) = omega arith in
    rw (n, drop-cons rows i (K []) k, add-one i)

pub columns_next : (i e : ℕ) → i < e → e ≤ 58 → columns i e ≡ row_of i ∷ columns (i + 1) e
columns_next i e h k = columns_more i e h (omega arith)

pub columns_none : (i e : ℕ) → e ≤ i → columns i e ≡ []
columns_none i e h = let z : e - i ≡ 0 = omega arith in rw z

pub columns_past : (i e : ℕ) → 58 ≤ i → columns i e ≡ []
columns_past i e h = rw (drop_of_length-le rows {i = i} h) (take_all (e - i) [] (omega arith))

-- the byte behind a column
pub end_last : (i e : ℕ) → e ≤ i + 1 → end_of (columns (i + 1) e) ≡ 10
end_last i e h = rw (columns_none (i + 1) e h)

pub end_past : (i e : ℕ) → 57 ≤ i → end_of (columns (i + 1) e) ≡ 10
end_past i e h = rw (columns_past (i + 1) e (omega arith))

pub end_inner : (i e : ℕ) → i + 1 < e → i < 57 → end_of (columns (i + 1) e) ≡ 124
end_inner i e h k = rw (columns_more (i + 1) e h (omega arith))

pub turn_none : (n i e p : ℕ) (s : List ℕ) → e ≤ i → line_fault n (columns i e) p s ≡ fine p
unfolding line_fault
turn_none n i e p s h = rw (columns_none i e h)
