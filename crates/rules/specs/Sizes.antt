-- The bounds that keep an M102's arithmetic small, and one entry more.
use Rattle.std.specs.Prelude.{ℕ, zero, suc, ◌+◌, ◌*◌, ◌-◌, ◌≤◌, ◌<◌, ◌≡◌, refl, Bool, true, false, ◌&&◌, ◌⊎◌, List, eqb, length, take, drop}
use Rattle.std.proofs.Common.{◌∙◌, inl, inr, ⊎_elim, add-one, le_trans, mul-le-mul_left, mul-le-mul_right, arith, ne_eqb}
use Rattle.terms.specs.Letters.{spelled}
use Rattle.terms.specs.Paper.{pick}
use Rattle.terms.specs.Cases.{less}
use Rattle.octets.specs.Octets.{be}
use Rattle.octets.specs.Numerals.{numeral_take, numeral_drop}
use Rattle.rules.specs.Fields.{entry_size, entry_ok, entries_ok, pair_ok, m102_values_ok, m102_fixed_ok, m102_ok}

pub entries_more : (n w : ℕ) (b : List ℕ) → entries_ok (n + 1) w b ≡ (entries_ok n w b && entry_ok w (73 + n * w) b)
unfolding entries_ok
entries_more n w b = rw add-one

size_either : (t : Bool) → pick t 10 19 ≤ 19
size_either true = omega arith
size_either false = omega arith

pub size_small : (s : ℕ) → entry_size s ≤ 19
unfolding entry_size
size_small s = size_either (eqb s (spelled "MD001"))

-- n entries of w bytes, of at most 65,535 and 19
pub entries_small : (n w : ℕ) → n ≤ 65535 → w ≤ 19 → n * w ≤ 65535 * 19
entries_small n w k l = le_trans (mul-le-mul_left n l) (mul-le-mul_right {m = n} {n = 65535} 19 k)

pub entry_small : (i n w : ℕ) → i < n → n ≤ 65535 → w ≤ 19 → i * w ≤ 65535 * 19
entry_small i n w h k l = entries_small i w (omega arith) l

-- THE ENTRIES OF A BODY THAT THEY FILL

-- an entry has one of two widths
abbrev pub Wide : ℕ → Type 0
Wide w = (w ≡ 10) ⊎ (w ≡ 19)

-- n entries of w bytes fill a body behind its fixed part
abbrev pub Entries : ℕ → ℕ → List ℕ → Type 0
Entries w n b = Wide w × (length b ≡ 73 + n * w)

wide_either : (t : Bool) → Wide (pick t 10 19)
wide_either true = inl refl
wide_either false = inr refl

pub size_wide : (s : ℕ) → Wide (entry_size s)
unfolding entry_size
size_wide s = wide_either (eqb s (spelled "MD001"))

pub wide_other : (w : ℕ) → Wide w → (w ≡ 10 → ⊥) → w ≡ 19
wide_other w (inl x) h = absurd (h x)
wide_other w (inr x) h = x

-- a number that lies in a part of a body
in_part : (n at k w : ℕ) (b : List ℕ) → k + n ≤ w → be n k (take w (drop at b)) ≡ be n (at + k) b
in_part n at k w b h = numeral_take 256 n k w (drop at b) h ∙ numeral_drop 256 n at k b

-- an entry lent alone
pub entry_part : (w at e : ℕ) (b : List ℕ) → Wide w → e ≡ at + w → entry_ok w 0 (take (e - at) (drop at b)) ≡ entry_ok w at b
unfolding entry_ok
entry_part w at e b (inl x) y =
    let z : e - at ≡ 10 = omega arith in
    rw (z, x, in_part 8 at 2 10 b (omega arith))
entry_part w at e b (inr x) y =
    let z : e - at ≡ 19 = omega arith in
    rw (z, x, in_part 8 at 2 19 b (omega arith), in_part 8 at 10 19 b (omega arith), in_part 1 at 18 19 b (omega arith))

-- where an entry starts before the end it is one of the n, and ends within the body
pub one_left : (i n w at l : ℕ) → Wide w → l ≡ 73 + n * w → at ≡ 73 + i * w → at < l → (i < n) × ((at + w ≤ l) × (0 < w))
one_left i n w at l (inl x) p q h = let p' = rw x at p in let q' = rw x at q in (omega arith, (omega arith, omega arith))
one_left i n w at l (inr x) p q h = let p' = rw x at p in let q' = rw x at q in (omega arith, (omega arith, omega arith))

pub none_left : (i n w at l : ℕ) → Wide w → l ≡ 73 + n * w → at ≡ 73 + i * w → i ≤ n → l ≤ at → i ≡ n
none_left i n w at l (inl x) p q k h = let p' = rw x at p in let q' = rw x at q in omega arith
none_left i n w at l (inr x) p q k h = let p' = rw x at p in let q' = rw x at q in omega arith

pub one_on : (i w at : ℕ) → Wide w → at ≡ 73 + i * w → at + w ≡ 73 + (i + 1) * w
one_on i w at (inl x) q = let q' = rw x at q in rw x (omega arith)
one_on i w at (inr x) q = let q' = rw x at q in rw x (omega arith)

and_false : (x : Bool) → (x && false) ≡ false
and_false true = refl
and_false false = refl

-- one entry that is not right
pub entries_broken : (i n w : ℕ) (b : List ℕ) → i < n → entry_ok w (73 + i * w) b ≡ false → entries_ok n w b ≡ false
unfolding entries_ok
entries_broken i zero w b h e = absurd (omega arith)
entries_broken i (suc n) w b h e =
    ⊎_elim
    (λ (l : i < n). rw (entries_broken i n w b l e))
    (λ (l : n ≤ i). let k : i ≡ n = omega arith in rw (← k, e) (and_false (entries_ok i w b)))
    (less i n)

-- M102's rules in the order in which they are asked
pub m102_length : (b : List ℕ) → eqb (length b) (73 + be 2 71 b * entry_size (be 5 10 b)) ≡ false → false ≡ m102_ok b
unfolding m102_ok
m102_length b h = rw (h, and_false)

pub m102_short : (b : List ℕ) → length b < 73 → false ≡ m102_ok b
m102_short b h =
    let k = be 2 71 b * entry_size (be 5 10 b) in
    m102_length b (ne_eqb (length b) (73 + k) (λ (e : length b ≡ 73 + k). omega (arith, e, h)))

pub m102_fields : (b : List ℕ) → m102_fixed_ok b ≡ false → false ≡ m102_ok b
unfolding m102_ok
m102_fields b h = rw h

pub m102_entries : (b : List ℕ) (n w : ℕ) → m102_fixed_ok b ≡ true → eqb (length b) (73 + be 2 71 b * entry_size (be 5 10 b)) ≡ true → n ≡ be 2 71 b → w ≡ entry_size (be 5 10 b) → entries_ok n w b ≡ m102_ok b
unfolding m102_ok
m102_entries b n w h k x y = rw (h, k, x, y)

-- the same parts, of equal numbers
pub same_whole : (n m w x : ℕ) → n ≡ m → w ≡ x → 73 + n * w ≡ 73 + m * x
same_whole n m w x p q = rw (p, q)

pub same_both : (p q : Bool) (t s u v : ℕ) (b : List ℕ) → p ≡ pair_ok t s → t ≡ u → s ≡ v → q ≡ m102_values_ok b → (p && q) ≡ (pair_ok u v && m102_values_ok b)
same_both p q t s u v b h x y k = rw (h, x, y, k)
