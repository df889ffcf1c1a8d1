-- What std calls the bytes of a number, high byte first, in the words of this crate.
use Rattle.std.specs.Prelude.{◌≡◌, ℕ, zero, suc, ◌+◌, ◌-◌, ◌*◌, ◌/◌, ◌%◌, ◌^◌, ◌<◌, ◌≤◌, List, [], ◌∷◌, ◌++◌, length, take, drop, replicate, slice_index}
use Rattle.std.proofs.Common.{refl, sym, ap, ◌∙◌, ⊎_elim, arith, add-one, add-suc, zero-add, add-zero, append-nil, append_assoc, pow-suc, mul_assoc, length-drop, length-take-le, take_all, drop-drop, get_or-drop, drop_at}
use Rattle.std.proofs.Math.Nat.{div-div-eq-div-mul, mul_comm, pow-zero, div-one, div-eq_of_lt}
use Rattle.std.proofs.Math.Seq.{get_or-take}
use Rattle.std.proofs.lemmas.List.{length-replicate, replicate-append-replicate}
use Rattle.terms.specs.Cases.{less}
use Rattle.std.specs.Int.{byte_at, byte_worth, bytes_high_first, sum_through}
use borrow.Rule.Slice.PartMut.{put_mid}
use Rattle.octets.specs.Octets.{digits_of, numeral, be, bytes_of, laid}
use Rattle.octets.specs.Numerals.{numeral_take, numeral_drop, length_digits}
use Rattle.octets.specs.Overlays.{laid_append}

byte_down : (n v : ℕ) → byte_at n (v / 256) ≡ byte_at (suc n) v
byte_down zero v = refl
byte_down (suc n) v = ap (λ (k : ℕ). k % 256) (div-div-eq-div-mul v 256 (256 ^ suc n) ∙ ap (λ (k : ℕ). v / k) (mul_comm 256 (256 ^ suc n) ∙ sym (pow-suc 256 (suc n))))

-- the highest byte first, and then the others
digits_cons : (n v : ℕ) → bytes_of (suc n) v ≡ byte_at n v ∷ bytes_of n v
unfolding digits_of
digits_cons zero v = refl
digits_cons (suc n) v = ap (λ (s : List ℕ). s ++ ((v % 256) ∷ [])) (digits_cons n (v / 256)) ∙ ap (λ (b : ℕ). b ∷ bytes_of (suc n) v) (byte_down n v)

pub bytes_written : (n v : ℕ) → bytes_high_first n v ≡ bytes_of n v
unfolding digits_of
bytes_written zero v = refl
bytes_written (suc n) v = ap (λ (s : List ℕ). byte_at n v ∷ s) (bytes_written n v) ∙ sym (digits_cons n v)

-- a sum each of whose terms is 256 times as much
scaled : (f g : ℕ → ℕ) (k : ℕ) → ((i : ℕ) → i ≤ k → g i ≡ f i * 256) → sum_through g k ≡ sum_through f k * 256
scaled f g zero h = h 0 (omega arith)
scaled f g (suc k) h = rw (scaled f g k (λ i l. h i (omega arith)), h (suc k) (omega arith)) (omega arith)

worth_more : (i b : ℕ) → byte_worth (suc i) b ≡ byte_worth i b * 256
worth_more zero b = omega arith
worth_more (suc i) b = ap (λ (k : ℕ). b * k) (pow-suc 256 (suc i)) ∙ sym (mul_assoc b (256 ^ suc i) 256)

worth_of : (j i b : ℕ) → j ≡ suc i → byte_worth j b ≡ byte_worth i b * 256
worth_of j i b e = ap (λ (k : ℕ). byte_worth k b) e ∙ worth_more i b

pub bytes_read : (n : ℕ) (s : List ℕ) → sum_through (λ i. byte_worth (n - i) (slice_index s i)) n ≡ be (suc n) 0 s
unfolding numeral
bytes_read zero s = omega arith
bytes_read (suc n) s =
    let f : ℕ → ℕ = λ i. byte_worth (n - i) (slice_index s i) in
    let g : ℕ → ℕ = λ i. byte_worth (suc n - i) (slice_index s i) in
    let last : suc n - suc n ≡ 0 = omega arith in
    let front : sum_through g n ≡ be (suc n) 0 s * 256 = scaled f g n (λ i l. worth_of (suc n - i) (n - i) (slice_index s i) (omega arith)) ∙ ap (λ (k : ℕ). k * 256) (bytes_read n s) in
    rw (last, front) (ap (λ (k : ℕ). be (suc n) 0 s * 256 + slice_index s k) (sym (zero-add (suc n))))

-- A number of fewer bytes, and of more

bytes_split : (n m v : ℕ) → bytes_of (n + m) v ≡ bytes_of n (v / 256 ^ m) ++ bytes_of m v
unfolding digits_of
bytes_split n zero v = rw (pow-zero, div-one, add-zero) (sym (append-nil (bytes_of n v)))
bytes_split n (suc m) v =
    let e : v / 256 / 256 ^ m ≡ v / 256 ^ suc m = div-div-eq-div-mul v 256 (256 ^ m) ∙ ap (λ (k : ℕ). v / k) (mul_comm 256 (256 ^ m) ∙ sym (pow-suc 256 m)) in
    ap (λ (k : ℕ). bytes_of k v) (add-suc n m)
    ∙ ap (λ (s : List ℕ). s ++ ((v % 256) ∷ [])) (bytes_split n m (v / 256) ∙ ap (λ (k : ℕ). bytes_of n k ++ bytes_of m (v / 256)) e)
    ∙ append_assoc (bytes_of n (v / 256 ^ suc m)) (bytes_of m (v / 256)) ((v % 256) ∷ [])

bytes_zero : (n : ℕ) → bytes_of n 0 ≡ replicate n 0
unfolding digits_of
bytes_zero zero = refl
bytes_zero (suc n) = ap (λ (s : List ℕ). s ++ (0 ∷ [])) (bytes_zero n) ∙ replicate-append-replicate n 1 0 ∙ ap (λ (k : ℕ). replicate k 0) (add-one n)

-- the n lowest bytes of eight, behind the zeros that they lack
pub low_bytes : (n z v : ℕ) → z ≡ n - 8 → v < 256 ^ 8 → replicate z 0 ++ drop (8 - (n - z)) (bytes_of 8 v) ≡ bytes_of n v
low_bytes n z v e h =
    ⊎_elim
    (λ (l : 8 < n).
    let k : 8 - (n - z) ≡ 0 = omega arith in
    let m : z + 8 ≡ n = omega arith in
    let q : v / 256 ^ 8 ≡ 0 = div-eq_of_lt h in
    rw k (ap (λ (s : List ℕ). s ++ bytes_of 8 v) (sym (bytes_zero z) ∙ ap (λ (x : ℕ). bytes_of z x) (sym q)) ∙ sym (bytes_split z 8 v) ∙ ap (λ (x : ℕ). bytes_of x v) m))
    (λ (l : n ≤ 8).
    let o : z ≡ 0 = omega arith in
    let k : 8 - (n - z) ≡ 8 - n = omega arith in
    let m : 8 - n + n ≡ 8 = omega arith in
    rw (k, o) (ap (λ (x : ℕ). drop (8 - n) (bytes_of x v)) (sym m) ∙ ap (drop (8 - n)) (bytes_split (8 - n) n v) ∙ drop_at (bytes_of (8 - n) (v / 256 ^ n)) (bytes_of n v) (8 - n) (length_digits 256 (8 - n) (v / 256 ^ n))))
    (less 8 n)

-- PARTS

-- what is written over a part is laid there
pub part_laid : (at k : ℕ) (d bs : List ℕ) → length bs ≡ k → put_mid at k d bs ≡ laid at bs d
unfolding laid
part_laid at k d bs e = rw e (ap (λ (s : List ℕ). take at d ++ (bs ++ s)) (drop-drop k at d))

-- zeros over the front of a part, and over the rest of it the low bytes of eight
pub low_laid : (at n z v : ℕ) (d a b t : List ℕ) → z ≡ n - 8 → v < 256 ^ 8 → at + n ≤ length d → a ≡ replicate (length (take (at + z - at) (drop at d))) 0 → t ≡ bytes_high_first 8 v
    → b ≡ take (8 - (8 - (n - z))) (drop (8 - (n - z)) t) → put_mid (at + z) (at + n - (at + z)) (put_mid at (at + z - at) d a) b ≡ laid at (bytes_of n v) d
low_laid at n z v d a b t e h room p q r =
    let eight : length (bytes_of 8 v) ≡ 8 = length_digits 256 8 v in
    let some : length (drop (8 - (n - z)) (bytes_of 8 v)) ≡ 8 - (8 - (n - z)) = length-drop (8 - (n - z)) (bytes_of 8 v) ∙ omega (arith, eight) in
    let b' : b ≡ drop (8 - (n - z)) (bytes_of 8 v) = r ∙ rw (q, bytes_written 8 v) (take_all (8 - (8 - (n - z))) (drop (8 - (n - z)) (bytes_of 8 v)) (omega (arith, some))) in
    let lb : length b ≡ n - z = ap length b' ∙ some ∙ omega arith in
    let front : length (take (at + z - at) (drop at d)) ≡ z = length-take-le (at + z - at) (drop at d) (simp length-drop (omega arith)) ∙ omega arith in
    let a' : a ≡ replicate z 0 = p ∙ ap (λ (k : ℕ). replicate k 0) front in
    let la : length a ≡ z = ap length a' ∙ length-replicate {A = ℕ} z 0 in
    part_laid (at + z) (at + n - (at + z)) (put_mid at (at + z - at) d a) b (omega arith)
    ∙ ap (laid (at + z) b) (part_laid at (at + z - at) d a (omega arith))
    ∙ ap (λ (k : ℕ). laid (at + k) b (laid at a d)) (sym la)
    ∙ sym (laid_append at a b d (omega arith))
    ∙ ap (λ (s : List ℕ). laid at s d) (rw (a', b') (low_bytes n z v e h))

-- a byte of a part, and a number in it
pub byte_part : (n i at : ℕ) (s r : List ℕ) → r ≡ take n (drop at s) → i < n → slice_index r i ≡ slice_index s (at + i)
byte_part n i at s r e h = ap (λ (x : List ℕ). slice_index x i) e ∙ get_or-take n (drop at s) i 0 h ∙ get_or-drop at s i 0

pub be_part : (n k at : ℕ) (s r : List ℕ) → k ≡ n → r ≡ take k (drop at s) → be n 0 r ≡ be n at s
be_part n k at s r h e = rw (e, h, numeral_take 256 n 0 n (drop at s) (omega arith), numeral_drop) (ap (λ (k : ℕ). be n k s) (add-zero at))

-- five bytes behind three zeros
pub be_five : (bs : List ℕ)
    → sum_through (λ i. byte_worth (7 - i) (slice_index (0 ∷ 0 ∷ 0 ∷ slice_index bs 0 ∷ slice_index bs 1 ∷ slice_index bs 2 ∷ slice_index bs 3 ∷ slice_index bs 4 ∷ []) i)) 7 ≡ be 5 0 bs
unfolding numeral
be_five bs = omega arith
