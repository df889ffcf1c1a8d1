-- Laws of decimal text: what is laid is digits that say its number, and digits laid again
-- as they stood.
use Rattle.std.specs.Prelude.{ℕ, zero, suc, ◌+◌, ◌*◌, ◌/◌, ◌%◌, ◌-◌, ◌<◌, ◌≤◌, ◌^◌, ◌≡◌, refl, Bool, true, false, ◌&&◌, List, [], ◌∷◌, ◌++◌, map, leb, length, get_or, take}
use Rattle.std.proofs.Common.{sym, ◌∙◌, ⊎_elim, add-one, zero-add, not-suc-le-zero, le_of_suc-le-suc, arith, lit<, lit≤, length-append, take-suc, take_all, length-take-le, leb-true, le-leb}
use Rattle.std.proofs.Math.Bool.{and_assoc}
use Rattle.std.proofs.lemmas.List.{map-append, length-map, get_or_at}
use Rattle.std.proofs.Math.Nat.{pow-le-pow_right}
use Rattle.terms.specs.Cases.{two, clash}
use Rattle.octets.specs.Octets.{digits_of, Below}
use Rattle.octets.specs.Numerals.{numeral_more, numeral_append, numeral_cons, numeral_below, numeral_digits, digits_numeral, length_digits, digits_last, digits_none}
use Rattle.digits.specs.Digits.{decimal_of, is_digit, all_digits, said_by}

pub both : (a b : Bool) → (a && b) ≡ true → (a ≡ true) × (b ≡ true)
both true b e = (refl, e)
both false b e = absurd (clash e refl)

-- WRITING

pub length_decimal : (n v : ℕ) → length (decimal_of n v) ≡ n
unfolding decimal_of
length_decimal n v = length-map (digits_of 10 n v) _ ∙ length_digits 10 n v

-- the last digit, where there is one, and the text of no digits
pub decimal_last : (n v : ℕ) → 0 < n → decimal_of n v ≡ decimal_of (n - 1) (v / 10) ++ ((v % 10 + 48) ∷ [])
unfolding decimal_of
decimal_last n v h = rw (digits_last 10 n v h) (map-append (λ (x : ℕ). x + 48) (digits_of 10 (n - 1) (v / 10)) ((v % 10) ∷ []))

pub decimal_none : (n v : ℕ) → n ≤ 0 → decimal_of n v ≡ []
unfolding decimal_of
decimal_none n v h = rw (digits_none 10 n v h)

decimal_suc : (n v : ℕ) → decimal_of (suc n) v ≡ decimal_of n (v / 10) ++ ((v % 10 + 48) ∷ [])
decimal_suc n v = let e : suc n - 1 ≡ n = omega arith in decimal_last (suc n) v (omega arith) ∙ rw e

-- READING

pub all_append : (a b : List ℕ) → all_digits (a ++ b) ≡ (all_digits a && all_digits b)
unfolding all_digits
all_append [] b = refl
all_append (x ∷ a) b = rw (all_append a b) (sym (and_assoc (is_digit x) (all_digits a) (all_digits b)))

-- the bytes behind the first
pub all_rest : (x : ℕ) (t : List ℕ) → all_digits (x ∷ t) ≡ true → all_digits t ≡ true
unfolding all_digits
all_rest x t h = (both (is_digit x) (all_digits t) h).1

-- one byte more
pub all_more : (t : List ℕ) (b : ℕ) → all_digits t ≡ true → is_digit b ≡ true → all_digits (t ++ (b ∷ [])) ≡ true
unfolding all_digits
all_more t b h k = rw (all_append t (b ∷ []), h, k)

-- each byte of a text of digits is one
pub all_each : (t : List ℕ) (i : ℕ) → all_digits t ≡ true → i < length t → is_digit (get_or t i 0) ≡ true
unfolding all_digits
all_each [] i h l = absurd (not-suc-le-zero l)
all_each (x ∷ t) zero h l = (both (is_digit x) (all_digits t) h).0
all_each (x ∷ t) (suc i) h l = all_each t i (both (is_digit x) (all_digits t) h).1 (le_of_suc-le-suc l)

-- and a text of bytes that are each one is a text of digits
pub each_all : (t : List ℕ) → ((i : ℕ) → i < length t → is_digit (get_or t i 0) ≡ true) → all_digits t ≡ true
unfolding all_digits
each_all [] h = refl
each_all (x ∷ t) h = rw (h 0 (omega arith)) (each_all t (λ (i : ℕ) (l : i < length t). h (suc i) (omega arith)))

pub digit_bounds : (b : ℕ) → is_digit b ≡ true → (48 ≤ b) × (b ≤ 57)
digit_bounds b h = (leb-true 48 b (both (leb 48 b) (leb b 57) h).0, leb-true b 57 (both (leb 48 b) (leb b 57) h).1)

pub digit_of : (x : ℕ) → x < 10 → is_digit (x + 48) ≡ true
digit_of x h = rw (le-leb 48 (x + 48) (omega arith), le-leb (x + 48) 57 (omega arith))

-- one digit more, at the end and in front
pub said_more : (t : List ℕ) (b : ℕ) → said_by (t ++ (b ∷ [])) ≡ said_by t * 10 + (b - 48)
unfolding said_by
said_more t b =
    let e : length (t ++ (b ∷ [])) ≡ length t + 1 = length-append t (b ∷ []) in
    let f : ℕ → ℕ = λ (x : ℕ). x - 48 in
    let l : length (map f t) ≡ length t = length-map t f in
    rw (e, map-append f t (b ∷ []), numeral_more 10 (length t) 0 (map f t ++ (f b ∷ [])), numeral_append 10 (length t) 0 (map f t) (f b ∷ []) (omega arith), zero-add, get_or_at (map f t) (f b) [] 0 (length t) l)

pub said_cons : (x : ℕ) (t : List ℕ) → said_by (x ∷ t) ≡ (x - 48) * 10 ^ length t + said_by t
unfolding said_by
said_cons x t = rw (← add-one (length t)) (numeral_cons 10 (length t) (x - 48) (map (λ (y : ℕ). y - 48) t))

values_below : (t : List ℕ) → all_digits t ≡ true → Below 10 (map (λ (x : ℕ). x - 48) t)
unfolding all_digits
values_below [] h i = lit< tt
values_below (x ∷ t) h zero = omega (arith, digit_bounds x (both (is_digit x) (all_digits t) h).0)
values_below (x ∷ t) h (suc i) = values_below t (both (is_digit x) (all_digits t) h).1 i

pub said_below : (t : List ℕ) → all_digits t ≡ true → said_by t < 10 ^ length t
unfolding said_by
said_below t h = numeral_below 10 (length t) 0 (map (λ (x : ℕ). x - 48) t) (values_below t h)

-- BOTH WAYS

-- what is written is digits
pub all_decimal : (n v : ℕ) → all_digits (decimal_of n v) ≡ true
unfolding all_digits
all_decimal zero v = rw (decimal_none 0 v (lit≤ tt))
all_decimal (suc n) v = rw (decimal_suc n v) (all_more (decimal_of n (v / 10)) (v % 10 + 48) (all_decimal n (v / 10)) (digit_of (v % 10) (omega arith)))

values_ascii : (l : List ℕ) → map (λ (x : ℕ). x - 48) (map (λ (x : ℕ). x + 48) l) ≡ l
values_ascii [] = refl
values_ascii (x ∷ l) = let e : x + 48 - 48 ≡ x = omega arith in rw (e, values_ascii l)

ascii_values : (t : List ℕ) → all_digits t ≡ true → map (λ (x : ℕ). x + 48) (map (λ (x : ℕ). x - 48) t) ≡ t
unfolding all_digits
ascii_values [] h = refl
ascii_values (x ∷ t) h =
    let k = both (is_digit x) (all_digits t) h in
    let e : x - 48 + 48 ≡ x = omega (arith, digit_bounds x k.0) in
    rw (e, ascii_values t k.1)

-- read of written
pub said_decimal : (n v : ℕ) → v < 10 ^ n → said_by (decimal_of n v) ≡ v
unfolding said_by decimal_of
said_decimal n v h = rw (values_ascii (digits_of 10 n v), length-map (digits_of 10 n v) (λ (x : ℕ). x + 48), length_digits 10 n v) (numeral_digits 10 (lit< tt) n v h)

-- written of read
pub decimal_said : (t : List ℕ) → all_digits t ≡ true → decimal_of (length t) (said_by t) ≡ t
unfolding said_by decimal_of
decimal_said t h =
    let l : length (map (λ (x : ℕ). x - 48) t) ≡ length t = length-map t (λ (x : ℕ). x - 48) in
    rw (digits_numeral 10 (lit< tt) (length t) 0 (map (λ (x : ℕ). x - 48) t) (values_below t h) (omega arith), take_all (length t) (map (λ (x : ℕ). x - 48) t) (omega arith)) (ascii_values t h)

-- FROM THE FRONT

-- eighteen digits leave room for one more
pub said_room : (t : List ℕ) (i : ℕ) → i ≤ length t → i ≤ 18 → all_digits (take i t) ≡ true → said_by (take i t) < 10 ^ 18
said_room t i h k d =
    let l : length (take i t) ≡ i = length-take-le i t h in
    omega (arith, rw l at (said_below (take i t) d), pow-le-pow_right {n = 10} (lit< tt) {i = i} {j = 18} k)

module _ (t : List ℕ) (i : ℕ) (within : i < length t) where
  piece_more : take (i + 1) t ≡ take i t ++ (get_or t i 0 ∷ [])
  piece_more = rw add-one (take-suc t i 0 within)

  -- one digit more
  pub all_on : all_digits (take i t) ≡ true → is_digit (get_or t i 0) ≡ true → all_digits (take (i + 1) t) ≡ true
  all_on k l = rw piece_more (all_more (take i t) (get_or t i 0) k l)

  pub said_on : said_by (take (i + 1) t) ≡ said_by (take i t) * 10 + (get_or t i 0 - 48)
  said_on = rw piece_more (said_more (take i t) (get_or t i 0))

  -- a byte that is none
  pub said_stops : is_digit (get_or t i 0) ≡ false → all_digits t ≡ false
  said_stops f = ⊎_elim (λ (h : all_digits t ≡ true). absurd (clash (all_each t i h within) f)) (λ (g : all_digits t ≡ false). g) (two (all_digits t))
