-- The sum after some bytes changed, from the sum before: they are taken off, and what stands there
-- now is added.
use Rattle.std.specs.Prelude.{ℕ, ◌+◌, ◌-◌, ◌%◌, ◌<◌, ◌≤◌, ◌≡◌, refl, List, [], ◌∷◌, ◌++◌, length, take, drop, replicate}
use Rattle.std.proofs.Common.{sym, ap, ◌∙◌, arith, take-append-drop, length-drop, length-take-le, drop-drop}
use Rattle.std.proofs.lemmas.List.{length-replicate}
use Rattle.octets.specs.Octets.{sum_of, sum8, sum_after, laid}
use Rattle.octets.specs.Sums.{sum_of_append, sum8_below}

unfoldable pub sum_moved : ℕ → List ℕ → List ℕ → ℕ
sum_moved v old new = (v + sum8 new + (256 - sum8 old)) % 256

-- nothing changed; changed twice
pub moved_same : (v : ℕ) (s : List ℕ) → v < 256 → v ≡ sum_moved v s s
unfolding sum_moved
moved_same v s h = let b = sum8_below s in omega arith

pub moved_on : (v w x : ℕ) (a b c : List ℕ) → w ≡ sum_moved v a b → x ≡ sum_moved w b c → x ≡ sum_moved v a c
unfolding sum_moved
moved_on v w x a b c e f = let p = sum8_below a in let q = sum8_below b in let r = sum8_below c in turned v w x (sum8 a) (sum8 b) (sum8 c) p q r e f
  where
    turned : (v w x a b c : ℕ) → a < 256 → b < 256 → c < 256 → w ≡ (v + b + (256 - a)) % 256 → x ≡ (w + c + (256 - b)) % 256 → x ≡ (v + c + (256 - a)) % 256
    turned v w x a b c p q r e f = omega arith

pub moved_below : (v : ℕ) (a b : List ℕ) → sum_moved v a b < 256
unfolding sum_moved
moved_below v a b = omega arith

-- where v is the sum of bytes that end with the old ones
pub moved_behind : (x old new : List ℕ) (v : ℕ) → v ≡ sum8 (x ++ old) → sum_moved v old new ≡ sum8 (x ++ new)
unfolding sum_moved sum8
moved_behind x old new v e = let d = e ∙ ap (λ (n : ℕ). n % 256) (sum_of_append x old) in rw (sum_of_append x new) (omega arith)

-- BYTES PAINTED OVER ONE BY ONE, in remainders

turn : (s x q : ℕ) → ((s + q) % 256 + x) % 256 ≡ (s + (x + q)) % 256
turn s x q = omega arith

one_off : (v x b : ℕ) → ((v + (256 - x % 256) + b) % 256 + x) % 256 ≡ (v + b) % 256
one_off v x b = omega arith

swap : (w p x : ℕ) → ((w + p) % 256 + x) % 256 ≡ ((w + x) % 256 + p) % 256
swap w p x = omega arith

after : (old : List ℕ) (b v : ℕ) → (sum_after v old b + sum_of old) % 256 ≡ (v + sum_of (replicate (length old) b)) % 256
unfolding sum_after sum_of
after [] b v = refl
after (x ∷ old) b v =
    let w = (v + (256 - x % 256) + b) % 256 in
    let p = sum_of (replicate (length old) b) in
    sym (turn (sum_after w old b) x (sum_of old))
    ∙ ap (λ (n : ℕ). (n + x) % 256) (after old b w)
    ∙ swap w p x
    ∙ ap (λ (n : ℕ). (n + p) % 256) (one_off v x b)
    ∙ last v b p
  where
    last : (v b p : ℕ) → ((v + b) % 256 + p) % 256 ≡ (v + (b + p)) % 256
    last v b p = omega arith

after_below : (old : List ℕ) (b v : ℕ) → v < 256 → sum_after v old b < 256
unfolding sum_after
after_below [] b v h = h
after_below (x ∷ old) b v h = after_below old b _ (below (v + (256 - x % 256) + b))
  where
    below : (n : ℕ) → n % 256 < 256
    below n = omega arith

pub moved_after : (d : List ℕ) (at n b v : ℕ) → v < 256 → at + n ≤ length d → sum_after v (take n (drop at d)) b ≡ sum_moved v d (laid at (replicate n b) d)
unfolding sum_moved sum8 laid
moved_after d at n b v h room =
    let old = take n (drop at d) in
    let k : length old ≡ n = length-take-le n (drop at d) (simp length-drop (omega arith)) in
    let c = drop (at + n) d in
    let x = sum_of (take at d) in
    let cut : d ≡ take at d ++ (old ++ c) = sym (ap (λ (l : List ℕ). take at d ++ l) (ap (λ (l : List ℕ). old ++ l) (sym (drop-drop n at d)) ∙ take-append-drop n (drop at d)) ∙ take-append-drop at d) in
    let s : sum_of d ≡ x + (sum_of old + sum_of c) = ap sum_of cut ∙ sum_of_append (take at d) (old ++ c) ∙ ap (λ (m : ℕ). x + m) (sum_of_append old c) in
    let t : sum_of (take at d ++ (replicate n b ++ drop (at + length (replicate n b)) d)) ≡ x + (sum_of (replicate n b) + sum_of c)
    = rw (length-replicate n b) (sum_of_append (take at d) (replicate n b ++ c) ∙ ap (λ (m : ℕ). x + m) (sum_of_append (replicate n b) c)) in
    let e : (sum_after v old b + sum_of old) % 256 ≡ (v + sum_of (replicate n b)) % 256 = after old b v ∙ ap (λ (m : ℕ). (v + sum_of (replicate m b)) % 256) k in
    rw (s, t) (taken_off (sum_after v old b) _ _ (after_below old b v h) (sym (around v x (sum_of (replicate n b)) (sum_of c) ∙ ap (λ (m : ℕ). (m + (x + sum_of c)) % 256) (sym e) ∙ sym (around (sum_after v old b) x (sum_of old) (sum_of c)))))
  where
    around : (v x p y : ℕ) → (v + (x + (p + y)) % 256) % 256 ≡ ((v + p) % 256 + (x + y)) % 256
    around v x p y = omega arith

    taken_off : (s a q : ℕ) → s < 256 → (s + q % 256) % 256 ≡ a % 256 → s ≡ (a + (256 - q % 256)) % 256
    taken_off s a q h e = omega arith
