-- Laws of the sums.
use Rattle.std.specs.Prelude.{◌≡◌, ℕ, suc, ◌+◌, ◌-◌, ◌*◌, ◌%◌, ◌<◌, ◌≤◌, List, [], ◌∷◌, ◌++◌, length, take, drop, replicate}
use Rattle.std.proofs.Common.{sym, ap, ◌∙◌, append_assoc, arith, mul-zero, mul-suc, length-drop, length-take-le, take-add, drop-drop}
use Rattle.std.proofs.lemmas.List.{length-replicate}
use Rattle.std.proofs.lemmas.Nat.{mul-mod_second}
use Rattle.octets.specs.Octets.{sum_of, sum8, sum_after, laid}
use Rattle.octets.specs.Overlays.{take_laid, mid_laid, drop_laid}
use Rattle.octets.specs.Sums.{sum_of_append}

-- A SUM AFTER BYTES CHANGED, without the others

one_changed : (p x q b v : ℕ) → v ≡ (p + (x + q)) % 256 → (v + (256 - x % 256) + b) % 256 ≡ (p + (b + q)) % 256
one_changed p x q b v e = omega arith

-- where v is the sum of all, it is after the old bytes became b the sum of what then stands there
pub sum_after_lem : (a old c : List ℕ) (b v : ℕ) → v ≡ sum8 (a ++ (old ++ c)) → sum_after v old b ≡ sum8 (a ++ (replicate (length old) b ++ c))
unfolding sum_after sum8 sum_of
sum_after_lem a [] c b v e = e
sum_after_lem a (x ∷ old) c b v e =
    let h : v ≡ (sum_of a + (x + sum_of (old ++ c))) % 256 = e ∙ ap (λ (k : ℕ). k % 256) (sum_of_append a (x ∷ (old ++ c))) in
    let g : (v + (256 - x % 256) + b) % 256 ≡ sum8 ((a ++ (b ∷ [])) ++ (old ++ c)) =
    one_changed (sum_of a) x (sum_of (old ++ c)) b v h ∙ ap (λ (k : ℕ). k % 256) (sym (ap sum_of (append_assoc a (b ∷ []) (old ++ c)) ∙ sum_of_append a (b ∷ (old ++ c)))) in
    sum_after_lem (a ++ (b ∷ [])) old c b _ g ∙ ap sum8 (append_assoc a (b ∷ []) (replicate (length old) b ++ c))

-- the first bytes of a list in three parts
in_three : (at n k : ℕ) (d : List ℕ) → take (at + (n + k)) d ≡ take at d ++ (take n (drop at d) ++ take k (drop (at + n) d))
in_three at n k d =
    take-add at (n + k) d ∙ ap (λ (x : List ℕ). take at d ++ x) (take-add n k (drop at d) ∙ ap (λ (y : List ℕ). take n (drop at d) ++ take k y) (drop-drop n at d))

-- the same where the bytes stand: v is the sum of the first m of a list, and n of these are
-- painted over
module _ (d : List ℕ) (m at n b v : ℕ) (within : at + n ≤ m) (there : m ≤ length d) where
  abbrev bs : List ℕ
  bs = replicate n b

  abbrev behind : List ℕ
  behind = take (m - at - n) (drop (at + n) d)

  fits : at + length bs ≤ length d
  fits = rw (length-replicate n b) (omega arith)

  split : at + (n + (m - at - n)) ≡ m
  split = omega arith

  painted : take m (laid at bs d) ≡ take at d ++ (bs ++ behind)
  painted =
      let mid : take n (drop at (laid at bs d)) ≡ bs = rw (length-replicate n b) at (mid_laid at bs d fits) in
      let end : drop (at + n) (laid at bs d) ≡ drop (at + n) d = rw (length-replicate n b) at (drop_laid at bs d fits) in
      ap (λ (x : ℕ). take x (laid at bs d)) (sym split) ∙ in_three at n (m - at - n) (laid at bs d) ∙ rw (take_laid at bs d fits, mid, end)

  pub sum_after_part : v ≡ sum8 (take m d) → sum_after v (take n (drop at d)) b ≡ sum8 (take m (laid at bs d))
  sum_after_part e =
      let old = take n (drop at d) in
      let long : length old ≡ n = length-take-le n (drop at d) (simp length-drop (omega arith)) in
      sum_after_lem (take at d) old behind b v (e ∙ ap sum8 (ap (λ (x : ℕ). take x d) (sym split) ∙ in_three at n (m - at - n) d))
      ∙ ap (λ (x : ℕ). sum8 (take at d ++ (replicate x b ++ behind))) long
      ∙ ap sum8 (sym painted)

-- A SUM AFTER BYTES CHANGED, by their sum and their number

counted : (b n : ℕ) → b * (suc n % 256) % 256 ≡ (b * (n % 256) % 256 + b) % 256
counted b n = mul-mod_second b (suc n) 256 ∙ ap (λ (k : ℕ). k % 256) (mul-suc b n) ∙ omega (arith, mul-mod_second b n 256)

one_more : (v x b n p q : ℕ) → q ≡ (p + b) % 256 → ((v + (256 - (x + n) % 256)) % 256 + q) % 256 ≡ (((v + (256 - x % 256) + b) % 256 + (256 - n % 256)) % 256 + p) % 256
one_more v x b n p q e = omega arith

pub sum_after_is : (old : List ℕ) (v b : ℕ) → v < 256 → ((v + (256 - sum8 old)) % 256 + b * (length old % 256) % 256) % 256 ≡ sum_after v old b
unfolding sum_after sum8 sum_of
sum_after_is [] v b h = omega (arith, mul-zero b)
sum_after_is (x ∷ old) v b h =
    one_more v x b (sum_of old) (b * (length old % 256) % 256) (b * (suc (length old) % 256) % 256) (counted b (length old))
    ∙ sum_after_is old ((v + (256 - x % 256) + b) % 256) b (omega arith)
