-- The first place where two lists differ, byte by byte; and what it means.
use Rattle.std.specs.Prelude.{ℕ, suc, ◌+◌, ◌≤◌, ◌<◌, ◌≡◌, List, [], ◌∷◌, ◌++◌, length, get_or, take, drop, ltb}
use Rattle.std.proofs.Common.{sym, ap, add_assoc, ⊎_elim, ◌∙◌, arith, add-zero, drop_of_length-le, drop-cons, length-take-le, get_or-take, eq-eqb, ne_eqb, lt-ltb, le-ltb}
use Rattle.terms.specs.Paper.{pick}
use Rattle.terms.specs.Cases.{same}
use Rattle.clean_spec.specs.Clean.{differ_of}

pub cons_other : (p x y : ℕ) (a b : List ℕ) → (x ≡ y → ⊥) → differ_of p (x ∷ a) (y ∷ b) ≡ p ∷ []
unfolding differ_of
cons_other p x y a b ne = rw (ne_eqb x y ne)

pub cons_same : (p x y : ℕ) (a b : List ℕ) → x ≡ y → differ_of p (x ∷ a) (y ∷ b) ≡ differ_of (p + 1) a b
unfolding differ_of
cons_same p x y a b e = rw (eq-eqb x y e)

-- the front f of a list, against what stands in s from n on, byte by byte
module _ (s f rest : List ℕ) (n i : ℕ) (h : n + i < length s) (l : i < length f) where
  front : differ_of (n + i) (drop (n + i) s) (drop i f ++ rest) ≡ differ_of (n + i) (get_or s (n + i) 0 ∷ drop (suc (n + i)) s) (get_or f i 0 ∷ (drop (suc i) f ++ rest))
  front = rw (drop-cons s (n + i) 0 h, drop-cons f i 0 l)

  pub differ_step : get_or s (n + i) 0 ≡ get_or f i 0 → differ_of (n + i) (drop (n + i) s) (drop i f ++ rest) ≡ differ_of (n + (i + 1)) (drop (n + (i + 1)) s) (drop (i + 1) f ++ rest)
  differ_step e =
      let q : suc (n + i) ≡ n + (i + 1) = omega arith in
      let r : n + i + 1 ≡ n + (i + 1) = omega arith in
      let t : suc i ≡ i + 1 = omega arith in
      front ∙ cons_same (n + i) _ _ _ _ e ∙ rw (q, r, t)

  pub differ_here : (get_or s (n + i) 0 ≡ get_or f i 0 → ⊥) → differ_of (n + i) (drop (n + i) s) (drop i f ++ rest) ≡ (n + i) ∷ []
  differ_here ne = front ∙ cons_other (n + i) _ _ _ _ ne

-- where nothing is left of the second
pub differ_end : (s : List ℕ) (n : ℕ) → length s ≤ n → differ_of n (drop n s) [] ≡ []
unfolding differ_of
differ_end s n h = rw (drop_of_length-le s h)

pub differ_more : (s : List ℕ) (n : ℕ) → n < length s → differ_of n (drop n s) [] ≡ n ∷ []
unfolding differ_of
differ_more s n h = rw (drop-cons s n 0 h)

-- i of the first size bytes of one are alike with s from n on: whatever follows those, the first
-- difference is the one behind the i bytes
pub record AgreesSoFar (s one : List ℕ) (n size i : ℕ) : Type 0 where
  pub few : i ≤ size
  pub behind : (rest : List ℕ) → differ_of n (drop n s) (take size one ++ rest) ≡ differ_of (n + i) (drop (n + i) s) (drop i (take size one) ++ rest)

module _ (s one : List ℕ) (n size : ℕ) (t : n + size ≤ length s) (l : size ≤ length one) where
  pub agrees_start : AgreesSoFar s one n size 0
  agrees_start = record { few = omega arith; behind = λ rest. rw add-zero }

  long : length (take size one) ≡ size
  long = length-take-le size one l

  module _ (i : ℕ) (w : AgreesSoFar s one n size i) where
    module _ (h : i < size) where
      at_i : get_or (take size one) i 0 ≡ get_or one i 0
      at_i = get_or-take size one i 0 h

      pub agrees_step : get_or s (n + i) 0 ≡ get_or one i 0 → AgreesSoFar s one n size (i + 1)
      agrees_step e =
          record { few = omega arith; behind = λ rest. w.behind rest ∙ differ_step s (take size one) rest n i (omega arith) (rw long h) (e ∙ sym at_i) }

      pub agrees_here : (get_or s (n + i) 0 ≡ get_or one i 0 → ⊥) → (rest : List ℕ)
          → differ_of n (drop n s) (take size one ++ rest) ≡ pick (ltb i size) ((n + i) ∷ []) (differ_of (n + size) (drop (n + size) s) rest)
      agrees_here ne rest =
          w.behind rest ∙ differ_here s (take size one) rest n i (omega arith) (rw long h) (λ (e : get_or s (n + i) 0 ≡ get_or (take size one) i 0). ne (e ∙ at_i)) ∙ rw (lt-ltb i size h)

    pub agrees_all : size ≤ i → (rest : List ℕ)
        → differ_of n (drop n s) (take size one ++ rest) ≡ pick (ltb size size) ((n + size) ∷ []) (differ_of (n + size) (drop (n + size) s) rest)
    agrees_all h rest =
        let e : i ≡ size = omega (arith, w.few) in
        let d : length (take size one) ≤ size = omega (arith, long) in
        (rw e at (w.behind rest)) ∙ rw (drop_of_length-le (take size one) d, le-ltb size size (omega arith))

-- TWO PARTS OF ONE LENGTH at the front of two lists

-- where they are equal, what lies behind them decides
pub differ_behind : (p n : ℕ) (a b s t : List ℕ) → length a ≡ length b → [] ≡ differ_of p a b → differ_of n (a ++ s) (b ++ t) ≡ differ_of (n + length a) s t
unfolding differ_of
differ_behind p n [] [] s t l e = rw add-zero
differ_behind p n [] (y ∷ b) s t l e = absurd (omega (arith, l))
differ_behind p n (x ∷ a) [] s t l e = absurd (omega (arith, l))
differ_behind p n (x ∷ a) (y ∷ b) s t l e =
    ⊎_elim (λ (z : x ≡ y). cons_same n x y (a ++ s) (b ++ t) z ∙ differ_behind (p + 1) (n + 1) a b s t (omega (arith, l)) (e ∙ cons_same p x y a b z) ∙ ap (λ (k : ℕ). differ_of k s t) (omega arith))
    (λ (ne : x ≡ y → ⊥). absurd (omega (arith, ap (length {A = ℕ}) (e ∙ cons_other p x y a b ne))))
    (same x y)

-- where they differ, so do the lists, and there
pub differ_there : (m p q : ℕ) (a b s t : List ℕ) → length a ≡ length b → q ∷ [] ≡ differ_of p a b → differ_of (m + p) (a ++ s) (b ++ t) ≡ (m + q) ∷ []
unfolding differ_of
differ_there m p q [] [] s t l e = absurd (omega (arith, ap (length {A = ℕ}) e))
differ_there m p q [] (y ∷ b) s t l e = absurd (omega (arith, l))
differ_there m p q (x ∷ a) [] s t l e = absurd (omega (arith, l))
differ_there m p q (x ∷ a) (y ∷ b) s t l e =
    ⊎_elim (λ (z : x ≡ y). cons_same (m + p) x y (a ++ s) (b ++ t) z ∙ rw (add_assoc m p 1) (differ_there m (p + 1) q a b s t (omega (arith, l)) (e ∙ cons_same p x y a b z)))
    (λ (ne : x ≡ y → ⊥). cons_other (m + p) x y (a ++ s) (b ++ t) ne ∙ ap (λ (l : List ℕ). (m + get_or l 0 0) ∷ []) (sym (e ∙ cons_other p x y a b ne)))
    (same x y)

-- that place is not past the end of the first
pub differ_inside : (p q : ℕ) (a b : List ℕ) → q ∷ [] ≡ differ_of p a b → q ≤ p + length a
unfolding differ_of
differ_inside p q [] [] e = absurd (omega (arith, ap (length {A = ℕ}) e))
differ_inside p q [] (y ∷ b) e = omega (arith, ap (λ (l : List ℕ). get_or l 0 0) e)
differ_inside p q (x ∷ a) [] e = omega (arith, ap (λ (l : List ℕ). get_or l 0 0) e)
differ_inside p q (x ∷ a) (y ∷ b) e =
    ⊎_elim (λ (z : x ≡ y). omega (arith, differ_inside (p + 1) q a b (e ∙ cons_same p x y a b z)))
    (λ (ne : x ≡ y → ⊥). omega (arith, ap (λ (l : List ℕ). get_or l 0 0) (e ∙ cons_other p x y a b ne)))
    (same x y)
