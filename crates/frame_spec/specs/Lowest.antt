-- Frame law 5: the search finds the lowest place from its start on where a frame reads, or none.
use Rattle.std.specs.Prelude.{ℕ, zero, suc, ◌+◌, ◌-◌, ◌≤◌, ◌<◌, ◌≡◌, true, false, ◌↔◌, List, [], ◌∷◌, length, drop, get_or}
use Rattle.std.proofs.Common.{sym, ap, ◌∙◌, ⊎_elim, arith, eq-or-lt_of_le, length-drop, eqb-true, eq-eqb}
use Rattle.terms.specs.Paper.{Paper, answer, one_number}
use Rattle.terms.specs.Cases.{two, less, clash}
use Rattle.frame_spec.specs.Frame.{read_of, reads}
use Rattle.frame_spec.specs.Outcomes.{good}
use Rattle.frame_spec.specs.Search.{first_of, search_of}
use Rattle.frame_spec.specs.SearchLaws.{first_hit, first_miss, first_end, search_beyond, search_first}

-- "a frame reads 0" at a place
abbrev pub ReadsAt : List ℕ → ℕ → Type 0
ReadsAt s p = (read_of (drop p s)).number ≡ 0

-- which facts stand behind an answer of the search from a place that is not beyond the end
pub data Lowest (s : List ℕ) (from : ℕ) (a : Paper) : Type 0 where
  l_at : (p : ℕ) → a ≡ answer 0 (p ∷ []) → from ≤ p → p < length s → ReadsAt s p → ((j : ℕ) → from ≤ j → j < p → ReadsAt s j → ⊥) → Lowest s from a
  l_none : a ≡ answer 0 [] → ((j : ℕ) → from ≤ j → j < length s → ReadsAt s j → ⊥) → Lowest s from a

unread : (s : List ℕ) (j : ℕ) → reads (drop j s) ≡ false → ReadsAt s j → ⊥
unread s j f r = clash (eq-eqb (read_of (drop j s)).number 0 r) f

-- one more place that does not read
back : (s : List ℕ) (p : ℕ) (a : Paper) → reads (drop p s) ≡ false → Lowest s (p + 1) a → Lowest s p a
back s p a m (l_at q e x y z d) =
    l_at q e (omega arith) y z (λ j h k r. ⊎_elim (λ g. unread s p m (rw (← g) at r)) (λ (l : p < j). d j (omega arith) k r) (eq-or-lt_of_le h))
back s p a m (l_none e d) =
    l_none e (λ j h k r. ⊎_elim (λ g. unread s p m (rw (← g) at r)) (λ (l : p < j). d j (omega arith) k r) (eq-or-lt_of_le h))

from_k : (k : ℕ) (s : List ℕ) (p : ℕ) → length s ≤ p + k → Lowest s p (first_of p (drop p s))
from_k zero s p h = l_none (first_end p s (omega arith)) (λ j a b r. omega arith)
from_k (suc k) s p h =
    ⊎_elim (λ (l : p < length s).
    ⊎_elim (λ (t : reads (drop p s) ≡ true). l_at p (first_hit p s l t) (omega arith) l (eqb-true _ 0 t) (λ j a b r. omega arith))
    (λ (f : reads (drop p s) ≡ false). rw (first_miss p s l f) (back s p _ f (from_k k s (p + 1) (omega arith))))
    (two (reads (drop p s))))
    (λ (l : length s ≤ p). l_none (first_end p s l) (λ j a b r. omega arith))
    (less p (length s))

pub lowest : (s : List ℕ) (from : ℕ) → from ≤ length s → Lowest s from (search_of s from)
lowest s from h = rw (search_first s from h) (from_k (length s) s from (omega arith))

-- GIVEN EXACTLY WHEN

lowest_number : (s : List ℕ) (from : ℕ) (a : Paper) → Lowest s from a → a.number ≡ 0
lowest_number s from a (l_at p e x y z d) = one_number e
lowest_number s from a (l_none e d) = one_number e

-- 9: "search start beyond the end"
pub search_given_9 : (s : List ℕ) (from : ℕ) → ((search_of s from).number ≡ 9) ↔ (length s < from)
search_given_9 s from = (
  λ (e : (search_of s from).number ≡ 9).
      ⊎_elim (λ (l : length s < from). l) (λ (l : from ≤ length s). absurd (omega (arith, lowest_number s from (search_of s from) (lowest s from l)))) (less (length s) from),
  λ (l : length s < from). one_number (search_beyond s from l),
)

-- 0: any other start
pub search_given_0 : (s : List ℕ) (from : ℕ) → ((search_of s from).number ≡ 0) ↔ (from ≤ length s)
search_given_0 s from = (
  λ (e : (search_of s from).number ≡ 0).
      ⊎_elim (λ (l : length s < from). absurd (omega (arith, one_number (search_beyond s from l)))) (λ (l : from ≤ length s). l) (less (length s) from),
  λ (l : from ≤ length s). lowest_number s from (search_of s from) (lowest s from l),
)

-- a place: exactly the lowest that reads
pub record LowestPlace (s : List ℕ) (from p : ℕ) : Type 0 where
  pub after : from ≤ p
  pub reads : ReadsAt s p
  pub none_before : (j : ℕ) → from ≤ j → j < p → ReadsAt s j → ⊥

-- nothing reads at or beyond the end
inside : (s : List ℕ) (j : ℕ) → ReadsAt s j → j < length s
inside s j r = let h : 24 ≤ length s - j = simp length-drop at (good (drop j s) r).whole.header in omega arith

place_of : (s : List ℕ) (from p : ℕ) (a : Paper) → Lowest s from a → a ≡ answer 0 (p ∷ []) → LowestPlace s from p
place_of s from p a (l_at q e x y z d) g =
    let i : q ≡ p = ap (λ (b : Paper). get_or b.values 0 0) (sym e ∙ g) in
    record { after = rw (← i) x; reads = rw (← i) z; none_before = rw (← i) d }
place_of s from p a (l_none e d) g = absurd (omega (arith, ap (λ (b : Paper). length b.values) (sym e ∙ g)))

is_place : (s : List ℕ) (from p : ℕ) (a : Paper) → Lowest s from a → LowestPlace s from p → a ≡ answer 0 (p ∷ [])
is_place s from p a (l_at q e x y z d) l =
    ⊎_elim (λ (h : q < p). absurd (l.none_before q x h z)) (λ (h : p ≤ q).
    ⊎_elim (λ (i : p ≡ q). rw i e) (λ (k : p < q). absurd (d p l.after k l.reads)) (eq-or-lt_of_le h))
    (less q p)
is_place s from p a (l_none e d) l = absurd (d p l.after (inside s p l.reads) l.reads)

pub search_given_place : (s : List ℕ) (from p : ℕ) → from ≤ length s → (search_of s from ≡ answer 0 (p ∷ [])) ↔ LowestPlace s from p
search_given_place s from p h = (place_of s from p (search_of s from) (lowest s from h), is_place s from p (search_of s from) (lowest s from h))

none_of : (s : List ℕ) (from : ℕ) (a : Paper) → Lowest s from a → a ≡ answer 0 [] → (j : ℕ) → from ≤ j → ReadsAt s j → ⊥
none_of s from a (l_at q e x y z d) g j h r = omega (arith, ap (λ (b : Paper). length b.values) (sym e ∙ g))
none_of s from a (l_none e d) g j h r = d j h (inside s j r) r

is_none : (s : List ℕ) (from : ℕ) (a : Paper) → Lowest s from a → ((j : ℕ) → from ≤ j → ReadsAt s j → ⊥) → a ≡ answer 0 []
is_none s from a (l_at q e x y z d) n = absurd (n q x z)
is_none s from a (l_none e d) n = e

-- no place: exactly when none reads
pub search_given_none : (s : List ℕ) (from : ℕ) → from ≤ length s → (search_of s from ≡ answer 0 []) ↔ ((j : ℕ) → from ≤ j → ReadsAt s j → ⊥)
search_given_none s from h = (none_of s from (search_of s from) (lowest s from h), is_none s from (search_of s from) (lowest s from h))
