-- Walking a body: from an opened reader exactly NoMDEntries steps give entries, the k-th of them
-- the one at 73 + k sizes, and every later step answers 20. By induction over the steps still to
-- come; the invariant is that after k steps the place is 73 + k sizes.
use Prim.Native.Nat.{ℕ, zero, suc, ◌+◌, ◌*◌, ◌<◌, ◌≤◌}
use Rattle.std.specs.Prelude.{◌≡◌, refl, true, false, List, [], ◌∷◌, ◌++◌, map, length, get_or, replicate, Result, Ok, ◌⊎◌}
use Rattle.std.proofs.Common.{sym, ap, ◌∙◌, suc-mul, zero-mul, add-zero, zero-add, mul-le-mul_right, le_of_suc-le-suc, not-suc-le-zero, ⊎_elim}
use native.Mathlib.Omega.{arith}
use Rattle.std.specs.Borrow.{Bor}
use Rattle.terms.specs.Paper.{Paper, refusal}
use Rattle.octets.specs.Octets.{be}
use Rattle.terms.specs.declared.Refusal.{Refusal}
use Rattle.terms.specs.Verdicts.{verdict_number}
use Rattle.rules.specs.Meaning.{size_is, denied}
use Rattle.entries.specs.declared.Entries.{Entries}
use Rattle.entries.specs.declared.Entry.{Entry}
use Rattle.entries.specs.Papers.{answer_paper}
use Rattle.entries.specs.Reader.{reader, Opens, size_in, stands, entry_at, step_of, place_after, Steps}
use Rattle.entries.specs.Given.{MayCarry, Row20}
use Rattle.entries.specs.Outcomes.{step_done, step_20, after_done, after_20}
use Rattle.entries.specs.Places.{size_pos, sized, stands_says}
use Rattle.entries.specs.Exactly.{open_given_0, step_given_20, step_stays}

-- the answers of the first m steps from the place p of a body
unfoldable pub walked : ℕ → List ℕ → ℕ → List Paper
walked zero b p = []
walked (suc m) b p = step_of b p ∷ walked m b (place_after b p)

-- m entries of a body from the k-th on, in order, each once
unfoldable pub entries_from : ℕ → ℕ → List ℕ → List Paper
entries_from zero k b = []
entries_from (suc m) k b = entry_at b (73 + k * size_in b) ∷ entries_from m (suc k) b

-- all of them
abbrev pub all_entries : List ℕ → List Paper
all_entries b = entries_from (be 2 71 b) 0 b

from_length : (m k : ℕ) (b : List ℕ) → length (entries_from m k b) ≡ m
unfolding entries_from
from_length zero k b = refl
from_length (suc m) k b = ap suc (from_length m (suc k) b)

from_kth : (m k i : ℕ) (b : List ℕ) (d : Paper) → i < m → get_or (entries_from m k b) i d ≡ entry_at b (73 + (k + i) * size_in b)
unfolding entries_from
from_kth zero k i b d l = absurd (not-suc-le-zero l)
from_kth (suc m) k zero b d l = rw add-zero
from_kth (suc m) k (suc i) b d l =
    let e : k + suc i ≡ suc k + i = omega arith in
    rw e (from_kth m (suc k) i b d (le_of_suc-le-suc l))

-- NoMDEntries of them, and the k-th is the one at 73 + k sizes
pub all_length : (b : List ℕ) → length (all_entries b) ≡ be 2 71 b
all_length b = from_length (be 2 71 b) 0 b

pub all_kth : (b : List ℕ) (k : ℕ) (d : Paper) → k < be 2 71 b → get_or (all_entries b) k d ≡ entry_at b (73 + k * size_in b)
all_kth b k d l = rw zero-add at (from_kth (be 2 71 b) 0 k b d l)

-- the k-th place is an entry's while k is below NoMDEntries, of any body that is long enough
pub kth_stands : (b : List ℕ) (k : ℕ) → k < be 2 71 b → 73 + suc k * size_in b ≤ length b → stands b (73 + k * size_in b) ≡ true
kth_stands b k l h =
    let e : suc k * size_in b ≡ k * size_in b + size_in b = suc-mul k (size_in b) in
    (stands_says b (73 + k * size_in b)).1
    (record { body = omega arith; k = k; w = size_in b; kth = record { size = size_is (be 5 10 b); below = l; place = refl }; whole = omega arith })

-- behind the last one stands none
apart : (k n w : ℕ) → 0 < w → k < n → 73 + n * w ≡ 73 + k * w → ⊥
apart k n w pos l e = omega (arith, mul-le-mul_right {m = suc k} {n = n} w l, suc-mul k w)

pub behind : (b : List ℕ) → stands b (73 + be 2 71 b * size_in b) ≡ false
behind b =
    denied (stands_says b (73 + be 2 71 b * size_in b))
    (λ r.
    apart r.k (be 2 71 b) (size_in b) (size_pos (be 5 10 b)) r.kth.below (rw (sized b r.w r.kth.size) at r.kth.place))

-- a place where no entry stands is never left
stuck : (b : List ℕ) (p m : ℕ) → stands b p ≡ false → walked m b p ≡ replicate m (refusal 20)
unfolding walked
stuck b p zero f = refl
stuck b p (suc m) f = rw (step_20 b p f, after_20 b p f, stuck b p m f)

module _ (b : List ℕ) (h : MayCarry b) where
  whole : length b ≡ 73 + be 2 71 b * size_in b
  whole =
      let r = h.fields.1 in rw (sized b h.fields.0 r.entry_size_holds) at r.whole_entries

  -- THE K-TH ENTRY IS WHAT STANDS AT 73 + K SIZES, and behind it the next one
  there : (k : ℕ) → k < be 2 71 b → stands b (73 + k * size_in b) ≡ true
  there k l = kth_stands b k l (omega (arith, whole, mul-le-mul_right {m = suc k} {n = be 2 71 b} (size_in b) l))

  pub kth_entry : (k : ℕ) → k < be 2 71 b → step_of b (73 + k * size_in b) ≡ entry_at b (73 + k * size_in b)
  kth_entry k l = step_done b (73 + k * size_in b) (there k l)

  pub kth_after : (k : ℕ) → k < be 2 71 b → place_after b (73 + k * size_in b) ≡ 73 + suc k * size_in b
  kth_after k l = after_done b (73 + k * size_in b) (there k l) ∙ omega (arith, suc-mul k (size_in b))

  walk_from_lem : (n k m : ℕ) → k + n ≡ be 2 71 b → walked (n + m) b (73 + k * size_in b) ≡ entries_from n k b ++ replicate m (refusal 20)
  unfolding walked entries_from
  walk_from_lem zero k m e =
      let all : k ≡ be 2 71 b = omega arith in
      rw (zero-add, all) (stuck b (73 + be 2 71 b * size_in b) m (behind b))
  walk_from_lem (suc n) k m e =
      let more : suc n + m ≡ suc (n + m) = omega arith in
      let l : k < be 2 71 b = omega arith in
      rw (more, kth_entry k l, kth_after k l, walk_from_lem n (suc k) m (omega arith))

  -- WALKING GIVES ALL ENTRIES IN ORDER, EACH ONCE, and then 20
  pub walk_all : (m : ℕ) → walked (be 2 71 b + m) b 73 ≡ all_entries b ++ replicate m (refusal 20)
  walk_all m = rw zero-mul at (walk_from_lem (be 2 71 b) 0 m (zero-add (be 2 71 b)))

-- STEPS IN TURN: each of the reader that the one before it left, and what they answer
pub data Turns : Entries → List (Result Entry Refusal) → Type 0 where
  none : (d : Entries) → Turns d []
  next : (d e : Entries) (x : Result Entry Refusal) (xs : List (Result Entry Refusal)) → Steps d x e → Turns e xs → Turns d (x ∷ xs)

pub turns_walked : (d : Entries) (xs : List (Result Entry Refusal)) → Turns d xs → map answer_paper xs ≡ walked (length xs) d.body.now d.place
unfolding walked
turns_walked d _ (none _) = refl
turns_walked d _ (next _ e x xs t r) = rw (t.answered, turns_walked e xs r, t.body, t.place)

-- FROM AN OPENED READER exactly NoMDEntries steps give entries, all of them in order, and every
-- later one answers 20
pub opened_walk : (s : Bor (List ℕ)) (d : Entries) (xs : List (Result Entry Refusal)) (m : ℕ) → Opens s (Ok d) → Turns d xs → length xs ≡ be 2 71 s.now + m
    → map answer_paper xs ≡ all_entries s.now ++ replicate m (refusal 20)
opened_walk s d xs m t r l = turns_walked d xs r ∙ rw (l, t.opened) (walk_all s.now ((open_given_0 s.now).0 (sym t.answered)) m)

-- A REFUSED BODY has no reader
pub refused_none : (s : Bor (List ℕ)) (x : Result Entries Refusal) → Opens s x → (MayCarry s.now → ⊥) → (d : Entries) → x ≡ Ok d → ⊥
refused_none s x t n d e = n ((open_given_0 s.now).0 (sym t.answered ∙ ap verdict_number e))

-- A READER OVER NOTHING answers 20 at every step
pub nothing_walk : (d : Entries) (xs : List (Result Entry Refusal)) → d.body.now ≡ [] → Turns d xs → map answer_paper xs ≡ replicate (length xs) (refusal 20)
nothing_walk d xs e r =
    turns_walked d xs r
    ∙ rw e (stuck [] d.place (length xs) (denied (stands_says [] d.place) (λ h. omega (arith, h.body))))

-- FROM A REFUSED BODY, whatever reader is taken for the one that there is not, an opened one or one
-- over nothing, every step answers 20
pub refused_walk : (s : Bor (List ℕ)) (x : Result Entries Refusal) (d : Entries) (xs : List (Result Entry Refusal)) → Opens s x → (verdict_number x ≡ 0 → ⊥)
    → (x ≡ Ok d) ⊎ (d.body.now ≡ []) → Turns d xs → map answer_paper xs ≡ replicate (length xs) (refusal 20)
refused_walk s x d xs t n o r = ⊎_elim (λ (e : x ≡ Ok d). absurd (n (ap verdict_number e))) (λ (e : d.body.now ≡ []). nothing_walk d xs e r) o

pub same_reader : (c d : Entries) → c.body ≡ d.body → c.place ≡ d.place → c ≡ d
same_reader c d p q = ap (λ (m : Bor (List ℕ)). reader m c.place) p ∙ ap (λ (n : ℕ). reader d.body n) q

-- A STEP THAT ANSWERS 20 leaves the reader as it was
pub refused_same : (d e : Entries) (x : Result Entry Refusal) → Steps d x e → (answer_paper x).number ≡ 20 → e ≡ d
refused_same d e x t z =
    let r : Row20 d.body.now d.place = (step_given_20 d.body.now d.place).0 (ap (λ (p : Paper). p.number) (sym t.answered) ∙ z) in
    same_reader e d t.body (t.place ∙ step_stays d.body.now d.place r)
