-- Which places are an entry's: the test of the definition, which looks at every k, and that of the
-- code, which divides, both say what document 01 does.
use Rattle.std.specs.Prelude.{ℕ, zero, suc, ◌+◌, ◌*◌, ◌-◌, ◌/◌, ◌%◌, ◌<◌, ◌≤◌, ◌≡◌, Bool, true, false, ◌&&◌, ◌⊎◌, List, eqb, ltb, leb, length}
use Rattle.std.proofs.Common.{sym, ◌∙◌, inl, inr, ⊎_elim, arith, div-add-mod', mul-div_cancel}
use Rattle.std.proofs.Math.Nat.{mul-mod_left}
use Rattle.terms.specs.Cases.{two, less, clash}
use Rattle.octets.specs.Octets.{be}
use Rattle.rules.specs.Rules.{EntrySize, short, long}
use Rattle.rules.specs.Fields.{entry_size}
use Rattle.terms.specs.Says.{Says, says_lt, says_le, says_eq, says_and, says_or, says_as}
use Rattle.terms.specs.Letters.{spelled}
use Rattle.rules.specs.Meaning.{size_is, size_one, denied}
use Rattle.entries.specs.Reader.{size_in, placed, stands}
use Rattle.entries.specs.Given.{Stands}

-- an entry has bytes
some_size : (s w : ℕ) → EntrySize s w → 0 < w
some_size s w (short e x) = omega arith
some_size s w (long e x) = omega arith

is_short : (s w : ℕ) → EntrySize s w → w ≡ 10 → s ≡ spelled "MD001"
is_short s w (short e x) t = e
is_short s w (long e x) t = absurd (omega arith)

is_10 : (s w : ℕ) → EntrySize s w → s ≡ spelled "MD001" → w ≡ 10
is_10 s w (short e x) h = x
is_10 s w (long e x) h = absurd (e h)

pub size_pos : (s : ℕ) → 0 < entry_size s
size_pos s = some_size s (entry_size s) (size_is s)

-- the one size of a body's entries
pub sized : (b : List ℕ) (w : ℕ) → EntrySize (be 5 10 b) w → w ≡ size_in b
sized b w z = size_one (be 5 10 b) w (size_in b) z (size_is (be 5 10 b))

-- the size tells the stream
pub size_short : (s w : ℕ) → w ≡ entry_size s → w ≡ 10 → s ≡ spelled "MD001"
size_short s w e t = is_short s (entry_size s) (size_is s) (sym e ∙ t)

pub size_long : (s w : ℕ) → w ≡ entry_size s → (w ≡ 10 → ⊥) → s ≡ spelled "MD001" → ⊥
size_long s w e n h = n (e ∙ is_10 s (entry_size s) (size_is s) h)

-- p is 73 + k times w, for a k below n
abbrev pub Place : ℕ → ℕ → ℕ → Type 0
Place n w p = (k : ℕ) × ((k < n) × (p ≡ 73 + k * w))

below_or : (k n : ℕ) → k < suc n → (k < n) ⊎ (k ≡ n)
below_or k n h = ⊎_elim (λ (l : k < n). inl l) (λ (g : n ≤ k). inr (omega arith)) (less k n)

placed_to : (n w p : ℕ) → (Place n w p ⊎ (p ≡ 73 + n * w)) → Place (suc n) w p
placed_to n w p (inl h) = (h.0, (omega (arith, h.1.0), h.1.1))
placed_to n w p (inr e) = (n, (omega arith, e))

placed_from : (n w p : ℕ) → Place (suc n) w p → (Place n w p ⊎ (p ≡ 73 + n * w))
placed_from n w p h =
    ⊎_elim (λ (l : h.0 < n). inl (h.0, (l, h.1.1))) (λ (e : h.0 ≡ n). inr (rw e at h.1.1)) (below_or h.0 n h.1.0)

pub placed_says : (n w p : ℕ) → Says (placed n w p) (Place n w p)
unfolding placed
placed_says zero w p = (λ h. let z : ◌≡◌ {A = ℕ} 0 1 = cc in absurd (omega arith), λ h. absurd (omega (arith, h.1.0)))
placed_says (suc n) w p = says_as (says_or (placed_says n w p) (says_eq p (73 + n * w))) (placed_to n w p) (placed_from n w p)

-- WHERE AN ENTRY STANDS
pub stands_says : (b : List ℕ) (p : ℕ) → Says (stands b p) (Stands b p)
unfolding stands
stands_says b p =
    says_as
    (says_and (says_and (says_le 73 (length b)) (placed_says (be 2 71 b) (size_in b) p)) (says_le (p + size_in b) (length b)))
    (λ h.
    record {
      body = h.0.0;
      k = h.0.1.0;
      w = size_in b;
      kth = record { size = size_is (be 5 10 b); below = h.0.1.1.0; place = h.0.1.1.1 };
      whole = h.1;
    })
    (λ r.
    let e = sized b r.w r.kth.size in
    ((r.body, (r.k, (r.kth.below, rw e at r.kth.place))), rw e at r.whole))

-- an entry that stands does not pass the end
pub stands_whole : (b : List ℕ) (p : ℕ) → stands b p ≡ true → p + size_in b ≤ length b
stands_whole b p h = let r = (stands_says b p).0 h in rw (sized b r.w r.kth.size) at r.whole

-- the code's test: what is left of p behind 73 is whole sizes, fewer than n of them
divided : (n w p : ℕ) → 0 < w → 73 ≤ p → Says (eqb ((p - 73) % w) 0 && ltb ((p - 73) / w) n) (Place n w p)
divided n w p pos h =
    says_as (says_and (says_eq ((p - 73) % w) 0) (says_lt ((p - 73) / w) n))
    (λ t. ((p - 73) / w, (t.1, omega (arith, div-add-mod' (p - 73) w, t.0))))
    (λ t.
    let e : p - 73 ≡ t.0 * w = omega (arith, t.1.1) in
    (rw e (mul-mod_left t.0 w), rw (e, mul-div_cancel t.0 pos) t.1.0))

same_said : {x y : Bool} {P : Type 0} → Says x P → Says y P → x ≡ y
same_said {x} {y} s t =
    ⊎_elim (λ (h : y ≡ true). s.1 (t.0 h) ∙ sym h) (λ (h : y ≡ false). denied s (λ p. clash (t.1 p) h) ∙ sym h) (two y)

-- of a place from 73 on that is not beyond the end
pub divided_stands : (b : List ℕ) (p w n : ℕ) → w ≡ size_in b → n ≡ be 2 71 b → 73 ≤ p → p ≤ length b
    → ((eqb ((p - 73) % w) 0 && ltb ((p - 73) / w) n) && leb w (length b - p)) ≡ stands b p
unfolding stands
divided_stands b p w n e m h l =
    let pos : 0 < size_in b = size_pos (be 5 10 b) in
    same_said
    (says_and (divided n w p (omega (arith, pos)) h) (says_le w (length b - p)))
    (says_as
    (says_and (says_and (says_le 73 (length b)) (placed_says (be 2 71 b) (size_in b) p)) (says_le (p + size_in b) (length b)))
    (λ t. (rw (← e, ← m) at t.0.1, omega (arith, t.1)))
    (λ t. ((omega arith, rw (e, m) at t.0), omega (arith, t.1))))

-- no entry stands before 73, or beyond the end
pub before_73 : (b : List ℕ) (p : ℕ) → p < 73 → stands b p ≡ false
before_73 b p h = denied (stands_says b p) (λ r. omega (arith, r.kth.place))

pub beyond_end : (b : List ℕ) (p : ℕ) → length b < p → stands b p ≡ false
beyond_end b p h = denied (stands_says b p) (λ r. omega (arith, r.whole))
