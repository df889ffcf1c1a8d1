-- The tests say the rules: each definition that a promise cites holds exactly when document
-- 01's words do.
use Rattle.std.specs.Prelude.{ℕ, ◌≤◌, ◌≡◌, refl, Bool, true, false, ◌⊎◌, eqb}
use Rattle.std.proofs.Common.{sym, ◌∙◌, inl, inr, ⊎_elim, arith, eq-eqb, ne_eqb, eqb-true}
use Rattle.terms.specs.Letters.{spelled}
use Rattle.terms.specs.Paper.{pick}
use Rattle.terms.specs.Cases.{two, same, clash}
use Rattle.rules.specs.declared.Kind.{Kind}
use Rattle.rules.specs.declared.Kind.TheVariants.{S001, S002, S003, P001, P002, M101, M102, M201, Unknown}
use Rattle.rules.specs.Table.{kind_of, known, suits}
use Rattle.rules.specs.declared.Layout.{Layout}
use Rattle.rules.specs.declared.Layout.TheVariants.{Order, Trade, Other}
use Rattle.rules.specs.Fields.{suits_tail, pair_ok, entry_size}
use Rattle.rules.specs.Rules.{TypeRule, LengthRule, Pair, pair_1, pair_2, pair_3_MD101, pair_3_MD102, pair_12, pair_13, pair_14, EntrySize, short, long, Orders, order_0, order_4, Trades, trade_F, LayoutRule, is_order, is_trade, is_other, TailRule}
use Rattle.terms.specs.Says.{Says, says_le, says_eq, says_and, says_or, says_as}

-- NOT SO: a test fails exactly where its fact does not hold

pub denied : {b : Bool} {P : Type 0} → Says b P → (P → ⊥) → b ≡ false
denied {b} s n = ⊎_elim (λ (t : b ≡ true). absurd (n (s.0 t))) (λ (f : b ≡ false). f) (two b)

pub unsaid : {b : Bool} {P : Type 0} → Says b P → b ≡ false → P → ⊥
unsaid s f p = clash (s.1 p) f

-- LENGTHS

pub length_says : (k : Kind) (n : ℕ) → Says (suits k n) (LengthRule k n)
unfolding suits
length_says S001 n = says_eq n 74
length_says S002 n = says_eq n 260
length_says S003 n = says_eq n 0
length_says P001 n = says_eq n 12
length_says P002 n = says_eq n 52
length_says M101 n = (λ h. refl, λ h. refl)
length_says M102 n = says_le 73 n
length_says M201 n = says_le 45 n
length_says Unknown n = (λ h. let z : ◌≡◌ {A = ℕ} 0 1 = cc in absurd (omega arith), λ h. absurd h)

apart : (s e : ℕ) → Orders s e → Trades s e → ⊥
apart s e (order_0 a z q) (trade_F t u) = omega arith
apart s e (order_4 a z q) (trade_F t u) = omega arith

pub layout_one : (s e : ℕ) (l m : Layout) → LayoutRule s e l → LayoutRule s e m → l ≡ m
layout_one s e l m (is_order o) (is_order p) = refl
layout_one s e l m (is_order o) (is_trade t) = absurd (apart s e o t)
layout_one s e l m (is_order o) (is_other n k) = absurd (n o)
layout_one s e l m (is_trade t) (is_order o) = absurd (apart s e o t)
layout_one s e l m (is_trade t) (is_trade u) = refl
layout_one s e l m (is_trade t) (is_other n k) = absurd (k t)
layout_one s e l m (is_other n k) (is_order o) = absurd (n o)
layout_one s e l m (is_other n k) (is_trade t) = absurd (k t)
layout_one s e l m (is_other n k) (is_other p q) = refl

pub suits_tail_says : (l : Layout) (n : ℕ) → Says (suits_tail l n) (TailRule l n)
unfolding suits_tail
suits_tail_says Order n = says_eq n 184
suits_tail_says Trade n = says_eq n 98
suits_tail_says Other n = (λ h. refl, λ h. refl)

-- M102

abbrev Streams : ℕ → ℕ → Type 0
Streams t s =
    ((((((((t ≡ 1) × (spelled "MD001" ≤ s)) × (s ≤ spelled "MD004"))
    ⊎ ((t ≡ 2) × (s ≡ spelled "MD301")))
    ⊎ ((t ≡ 3) × ((s ≡ spelled "MD101") ⊎ (s ≡ spelled "MD102"))))
    ⊎ ((t ≡ 12) × (s ≡ spelled "MD201")))
    ⊎ ((t ≡ 13) × (s ≡ spelled "MD210")))
    ⊎ ((t ≡ 14) × (s ≡ spelled "MDE01")))

pair_3 : (t s : ℕ) → t ≡ 3 → (s ≡ spelled "MD101") ⊎ (s ≡ spelled "MD102") → Pair t s
pair_3 t s h (inl e) = pair_3_MD101 h e
pair_3 t s h (inr e) = pair_3_MD102 h e

pair_to : (t s : ℕ) → Streams t s → Pair t s
pair_to t s (inl (inl (inl (inl (inl h))))) = pair_1 h.0.0 h.0.1 h.1
pair_to t s (inl (inl (inl (inl (inr h))))) = pair_2 h.0 h.1
pair_to t s (inl (inl (inl (inr h)))) = pair_3 t s h.0 h.1
pair_to t s (inl (inl (inr h))) = pair_12 h.0 h.1
pair_to t s (inl (inr h)) = pair_13 h.0 h.1
pair_to t s (inr h) = pair_14 h.0 h.1

pair_from : (t s : ℕ) → Pair t s → Streams t s
pair_from t s (pair_1 h a z) = inl (inl (inl (inl (inl ((h, a), z)))))
pair_from t s (pair_2 h e) = inl (inl (inl (inl (inr (h, e)))))
pair_from t s (pair_3_MD101 h e) = inl (inl (inl (inr (h, inl e))))
pair_from t s (pair_3_MD102 h e) = inl (inl (inl (inr (h, inr e))))
pair_from t s (pair_12 h e) = inl (inl (inr (h, e)))
pair_from t s (pair_13 h e) = inl (inr (h, e))
pair_from t s (pair_14 h e) = inr (h, e)

pub pair_says : (t s : ℕ) → Says (pair_ok t s) (Pair t s)
pair_says t s =
    says_as
    (says_or
    (says_or
    (says_or
    (says_or
    (says_or
    (says_and (says_and (says_eq t 1) (says_le (spelled "MD001") s)) (says_le s (spelled "MD004")))
    (says_and (says_eq t 2) (says_eq s (spelled "MD301"))))
    (says_and (says_eq t 3) (says_or (says_eq s (spelled "MD101")) (says_eq s (spelled "MD102")))))
    (says_and (says_eq t 12) (says_eq s (spelled "MD201"))))
    (says_and (says_eq t 13) (says_eq s (spelled "MD210"))))
    (says_and (says_eq t 14) (says_eq s (spelled "MDE01"))))
    (pair_to t s)
    (pair_from t s)

-- the size of a stream's entries
pub size_is : (s : ℕ) → EntrySize s (entry_size s)
unfolding entry_size
size_is s =
    ⊎_elim (λ (e : s ≡ spelled "MD001"). short e (simp (eq-eqb s (spelled "MD001") e)))
    (λ (ne : s ≡ spelled "MD001" → ⊥). long ne (simp (ne_eqb s (spelled "MD001") ne)))
    (same s (spelled "MD001"))

pub size_one : (s v w : ℕ) → EntrySize s v → EntrySize s w → v ≡ w
size_one s v w (short a x) (short c y) = x ∙ sym y
size_one s v w (short a x) (long c y) = absurd (c a)
size_one s v w (long a x) (short c y) = absurd (a c)
size_one s v w (long a x) (long c y) = x ∙ sym y

-- TYPES

-- the type of a number is the one whose row it is, and none has two
pub type_is : (k : Kind) (t : ℕ) → TypeRule k t → kind_of t ≡ k
unfolding kind_of
type_is S001 t e = rw e
type_is S002 t e = rw e
type_is S003 t e = rw e
type_is P001 t e = rw e
type_is P002 t e = rw e
type_is M101 t e = rw e
type_is M102 t e = rw e
type_is M201 t e = rw e
type_is Unknown t e = absurd e

pub type_known : (k : Kind) (t : ℕ) → TypeRule k t → known k ≡ true
type_known S001 t e = refl
type_known S002 t e = refl
type_known S003 t e = refl
type_known P001 t e = refl
type_known P002 t e = refl
type_known M101 t e = refl
type_known M102 t e = refl
type_known M201 t e = refl
type_known Unknown t e = absurd e

-- a row of the table is met, or the rows below it decide
row_or : (P : Kind → Type 0) (t x : ℕ) (k rest : Kind) → (t ≡ x → P k) → P rest → P (pick (eqb t x) k rest)
row_or P t x k rest yes-row below =
    ⊎_elim (λ (h : eqb t x ≡ true). rw h (yes-row (eqb-true t x h))) (λ (h : eqb t x ≡ false). rw h below) (two (eqb t x))

abbrev pub Rowed : ℕ → Kind → Type 0
Rowed t k = known k ≡ true → TypeRule k t

-- the type of a number, if it is in the table, has the number's row
pub rowed : (t : ℕ) → Rowed t (kind_of t)
unfolding kind_of
rowed t =
    row_or (Rowed t) t (spelled "S001") S001 _ (λ e h. e)
    (row_or (Rowed t) t (spelled "S002") S002 _ (λ e h. e)
    (row_or (Rowed t) t (spelled "S003") S003 _ (λ e h. e)
    (row_or (Rowed t) t (spelled "P001") P001 _ (λ e h. e)
    (row_or (Rowed t) t (spelled "P002") P002 _ (λ e h. e)
    (row_or (Rowed t) t (spelled "M101") M101 _ (λ e h. e)
    (row_or (Rowed t) t (spelled "M102") M102 _ (λ e h. e)
    (row_or (Rowed t) t (spelled "M201") M201 _ (λ e h. e)
    (λ h. let z : ◌≡◌ {A = ℕ} 0 1 = cc in absurd (omega arith)))))))))

-- a type is in the table exactly where some row has it
pub type_says : (t : ℕ) → Says (known (kind_of t)) ((k : Kind) × TypeRule k t)
type_says t = (λ h. (kind_of t, rowed t h), λ q. rw (type_is q.0 t q.1) (type_known q.0 t q.1))
