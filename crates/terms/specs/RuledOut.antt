-- Document 01, "How the promises are judged": wrong answers that a promise rules out, a row each. A
-- row is over the promise itself, `Post`, which the checker makes of a function's `ensures`: so it
-- can't drift from it, and it says nothing of how the function is written.
use Rattle.std.specs.Prelude.{ℕ, ◌<◌, ◌≡◌, refl, Bool, true, false, ◌&&◌, not, List, [], ◌∷◌, eqb, ltb, length}
use Rattle.std.proofs.Common.{sym, ap, ap₂, ◌∙◌, eq-eqb, eqb-true, ltb-true}
use contract.Lifetimes.{Lfts}
use borrow.Fn.Kinds.{ParamKind, ResultKind, Dens, res_t, ended_of, Out}
use denote.Triple.Clauses.{AtExit}
use Rattle.terms.specs.Paper.{Paper, answer}
use Rattle.terms.specs.Cases.{clash}

infix 80 ◌never◌ ◌only◌
-- a row: what a function is given, and an outcome that is wrong there, or the one beside which
-- every other is wrong
pub data Row (I O : Type 0) : Type 0 where
  ◌never◌ : I → O → Row I O
  ◌only◌ : I → O → Row I O

-- a call of a function: its arguments, its answer, and its parameters at exit
pub record Call (n : ℕ) (ps : List (ParamKind n)) (r : ResultKind n) : Type 0 where
  pub lifetimes : Lfts n
  pub args : Dens lifetimes ps
  pub result : (res_t r lifetimes).Denot
  pub exit : AtExit (ended_of n ps r) lifetimes

-- the call is one that the promise allows
abbrev pub Kept : (n : ℕ) (ps : List (ParamKind n)) (r : ResultKind n) → Out n ps r → Call n ps r → Type 0
Kept n ps r post c = post c.lifetimes c.args c.result c.exit

-- over any promise: `sees` reads what a call is given, `shows` reads its outcome
module _ {C I O : Type 0} (kept : C → Type 0) (sees : C → I) (shows : C → O) where
  -- some call that is given i and has the outcome o keeps the promise
  pub record Allows (i : I) (o : O) : Type 0 where
    pub call : C
    pub given : sees call ≡ i
    pub outcome : shows call ≡ o
    pub promised : kept call

  -- what a row says of the promise
  pub data Holds : Row I O → Type 0 where
    not_this : {i : I} {o : O} → (Allows i o → ⊥) → Holds (i never o)
    no_other : {i : I} {o : O} → ((p : O) → Allows i p → p ≡ o) → Holds (i only o)

  pub data AllHold : List (Row I O) → Type 0 where
    none : AllHold []
    also : {row : Row I O} {rows : List (Row I O)} → Holds row → AllHold rows → AllHold (row ∷ rows)

  -- THE STATEMENT: a table of two rows or more, and each holds
  pub record RulesOut (rows : List (Row I O)) : Type 0 where
    pub two : 1 < length rows
    pub each : AllHold rows

-- HOW A TABLE IS PROVED: where a promise says that the outcome is f of the input, f is
-- computed at each row

-- a test that tells outcomes apart
pub record Telling (O : Type 0) : Type 0 where
  pub same : O → O → Bool
  pub equal : (x y : O) → same x y ≡ true → x ≡ y
  pub alike : (o : O) → same o o ≡ true

abbrev pub right : {I O : Type 0} → Telling O → (I → O) → Row I O → Bool
right t f (i never o) = not (t.same (f i) o)
right t f (i only o) = t.same (f i) o

abbrev pub all_right : {I O : Type 0} → Telling O → (I → O) → List (Row I O) → Bool
all_right t f [] = true
all_right t f (row ∷ rows) = right t f row && all_right t f rows

pub split : (a b : Bool) → a && b ≡ true → (a ≡ true) × (b ≡ true)
split true true e = (refl, refl)
split true false e = (refl, e)
split false b e = absurd (clash refl (sym e))

apart : {O : Type 0} (t : Telling O) (x y : O) → not (t.same x y) ≡ true → x ≡ y → ⊥
apart t x y d e = let z : not (t.same y y) ≡ true = rw e at d in let w : not true ≡ true = rw (t.alike y) at z in clash w refl

module _ {C I O : Type 0} {kept : C → Type 0} {sees : C → I} {shows : C → O} (t : Telling O) (f : I → O) (says : (c : C) → kept c → shows c ≡ f (sees c)) where
  told : (i : I) (o : O) → Allows kept sees shows i o → f i ≡ o
  told i o a = ap f (sym a.given) ∙ sym (says a.call a.promised) ∙ a.outcome

  holds : (row : Row I O) → right t f row ≡ true → Holds kept sees shows row
  holds (i never o) d = not_this (λ a. apart t (f i) o d (told i o a))
  holds (i only o) d = no_other (λ p a. sym (told i p a) ∙ t.equal (f i) o d)

  all_hold : (rows : List (Row I O)) → all_right t f rows ≡ true → AllHold kept sees shows rows
  all_hold [] d = none
  all_hold (row ∷ rows) d = let q = split _ _ d in also (holds row q.0) (all_hold rows q.1)

  pub ruled : (rows : List (Row I O)) → ltb 1 (length rows) && all_right t f rows ≡ true → RulesOut kept sees shows rows
  ruled rows d = let q = split _ _ d in record { two = ltb-true 1 (length rows) q.0; each = all_hold rows q.1 }

-- TESTS: numbers, bools, rows of numbers, papers, and two outcomes side by side

abbrev pub numbers : Telling ℕ
numbers = record { same = eqb; equal = eqb-true; alike = λ n. eq-eqb n n refl }

abbrev pub same_bool : Bool → Bool → Bool
same_bool true b = b
same_bool false b = not b

pub bool_equal : (a b : Bool) → same_bool a b ≡ true → a ≡ b
bool_equal true b e = sym e
bool_equal false true e = e
bool_equal false false e = refl

pub bool_alike : (b : Bool) → same_bool b b ≡ true
bool_alike true = refl
bool_alike false = refl

abbrev pub bools : Telling Bool
bools = record { same = same_bool; equal = bool_equal; alike = bool_alike }

abbrev pub same_list : List ℕ → List ℕ → Bool
same_list [] [] = true
same_list [] (y ∷ ys) = false
same_list (x ∷ xs) [] = false
same_list (x ∷ xs) (y ∷ ys) = eqb x y && same_list xs ys

pub list_equal : (k l : List ℕ) → same_list k l ≡ true → k ≡ l
list_equal [] [] e = refl
list_equal [] (y ∷ ys) e = absurd (clash refl (sym e))
list_equal (x ∷ xs) [] e = absurd (clash refl (sym e))
list_equal (x ∷ xs) (y ∷ ys) e = let q = split _ _ e in ap₂ (λ (n : ℕ) (l : List ℕ). n ∷ l) (eqb-true x y q.0) (list_equal xs ys q.1)

pub list_alike : (l : List ℕ) → same_list l l ≡ true
list_alike [] = refl
list_alike (x ∷ xs) = rw (eq-eqb x x refl) (list_alike xs)

abbrev pub lists : Telling (List ℕ)
lists = record { same = same_list; equal = list_equal; alike = list_alike }

abbrev pub beside : {O P : Type 0} → Telling O → Telling P → Telling (O × P)
beside {O} {P} t u = record {
  same = λ x y. t.same x.0 y.0 && u.same x.1 y.1;
  equal = λ x y e. let q = split _ _ e in ap₂ (λ (o : O) (p : P). (o, p)) (t.equal x.0 y.0 q.0) (u.equal x.1 y.1 q.1);
  alike = λ x. rw (t.alike x.0) (u.alike x.1);
}

abbrev pub papers : Telling Paper
papers = record {
  same = λ p q. eqb p.number q.number && same_list p.values q.values;
  equal = λ p q e. let w = split _ _ e in ap₂ answer (eqb-true p.number q.number w.0) (list_equal p.values q.values w.1);
  alike = λ p. rw (eq-eqb p.number p.number refl) (list_alike p.values);
}

-- AN ANSWER AND WHAT IS LEFT in a lent buffer, as most functions that write promise it

abbrev pub Left : Type 0
Left = Paper × List ℕ

abbrev pub left : Paper → List ℕ → Left
left p d = (p, d)

abbrev pub lefts : Telling Left
lefts = beside papers lists

pub left_is : {p q : Paper} {d e : List ℕ} → (p ≡ q) × (d ≡ e) → left p d ≡ left q e
left_is h = ap₂ left h.0 h.1
