-- What is told is the lowest field that breaks a rule, and none exactly where the field rules hold;
-- it lies within a body whose length suits the type.
use Rattle.std.specs.Prelude.{ℕ, zero, suc, ◌+◌, ◌*◌, ◌-◌, ◌<◌, ◌≤◌, ◌≡◌, refl, Bool, true, false, ◌&&◌, ◌||◌, ◌⊎◌, ◌↔◌, List, [], ◌∷◌, ◌++◌, eqb, ltb, leb, length, take, Option, Some, None, IfSome}
use Rattle.std.proofs.Common.{sym, ap, ap₂, ◌∙◌, inl, inr, ⊎_elim, arith, eqb-true, leb-true}
use Rattle.std.proofs.lemmas.Option.{none-some}
use Rattle.terms.specs.Cases.{two, clash, and_false}
use Rattle.terms.specs.Letters.{spelled}
use Rattle.terms.specs.Says.{Says, says_eq, says_or}
use Rattle.rules.specs.declared.Kind.{Kind}
use Rattle.rules.specs.declared.Kind.TheVariants.{S001, S002, S003, P001, P002, M101, M102, M201, Unknown}
use Rattle.rules.specs.Table.{known, suits, measure_of}
use Rattle.rules.specs.Outcomes.{Measured, m_type, m_long, m_length, m_fine, measured}
use Rattle.rules.specs.Widths.{field, entry_field, fixed}
use Rattle.rules.specs.Fields.{digits, s001_ok, s002_ok, p001_ok, p002_ok, m201_ok, pair_ok, m102_values_ok, m102_ok, tail_ok, entry_size, entry_ok, entries_ok, fields_ok}
use Rattle.rules.specs.Rules.{FieldRules, Pair, pair_1, pair_2, pair_3_MD101, pair_3_MD102, pair_12, pair_13, pair_14}
use Rattle.rules.specs.Sizes.{Wide, size_wide}
use Rattle.rules.specs.Meaning.{pair_says}
use Rattle.rules.proofs.Meaning.{fields_say}
use Rattle.broken.specs.declared.Broken.{Broken}
use Rattle.broken.specs.Broken.{Field, field_at, type_ok, count_ok, entry_fields, entries_fields, entries_of, fixed_fields, fields_of, none, told, lowest_from, broken_of}

-- every one of these keeps its rule
abbrev pub all_hold : List Field → Bool
all_hold [] = true
all_hold (f ∷ fs) = f.holds && all_hold fs

-- THE LOWEST: all before it hold, and it does not
pub record Lowest (fs : List Field) (r : Option Broken) : Type 0 where
  pub before : List Field
  pub it : Field
  pub behind : List Field
  pub order : fs ≡ before ++ (it ∷ behind)
  pub hold : all_hold before ≡ true
  pub breaks : it.holds ≡ false
  pub told_so : r ≡ told it

-- PROOFS

-- a field that holds is passed by
pub passed : (f : Field) (fs : List Field) → f.holds ≡ true → lowest_from (f ∷ fs) none ≡ lowest_from fs none
unfolding lowest_from
passed f fs h = rw h

pub stopped : (f : Field) (fs : List Field) → f.holds ≡ false → lowest_from (f ∷ fs) none ≡ told f
unfolding lowest_from
stopped f fs h = rw h

further : (f : Field) (fs : List Field) (q r : Option Broken) → f.holds ≡ true → q ≡ r → Lowest fs r → Lowest (f ∷ fs) q
further f fs q r h e l = record { before = f ∷ l.before; it = l.it; behind = l.behind; order = ap (λ (x : List Field). f ∷ x) l.order; hold = rw h l.hold; breaks = l.breaks; told_so = e ∙ l.told_so }

abbrev pub AllHold : List Field → Type 0
AllHold fs = (all_hold fs ≡ true) × (lowest_from fs none ≡ none)

pub lowest_or : (fs : List Field) → AllHold fs ⊎ Lowest fs (lowest_from fs none)
unfolding lowest_from
lowest_or [] = inl (refl, refl)
lowest_or (f ∷ fs) =
    ⊎_elim
    (λ (h : f.holds ≡ true).
    ⊎_elim (λ (a : AllHold fs). inl (rw h a.0, passed f fs h ∙ a.1)) (λ (l : Lowest fs (lowest_from fs none)). inr (further f fs _ _ h (passed f fs h) l)) (lowest_or fs))
    (λ (h : f.holds ≡ false). inr (record { before = []; it = f; behind = fs; order = refl; hold = refl; breaks = h; told_so = stopped f fs h }))
    (two f.holds)

-- THE FIELDS TOGETHER ARE THE RULES: the same tests, taken together otherwise

and_true : (a : Bool) → (a && true) ≡ a
and_true true = refl
and_true false = refl

p001_all : (a b c d : Bool) → (a && (b && (c && (d && true)))) ≡ (((a && b) && c) && d)
p001_all false b c d = refl
p001_all true false c d = refl
p001_all true true false d = refl
p001_all true true true d = and_true d

-- e and q are of one field: the end's digits, and "in a request"
p002_all : (a b c d e q s : Bool) → (a && (b && ((c && d) && ((e && q) && (s && (true && true)))))) ≡ ((((((a && b) && c) && d) && e) && s) && q)
p002_all false b c d e q s = refl
p002_all true false c d e q s = refl
p002_all true true false d e q s = refl
p002_all true true true false e q s = refl
p002_all true true true true false q s = refl
p002_all true true true true true true true = refl
p002_all true true true true true true false = refl
p002_all true true true true true false true = refl
p002_all true true true true true false false = refl

m201_all : (a b c d t x p q l : Bool) → (a && (b && ((c && d) && (true && (true && (t && (x && (p && (q && (l && true)))))))))) ≡ ((((((((a && b) && c) && d) && t) && x) && p) && q) && l)
m201_all false b c d t x p q l = refl
m201_all true false c d t x p q l = refl
m201_all true true false d t x p q l = refl
m201_all true true true false t x p q l = refl
m201_all true true true true false x p q l = refl
m201_all true true true true true false p q l = refl
m201_all true true true true true true false q l = refl
m201_all true true true true true true true false l = refl
m201_all true true true true true true true true l = and_true l

-- y: some stream goes with the type; r: this one does, so y is nothing more
m102_all : (y m k d t r p v u z w e : Bool) → (r ≡ true → y ≡ true)
    → (y && ((m && k) && (d && (t && (r && (true && (true && (p && (v && (u && (z && (true && (w && e))))))))))))) ≡ (((r && (((((((m && k) && d) && t) && p) && v) && u) && z)) && w) && e)
m102_all false m k d t true p v u z w e h = absurd (clash (h refl) refl)
m102_all false m k d t false p v u z w e h = refl
m102_all true false k d t true p v u z w e h = refl
m102_all true false k d t false p v u z w e h = refl
m102_all true true false d t true p v u z w e h = refl
m102_all true true false d t false p v u z w e h = refl
m102_all true true true false t true p v u z w e h = refl
m102_all true true true false t false p v u z w e h = refl
m102_all true true true true false true p v u z w e h = refl
m102_all true true true true false false p v u z w e h = refl
m102_all true true true true true false p v u z w e h = refl
m102_all true true true true true true false v u z w e h = refl
m102_all true true true true true true true false u z w e h = refl
m102_all true true true true true true true true false z w e h = refl
m102_all true true true true true true true true true false w e h = refl
m102_all true true true true true true true true true true w e h = refl

type_of : (t s : ℕ) → Pair t s → type_ok t ≡ true
type_of t s (pair_1 e a z) = rw e
type_of t s (pair_2 e a) = rw e
type_of t s (pair_3_MD101 e a) = rw e
type_of t s (pair_3_MD102 e a) = rw e
type_of t s (pair_12 e a) = rw e
type_of t s (pair_13 e a) = rw e
type_of t s (pair_14 e a) = rw e

-- SecurityType's own part of the pairing: it holds exactly where some stream goes with the type
type_with : (t : ℕ) → ((((((t ≡ 1) ⊎ (t ≡ 2)) ⊎ (t ≡ 3)) ⊎ (t ≡ 12)) ⊎ (t ≡ 13)) ⊎ (t ≡ 14)) → (s : ℕ) × Pair t s
type_with t (inl (inl (inl (inl (inl e))))) = (spelled "MD001", pair_1 e (omega arith) (omega arith))
type_with t (inl (inl (inl (inl (inr e))))) = (spelled "MD301", pair_2 e refl)
type_with t (inl (inl (inl (inr e)))) = (spelled "MD101", pair_3_MD101 e refl)
type_with t (inl (inl (inr e))) = (spelled "MD201", pair_12 e refl)
type_with t (inl (inr e)) = (spelled "MD210", pair_13 e refl)
type_with t (inr e) = (spelled "MDE01", pair_14 e refl)

pub type_says : (t : ℕ) → Says (type_ok t) ((s : ℕ) × Pair t s)
type_says t = (λ h. type_with t ((says_or (says_or (says_or (says_or (says_or (says_eq t 1) (says_eq t 2)) (says_eq t 3)) (says_eq t 12)) (says_eq t 13)) (says_eq t 14)).0 h), λ q. type_of t q.0 q.1)

-- the entries, one by one
and_assoc : (a b c : Bool) → ((a && b) && c) ≡ (a && (b && c))
and_assoc true b c = refl
and_assoc false b c = refl

pub all_joined : (xs ys : List Field) → all_hold (xs ++ ys) ≡ (all_hold xs && all_hold ys)
all_joined [] ys = refl
all_joined (f ∷ xs) ys = rw (all_joined xs ys) (sym (and_assoc f.holds (all_hold xs) (all_hold ys)))

pub one_entry : (w at e : ℕ) (b : List ℕ) → all_hold (entry_fields w at e b) ≡ entry_ok w at b
unfolding entry_ok
one_entry w at e b =
    ⊎_elim
    (λ (s : eqb w 10 ≡ true). rw s)
    (λ (l : eqb w 10 ≡ false). rw l (ap (λ (x : Bool). digits 13 (entry_field 1 at b) && (digits 12 (entry_field 2 at b) && x)) (and_true (digits 2 (entry_field 3 at b)))))
    (two (eqb w 10))

pub all_entries : (n w : ℕ) (b : List ℕ) → all_hold (entries_fields n w b) ≡ entries_ok n w b
unfolding entries_fields entries_ok
all_entries zero w b = refl
all_entries (suc n) w b = all_joined (entries_fields n w b) (entry_fields w (fixed M102 + n * w) (n + 1) b) ∙ ap₂ ◌&&◌ (all_entries n w b) (one_entry w (fixed M102 + n * w) (n + 1) b)

pub all_fields_lem : (k : Kind) (b : List ℕ) → known k ≡ true → all_hold (fields_of k b) ≡ fields_ok k b
unfolding s001_ok s002_ok p001_ok p002_ok m201_ok m102_values_ok m102_ok fields_ok
all_fields_lem S001 b h = and_true (ltb 0 (field S001 2 b))
all_fields_lem S002 b h = and_true (leb (field S002 0 b) 9999)
all_fields_lem S003 b h = refl
all_fields_lem P001 b h = p001_all (eqb (field P001 0 b) 13) (digits 4 (field P001 1 b)) (digits 18 (field P001 2 b)) (eqb (field P001 3 b) (spelled "Y") || eqb (field P001 3 b) (spelled "N"))
all_fields_lem P002 b h =
    p002_all (digits 4 (field P002 0 b)) (eqb (field P002 1 b) 1) (ltb 0 (field P002 2 b)) (digits 18 (field P002 2 b)) (digits 18 (field P002 3 b))
    ((ltb 0 (field P002 4 b) || eqb (field P002 3 b) 0) || leb (field P002 2 b) (field P002 3 b))
    (leb (field P002 4 b) 5 || eqb (field P002 4 b) 99)
all_fields_lem M101 b h = refl
all_fields_lem M102 b h =
    m102_all (type_ok (field M102 0 b)) (leb 1 (field M102 1 b)) (leb (field M102 1 b) 3) (digits 8 (field M102 2 b)) (digits 9 (field M102 3 b)) (pair_ok (field M102 0 b) (field M102 4 b))
    (digits 13 (field M102 7 b)) (digits 16 (field M102 8 b)) (digits 16 (field M102 9 b)) (digits 16 (field M102 10 b)) (count_ok b) (all_hold (entries_of b))
    (λ r. type_of _ _ ((pair_says (field M102 0 b) (field M102 4 b)).0 r))
    ∙ ap (λ (x : Bool). ((pair_ok (field M102 0 b) (field M102 4 b) && m102_values_ok b) && count_ok b) && x) (all_entries (field M102 12 b) (entry_size (field M102 4 b)) b)
all_fields_lem M201 b h =
    m201_all (eqb (field M201 0 b) 13) (digits 4 (field M201 1 b)) (ltb 0 (field M201 2 b)) (digits 18 (field M201 2 b)) (digits 9 (field M201 5 b))
    ((eqb (field M201 6 b) (spelled "0") || eqb (field M201 6 b) (spelled "4")) || eqb (field M201 6 b) (spelled "F"))
    (digits 13 (field M201 7 b)) (digits 15 (field M201 8 b)) (tail_ok b)
all_fields_lem Unknown b h = absurd (clash h refl)

-- ======== THE PROMISE IN WORDS

some_none : {x : Broken} → ◌≡◌ {A = Option Broken} (Some x) None → ⊥
some_none e = absurd (none-some _ (sym e))

-- none is told exactly where the field rules of document 01 hold
nothing : (fs : List Field) (r : Option Broken) → Lowest fs r → r ≡ none → ⊥
nothing fs r l e = some_none (sym l.told_so ∙ e)

pub lowest_breaks : (fs : List Field) (r : Option Broken) → Lowest fs r → all_hold fs ≡ true → ⊥
lowest_breaks fs r l a =
    let e : all_hold fs ≡ false = ap all_hold l.order ∙ all_joined l.before (l.it ∷ l.behind) ∙ rw (l.hold, l.breaks) in
    clash a e

pub broken_none : (k : Kind) (b : List ℕ) → known k ≡ true → (broken_of k b ≡ none) ↔ FieldRules k b
unfolding broken_of
broken_none k b h =
    let fs = fields_of k b in (
      λ (e : lowest_from fs none ≡ none).
          (fields_say k b).0
          (sym (all_fields_lem k b h)
          ∙ ⊎_elim (λ (a : AllHold fs). a.0) (λ (l : Lowest fs (lowest_from fs none)). absurd (nothing fs (lowest_from fs none) l e)) (lowest_or fs)),
      λ (r : FieldRules k b).
          ⊎_elim (λ (a : AllHold fs). a.1)
          (λ (l : Lowest fs (lowest_from fs none)). absurd (lowest_breaks fs (lowest_from fs none) l (all_fields_lem k b h ∙ (fields_say k b).1 r)))
          (lowest_or fs),
    )

-- else the lowest field whose rule is broken
pub broken_lowest : (k : Kind) (b : List ℕ) → (broken_of k b ≡ none → ⊥) → Lowest (fields_of k b) (broken_of k b)
unfolding broken_of
broken_lowest k b ne =
    let fs = fields_of k b in
    ⊎_elim (λ (a : AllHold fs). absurd (ne a.1)) (λ (l : Lowest fs (lowest_from fs none)). l) (lowest_or fs)

-- none found, or one: by the fields
pub none_found : (fs : List Field) → all_hold fs ≡ true → lowest_from fs none ≡ none
none_found fs h = ⊎_elim (λ (a : AllHold fs). a.1) (λ (l : Lowest fs (lowest_from fs none)). absurd (lowest_breaks fs (lowest_from fs none) l h)) (lowest_or fs)

pub all_passed : (fs : List Field) → lowest_from fs none ≡ none → all_hold fs ≡ true
all_passed fs h = ⊎_elim (λ (a : AllHold fs). a.0) (λ (l : Lowest fs (lowest_from fs none)). absurd (nothing fs _ l h)) (lowest_or fs)

-- fields behind others: looked at only where all those hold
pub behind_all : (xs ys : List Field) → all_hold xs ≡ true → lowest_from (xs ++ ys) none ≡ lowest_from ys none
behind_all [] ys h = refl
behind_all (f ∷ xs) ys h =
    ⊎_elim
    (λ (t : f.holds ≡ true). passed f (xs ++ ys) t ∙ behind_all xs ys (rw t at h))
    (λ (n : f.holds ≡ false). absurd (clash (rw n at h) refl))
    (two f.holds)

pub before_one : (xs ys : List Field) → (lowest_from xs none ≡ none → ⊥) → lowest_from (xs ++ ys) none ≡ lowest_from xs none
unfolding lowest_from
before_one [] ys ne = absurd (ne refl)
before_one (f ∷ xs) ys ne =
    ⊎_elim
    (λ (t : f.holds ≡ true). passed f (xs ++ ys) t ∙ before_one xs ys (λ (z : lowest_from xs none ≡ none). ne (passed f xs t ∙ z)) ∙ sym (passed f xs t))
    (λ (n : f.holds ≡ false). stopped f (xs ++ ys) n ∙ sym (stopped f xs n))
    (two f.holds)

-- WITHIN THE BODY

abbrev pub AllWithin : ℕ → List Field → Type 0
AllWithin n [] = 0 ≤ n
AllWithin n (f ∷ fs) = (f.place + f.len ≤ n) × AllWithin n fs

within_joined : (n : ℕ) (xs ys : List Field) → AllWithin n xs → AllWithin n ys → AllWithin n (xs ++ ys)
within_joined n [] ys h k = k
within_joined n (f ∷ xs) ys h k = (h.0, within_joined n xs ys h.1 k)

entry_within : (i n w : ℕ) (b : List ℕ) → Wide w → i < n → AllWithin (73 + n * w) (entry_fields w (73 + i * w) (i + 1) b)
entry_within i n w b (inl x) h = rw x (omega arith, (omega arith, omega arith))
entry_within i n w b (inr x) h = rw x (omega arith, (omega arith, (omega arith, (omega arith, omega arith))))

entries_within : (i n w : ℕ) (b : List ℕ) → Wide w → i ≤ n → AllWithin (73 + n * w) (entries_fields i w b)
unfolding entries_fields
entries_within zero n w b x h = omega arith
entries_within (suc i) n w b x h = within_joined (73 + n * w) (entries_fields i w b) (entry_fields w (73 + i * w) (i + 1) b) (entries_within i n w b x (omega arith)) (entry_within i n w b x (omega arith))

-- a field that is told lies there
abbrev pub Within : ℕ → Option Broken → Type 0
Within n r = IfSome r (λ f. f.place + f.len ≤ n)

lowest_within : (n : ℕ) (fs : List Field) → AllWithin n fs → Within n (lowest_from fs none)
unfolding lowest_from
lowest_within n [] h = tt
lowest_within n (f ∷ fs) h =
    ⊎_elim (λ (t : f.holds ≡ true). rw (passed f fs t) (lowest_within n fs h.1)) (λ (e : f.holds ≡ false). rw (stopped f fs e) h.0) (two f.holds)

-- what fixed fields end before
s001_within : (n : ℕ) (b : List ℕ) → n ≡ 74 → AllWithin n (fixed_fields S001 b)
s001_within n b e = (omega arith, (omega arith, (omega arith, (omega arith, omega arith))))

s002_within : (n : ℕ) (b : List ℕ) → n ≡ 260 → AllWithin n (fixed_fields S002 b)
s002_within n b e = (omega arith, (omega arith, omega arith))

p001_within : (n : ℕ) (b : List ℕ) → n ≡ 12 → AllWithin n (fixed_fields P001 b)
p001_within n b e = (omega arith, (omega arith, (omega arith, (omega arith, omega arith))))

p002_within : (n : ℕ) (b : List ℕ) → n ≡ 52 → AllWithin n (fixed_fields P002 b)
p002_within n b e = (omega arith, (omega arith, (omega arith, (omega arith, (omega arith, (omega arith, omega arith))))))

m102_within : (n : ℕ) (b : List ℕ) → 73 ≤ n → AllWithin n (fixed_fields M102 b)
m102_within n b e =
    (omega arith, (omega arith, (omega arith, (omega arith, (omega arith, (omega arith, (omega arith, (omega arith, (omega arith, (omega arith, (omega arith, (omega arith, (omega arith, omega arith)))))))))))))

m201_within : (n : ℕ) (b : List ℕ) → 45 ≤ n → AllWithin n (fixed_fields M201 b ++ (field_at 45 (n - 45) 9 0 (tail_ok b) ∷ []))
m201_within n b e =
    (omega arith, (omega arith, (omega arith, (omega arith, (omega arith, (omega arith, (omega arith, (omega arith, (omega arith, (omega arith, omega arith))))))))))

-- where the entries do not fill the body, NoMDEntries is broken, and they are not looked at
count_broken : (b : List ℕ) → count_ok b ≡ false → all_hold (fixed_fields M102 b) ≡ false
count_broken b f = all_joined (take 12 (fixed_fields M102 b)) (field_at 71 2 12 0 (count_ok b) ∷ []) ∙ rw f (and_false (all_hold (take 12 (fixed_fields M102 b))))

counted_within : (b : List ℕ) → 73 ≤ length b → Within (length b) (lowest_from (fields_of M102 b) none)
counted_within b h =
    ⊎_elim
    (λ (t : count_ok b ≡ true).
    let e = eqb-true (length b) (73 + field M102 12 b * entry_size (field M102 4 b)) t in
    lowest_within (length b) (fields_of M102 b)
    (within_joined (length b) (fixed_fields M102 b) (entries_of b) (m102_within (length b) b h)
    (rw e (entries_within (field M102 12 b) (field M102 12 b) (entry_size (field M102 4 b)) b (size_wide (field M102 4 b)) (omega arith)))))
    (λ (f : count_ok b ≡ false).
    let same = before_one (fixed_fields M102 b) (entries_of b) (λ z. clash (all_passed (fixed_fields M102 b) z) (count_broken b f)) in
    rw same (lowest_within (length b) (fixed_fields M102 b) (m102_within (length b) b h)))
    (two (count_ok b))

suited : (k : Kind) (b : List ℕ) → suits k (length b) ≡ true → Within (length b) (lowest_from (fields_of k b) none)
unfolding suits lowest_from
suited S001 b s = lowest_within (length b) (fixed_fields S001 b) (s001_within (length b) b (eqb-true (length b) 74 s))
suited S002 b s = lowest_within (length b) (fixed_fields S002 b) (s002_within (length b) b (eqb-true (length b) 260 s))
suited S003 b s = tt
suited P001 b s = lowest_within (length b) (fixed_fields P001 b) (p001_within (length b) b (eqb-true (length b) 12 s))
suited P002 b s = lowest_within (length b) (fixed_fields P002 b) (p002_within (length b) b (eqb-true (length b) 52 s))
suited M101 b s = tt
suited M102 b s = counted_within b (leb-true 73 (length b) s)
suited M201 b s = lowest_within (length b) (fields_of M201 b) (m201_within (length b) b (leb-true 45 (length b) s))
suited Unknown b s = tt

measured_fine : (k : Kind) (n : ℕ) → Measured k n 0 → suits k n ≡ true
measured_fine k n (m_type e h) = absurd (omega arith)
measured_fine k n (m_long e h l) = absurd (omega arith)
measured_fine k n (m_length e h l s) = absurd (omega arith)
measured_fine k n (m_fine e h l s) = s

-- what is told lies within a body that passes 2, 3 and 4
pub broken_within : (k : Kind) (b : List ℕ) → measure_of k (length b) ≡ 0 → Within (length b) (broken_of k b)
unfolding broken_of
broken_within k b z = suited k b (measured_fine k (length b) (rw z at (measured k (length b))))
