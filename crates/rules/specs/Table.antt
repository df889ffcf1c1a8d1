-- Document 01's table of message types, and the checks 2, 3 and 4.
use Rattle.std.specs.Prelude.{ℕ, ◌/◌, ◌%◌, ◌≡◌, refl, Bool, true, false, [], ◌∷◌, ltb, leb, eqb, get_or}
use Rattle.std.proofs.Common.{sym, ap, ◌∙◌, ne_eqb}
use Rattle.terms.specs.Letters.{spelled}
use Rattle.terms.specs.Paper.{Paper, answer, refusal, pick}
use Rattle.rules.specs.declared.Kind.{Kind}
use Rattle.rules.specs.declared.Kind.TheVariants.{S001, S002, S003, P001, P002, M101, M102, M201, Unknown}

-- the four letters of each type, as a number; a MsgType not in the table is 2
abbrev pub kind_paper : Kind → Paper
kind_paper S001 = answer 0 (spelled "S001" ∷ [])
kind_paper S002 = answer 0 (spelled "S002" ∷ [])
kind_paper S003 = answer 0 (spelled "S003" ∷ [])
kind_paper P001 = answer 0 (spelled "P001" ∷ [])
kind_paper P002 = answer 0 (spelled "P002" ∷ [])
kind_paper M101 = answer 0 (spelled "M101" ∷ [])
kind_paper M102 = answer 0 (spelled "M102" ∷ [])
kind_paper M201 = answer 0 (spelled "M201" ∷ [])
kind_paper Unknown = refusal 2

-- the type with these letters
unfoldable pub kind_of : ℕ → Kind
kind_of t =
    pick (eqb t (spelled "S001")) S001
    (pick (eqb t (spelled "S002")) S002
    (pick (eqb t (spelled "S003")) S003
    (pick (eqb t (spelled "P001")) P001
    (pick (eqb t (spelled "P002")) P002
    (pick (eqb t (spelled "M101")) M101
    (pick (eqb t (spelled "M102")) M102
    (pick (eqb t (spelled "M201")) M201
    Unknown)))))))

-- the MsgType t as the table has it
unfoldable pub type_of : ℕ → Paper
type_of t = kind_paper (kind_of t)

abbrev pub known : Kind → Bool
known S001 = true
known S002 = true
known S003 = true
known P001 = true
known P002 = true
known M101 = true
known M102 = true
known M201 = true
known Unknown = false

-- the lengths of a body that suit each type
unfoldable pub suits : Kind → ℕ → Bool
suits S001 n = eqb n 74
suits S002 n = eqb n 260
suits S003 n = eqb n 0
suits P001 n = eqb n 12
suits P002 n = eqb n 52
suits M101 n = true
suits M102 n = leb 73 n
suits M201 n = leb 45 n
suits Unknown n = false

-- 2, 3, 4, of a body of n bytes
unfoldable pub measure_of : Kind → ℕ → ℕ
measure_of k n = pick (known k) (pick (ltb 8164 n) 3 (pick (suits k n) 0 4)) 2

-- the type told from its paper
unfoldable told_kind : Paper → Kind
told_kind p = kind_of (get_or p.values 0 0)

kind_told : (k : Kind) → told_kind (kind_paper k) ≡ k
unfolding told_kind kind_of
kind_told S001 = refl
kind_told S002 = refl
kind_told S003 = refl
kind_told P001 = refl
kind_told P002 = refl
kind_told M101 = refl
kind_told M102 = refl
kind_told M201 = refl
kind_told Unknown = refl

-- two types of one paper are one
pub kind_one : (k l : Kind) → kind_paper k ≡ kind_paper l → k ≡ l
kind_one k l e = sym (kind_told k) ∙ ap told_kind e ∙ kind_told l

-- what `kind_of` promises, as the type itself
pub kind_is : (k : Kind) (t : ℕ) → kind_paper k ≡ type_of t → k ≡ kind_of t
unfolding type_of
kind_is k t e = kind_one k (kind_of t) e

-- the third letter of each name is 0: a word with another one is no type of the table
other_word : (t k : ℕ) → (t / 256 % 256 ≡ spelled "0" → ⊥) → k / 256 % 256 ≡ spelled "0" → eqb t k ≡ false
other_word t k h is = ne_eqb t k (λ (e : t ≡ k). h (ap (λ (x : ℕ). x / 256 % 256) e ∙ is))

pub kind_none : (t : ℕ) → (t / 256 % 256 ≡ spelled "0" → ⊥) → kind_of t ≡ Unknown
unfolding kind_of
kind_none t h =
    simp (
      other_word t (spelled "S001") h refl,
      other_word t (spelled "S002") h refl,
      other_word t (spelled "S003") h refl,
      other_word t (spelled "P001") h refl,
      other_word t (spelled "P002") h refl,
      other_word t (spelled "M101") h refl,
      other_word t (spelled "M102") h refl,
      other_word t (spelled "M201") h refl,
    )
