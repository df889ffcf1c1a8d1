-- The check 26 in words, and that the test says exactly this: the fields end in SOH; each piece is
-- a tag of the type, `=`, and a value of its form; no tag stands twice; every required
-- one is there.
use Rattle.std.specs.Prelude.{ℕ, zero, suc, ◌<◌, ◌≡◌, refl, Bool, true, false, not, ◌||◌, List, [], ◌⊎◌, length, get_or}
use Rattle.std.proofs.Common.{arith}
use Rattle.terms.specs.Cases.{clash}
use Rattle.step_tags.specs.Table.{row_of, has, needs}
use Rattle.step_tags.specs.Forms.{form_ok}
use Rattle.step_spec.specs.Pieces.{pieces, closed}
use Rattle.step_spec.specs.Fields.{is_field, tag_of, value_of, fits, all_below, complete}

-- the row of the piece at a place; the piece at a place
abbrev pub piece_at : List (List ℕ) → ℕ → List ℕ
piece_at ps i = get_or ps i []

abbrev pub row_at : List (List ℕ) → ℕ → ℕ
row_at ps i = row_of (tag_of (piece_at ps i))

-- a piece is a field of the type: a tag that the type has, `=`, and a value of its form
pub record FieldOf (type : ℕ) (p : List ℕ) : Type 0 where
  pub field : is_field p ≡ true
  pub known : has type (row_of (tag_of p)) ≡ true
  pub formed : form_ok (row_of (tag_of p)) (value_of p) ≡ true

-- a piece in a row stands among others
pub record Stands (ps : List (List ℕ)) (r : ℕ) : Type 0 where
  pub at : ℕ
  pub inside : at < length ps
  pub is : row_at ps at ≡ r

pub record FieldsSound (type : ℕ) (fs : List ℕ) : Type 0 where
  pub ends : closed fs ≡ true
  pub each : (i : ℕ) → i < length (pieces fs) → FieldOf type (piece_at (pieces fs) i)
  pub once : (i j : ℕ) → i < j → j < length (pieces fs) → row_at (pieces fs) i ≡ row_at (pieces fs) j → ⊥
  pub needed : (r : ℕ) → needs type r ≡ true → Stands (pieces fs) r

below_all : (f : ℕ → Bool) (n : ℕ) → ((i : ℕ) → i < n → f i ≡ true) → all_below n f ≡ true
unfolding all_below
below_all f zero h = refl
below_all f (suc n) h = rw (below_all f n (λ i k. h i (omega arith)), h n (omega arith))

-- A PASS THAT HAS SEEN SOME ROWS

pub record Passing (type : ℕ) (seen : List Bool) (ps : List (List ℕ)) : Type 0 where
  pub each : (i : ℕ) → i < length ps → fits type (piece_at ps i) ≡ true
  pub fresh : (i : ℕ) → i < length ps → get_or seen (row_at ps i) false ≡ false
  pub once : (i j : ℕ) → i < j → j < length ps → row_at ps i ≡ row_at ps j → ⊥
  pub needed : (r : ℕ) → r < 27 → needs type r ≡ true → (get_or seen r false ≡ true) ⊎ Stands ps r

pub seen_of : (a b : Bool) → (not a || b) ≡ true → a ≡ true → b ≡ true
seen_of true b h e = h
seen_of false b h e = absurd (clash e refl)

pub all_seen : (type : ℕ) (seen : List Bool) → ((r : ℕ) → r < 27 → needs type r ≡ true → get_or seen r false ≡ true) → complete type seen ≡ true
unfolding complete
all_seen type seen h = below_all (λ (i : ℕ). not (needs type i) || get_or seen i false) 27 (λ i k. shows (needs type i) (get_or seen i false) (h i k))
  where
    shows : (a b : Bool) → (a ≡ true → b ≡ true) → (not a || b) ≡ true
    shows true b g = g refl
    shows false b g = refl
