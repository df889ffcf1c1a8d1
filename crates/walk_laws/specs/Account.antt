-- From the readings of a walk to its records and its ledger: a reading gives a record, and the
-- ledger to the next.
use Prim.Native.Nat.{ℕ, zero, suc}
use Rattle.std.specs.Prelude.{length, ◌≡◌}
use Rattle.std.proofs.Math.Path.{refl, ap}
use mathlib.Core.List.{List, [], ◌∷◌, ◌++◌}
use Rattle.walk_laws.specs.Walk.{Says, Sight, within, sights_of}

pub record Account (L C : Type 0) : Type 0 where
  pub records : List C
  pub ledger : L

-- more records in front
abbrev pub first : {L C : Type 0} → List C → Account L C → Account L C
first l a = record { records = l ++ a.records; ledger = a.ledger }

-- of a reading: the record, and the ledger after it
module _ {R L C : Type 0} (record_of : L → Sight R → C) (next_of : L → Sight R → L) where
  unfoldable pub account_of : L → List (Sight R) → Account L C
  account_of l [] = record { records = []; ledger = l }
  account_of l (x ∷ xs) = first (record_of l x ∷ []) (account_of (next_of l x) xs)

  pub account_append : (l : L) (a b : List (Sight R)) → account_of l (a ++ b) ≡ first (account_of l a).records (account_of (account_of l a).ledger b)
  unfolding account_of
  account_append l [] b = refl
  account_append l (x ∷ a) b = rw (account_append (next_of l x) a b)

  pub account_length : (l : L) (a : List (Sight R)) → length (account_of l a).records ≡ length a
  unfolding account_of
  account_length l [] = refl
  account_length l (x ∷ a) = ap suc (account_length (next_of l x) a)

-- the walk of a closed capture: the records of its readings, and the ledger after the last
module _ {R L C : Type 0} (read_of : List ℕ → R) (says_of : R → Says) (record_of : L → Sight R → C) (next_of : L → Sight R → L) where
  unfoldable pub walk_of : L → List ℕ → Account L C
  walk_of l s = account_of record_of next_of l (sights_of read_of says_of (within zero) 0 s)
