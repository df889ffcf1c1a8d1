-- What each number of an opening and of a request says of the table: one view a call, built once
-- from the definitions. Assumes nothing.
use mathlib.Core.Path.{◌≡◌, refl, ap}
use mathlib.Core.Bool.{true, false}
use Prim.Native.Nat.{ℕ, ◌≤◌, ◌<◌}
use native.Mathlib.Nat.{mod-lt}
use native.Mathlib.Omega.{arith}
use lib.Dec.{ltb}
use borrow.Author.Tests.{eqb-false, ltb-true, ltb-false, not-true}
use Rattle.terms.specs.Cases.{clash}
use Rattle.ledger_spec.specs.State.{Book}
use Rattle.ledger_spec.proofs.Tests.{pick_cases}
use Rattle.channels_spec.specs.Table.{Place, free, holds, Table, is_free, misses, waits, free_place, pending_place, counted, steps, turn, is_open, TableRules}
use Rattle.channels_spec.specs.Calls.{opening_number, request_number, asked}
use Rattle.channels_spec.proofs.Least.{least_is, least_none}

-- ---- opening

pub data Opening (t : Table) (channel : ℕ) : ℕ → Type 0 where
  wide_10 : 9999 < channel → Opening t channel 10
  twice_22 : channel ≤ 9999 → is_open t channel ≡ true → Opening t channel 22
  full_21 : channel ≤ 9999 → is_open t channel ≡ false → 32 ≤ free_place t → Opening t channel 21
  fine_0 : channel ≤ 9999 → is_open t channel ≡ false → free_place t < 32 → Opening t channel 0

pub opening : (t : Table) (channel : ℕ) → Opening t channel (opening_number t channel)
unfolding opening_number
opening t channel =
    pick_cases (Opening t channel) (ltb 9999 channel) 10 _ (λ e. wide_10 (ltb-true _ _ e))
    (λ e. pick_cases (Opening t channel) (is_open t channel) 22 _ (λ f. twice_22 (ltb-false _ _ e) f)
    (λ f. pick_cases (Opening t channel) (ltb (free_place t) 32) 0 21 (λ g. fine_0 (ltb-false _ _ e) f (ltb-true _ _ g)) (λ g. full_21 (ltb-false _ _ e) f (ltb-false _ _ g))))

is_free_holds : (p : Place) → is_free p ≡ true → p ≡ free
is_free_holds free e = refl
is_free_holds (holds b) e = absurd (clash e refl)

pub free_there : (t : Table) → free_place t < 32 → t.place (free_place t) ≡ free
unfolding free_place
free_there t l = is_free_holds _ (least_is (λ i. is_free (t.place i)) 32 l).is_so

-- ---- a request

pub data Asking (t : Table) : ℕ → Type 0 where
  busy_14 : pending_place t < 32 → Asking t 14
  whole_15 : 32 ≤ pending_place t → 32 ≤ steps t → Asking t 15
  turns : {n : ℕ} → 32 ≤ pending_place t → steps t < 32 → n ≡ (asked t).number → Asking t n

pub asking_view : (t : Table) → Asking t (request_number t)
unfolding request_number
asking_view t =
    pick_cases (Asking t) (ltb (pending_place t) 32) 14 _ (λ e. busy_14 (ltb-true _ _ e))
    (λ e. pick_cases (Asking t) (ltb (steps t) 32) (asked t).number 15 (λ f. turns (ltb-false _ _ e) (ltb-true _ _ f) refl) (λ f. whole_15 (ltb-false _ _ e) (ltb-false _ _ f)))

-- nothing is pending anywhere
pub none_waits : (t : Table) → TableRules t → 32 ≤ pending_place t → (i : ℕ) → waits (t.place i) ≡ true → ⊥
unfolding pending_place
none_waits t r l i e = at (t.place i) refl e
  where
    at : (p : Place) → t.place i ≡ p → waits (t.place i) ≡ true → ⊥
    at free x y = clash y (ap waits x)
    at (holds b) x y = clash y (least_none (λ j. waits (t.place j)) 32 l i (r.within i b x))

-- the place whose turn it is
pub record TurnAt (t : Table) (i : ℕ) : Type 0 where
  pub book : Book
  pub within : i < 32
  pub is : t.place i ≡ holds book
  pub missing : book.top ≡ book.floor → ⊥

missed : (t : Table) (i : ℕ) (p : Place) → i < 32 → t.place i ≡ p → misses p ≡ true → TurnAt t i
missed t i free l e y = absurd (clash y refl)
missed t i (holds b) l e y = record { book = b; within = l; is = e; missing = eqb-false _ _ (not-true _ y) }

pub turn_at : (t : Table) → steps t < 32 → TurnAt t (turn t)
unfolding steps
turn_at t l = missed t (turn t) _ (mod-lt _ (omega arith)) refl (least_is (λ k. misses (t.place (counted t k))) 32 l).is_so
