-- The check 26, a piece at a time: what a pass over the fields may conclude at each.
use Prim.Native.Nat.{ℕ, suc, ◌<◌, ◌≤◌}
use Rattle.std.specs.Prelude.{◌≡◌, Bool, false, not, ◌&&◌, ltb, drop, set}
use Rattle.std.proofs.Math.Path.{refl}
use Rattle.std.proofs.Math.Bool.{true}
use mathlib.Core.List.{List, [], ◌∷◌}
use Rattle.std.proofs.Math.Logic.{⊎_elim}
use native.Mathlib.Omega.{arith}
use Rattle.std.proofs.Math.ListN.{length, get_or}
use borrow.Author.Tests.{lt-ltb, le-ltb}
use Rattle.terms.specs.Cases.{less, and_false}
use Rattle.step_spec.specs.Pieces.{SOH, until_of, pieces, closed}
use Rattle.step_spec.specs.PieceLaws.{pieces_cut, closed_cut, not_closed}
use Rattle.step_spec.specs.Fields.{is_field, fits, complete, passes, sound_from, unreal_in, sound_of, judge_of}
use Rattle.step_spec.specs.FieldLaws.{row_in, piece, unfit_field}

module _ (type : ℕ) (seen : List Bool) (s : List ℕ) where
  -- no SOH
  pub sound_open : 0 < length s → length s ≤ until_of SOH s → sound_from type seen s ≡ false
  unfolding sound_from
  sound_open p h = rw (not_closed s p h)

  module _ (h : until_of SOH s < length s) where
    passes_front : passes type seen (pieces s) ≡ ((fits type (piece s) && not (get_or seen (row_in s) false)) && passes type (set seen (row_in s) true) (pieces (drop (suc (until_of SOH s)) s)))
    unfolding passes
    passes_front = rw (pieces_cut s h)

    pub sound_unfit : fits type (piece s) ≡ false → sound_from type seen s ≡ false
    unfolding sound_from
    sound_unfit e = rw (passes_front, e, and_false)

    pub sound_twice : get_or seen (row_in s) false ≡ true → sound_from type seen s ≡ false
    unfolding sound_from
    sound_twice e = rw (passes_front, e, and_false) (and_false (closed s))

    pub sound_on : fits type (piece s) ≡ true → get_or seen (row_in s) false ≡ false → sound_from type seen s ≡ sound_from type (set seen (row_in s) true) (drop (suc (until_of SOH s)) s)
    unfolding sound_from
    sound_on e f = rw (passes_front, e, f, closed_cut s h)

  pub sound_end : length s ≤ 0 → sound_from type seen s ≡ complete type seen
  unfolding sound_from passes pieces closed
  sound_end h = at_end s h
    where
      at_end : (t : List ℕ) → length t ≤ 0 → (closed t && passes type seen (pieces t)) ≡ complete type seen
      at_end [] h = refl
      at_end (x ∷ xs) h = absurd (omega arith)

-- no field at the front: nothing is sound there
pub sound_no_field : (type : ℕ) (seen : List Bool) (t : List ℕ) → 0 < length t → (ltb (until_of SOH t) (length t) && is_field (piece t)) ≡ false → sound_from type seen t ≡ false
sound_no_field type seen t p e =
    ⊎_elim (λ (h : until_of SOH t < length t). sound_unfit type seen t h (unfit_field type (piece t) (rw (lt-ltb _ _ h) at e))) (λ (h : length t ≤ until_of SOH t). sound_open type seen t p h) (less (until_of SOH t) (length t))

-- A FIELD THAT DOES NOT FIT

module _ (type : ℕ) (t : List ℕ) where
  pub misfit : fits type (piece t) ≡ false → (ltb (until_of SOH t) (length t) && fits type (piece t)) ≡ false
  misfit e = rw e (and_false (ltb (until_of SOH t) (length t)))

  pub misfit_field : (ltb (until_of SOH t) (length t) && is_field (piece t)) ≡ false → (ltb (until_of SOH t) (length t) && fits type (piece t)) ≡ false
  misfit_field e =
      ⊎_elim (λ (l : until_of SOH t < length t). misfit (unfit_field type (piece t) (rw (lt-ltb _ _ l) at e))) (λ (l : length t ≤ until_of SOH t). rw (le-ltb _ _ l)) (less (until_of SOH t) (length t))

  -- a pass ends there
  pub sound_misfit : (seen : List Bool) → 0 < length t → (ltb (until_of SOH t) (length t) && fits type (piece t)) ≡ false → sound_from type seen t ≡ false
  sound_misfit seen p e =
      ⊎_elim (λ (l : until_of SOH t < length t). sound_unfit type seen t l (rw (lt-ltb _ _ l) at e)) (λ (l : length t ≤ until_of SOH t). sound_open type seen t p l) (less (until_of SOH t) (length t))

-- the judgement, by its parts
module _ (type : ℕ) (s : List ℕ) where
  pub judged_7 : unreal_in (pieces s) ≡ true → judge_of type s ≡ 7
  unfolding judge_of
  judged_7 e = rw e

  pub judged_26 : unreal_in (pieces s) ≡ false → sound_of type s ≡ false → judge_of type s ≡ 26
  unfolding judge_of
  judged_26 e f = rw (e, f)

  pub judged_fine : unreal_in (pieces s) ≡ false → sound_of type s ≡ true → judge_of type s ≡ 0
  unfolding judge_of
  judged_fine e f = rw (e, f)
