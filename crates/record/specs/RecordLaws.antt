-- How many bytes a record has, and how one is read from a place on.
use Rattle.std.specs.Prelude.{ℕ, ◌-◌, ◌≤◌, ◌<◌, ◌≡◌, refl, min, List, length, take, drop}
use Rattle.std.proofs.Common.{sym, ap, ◌∙◌, ⊎_elim, add-zero, arith, length-drop, drop_of_length-le, take_all}
use Rattle.terms.specs.Cases.{less}
use Rattle.octets.specs.Octets.{digits_of}
use Rattle.octets.specs.Numerals.{numeral_drop}
use Rattle.record.specs.declared.Record.{Record}
use Rattle.record.specs.Record.{first_half, second_half, record_of, record_at}

pub length_record : (r : Record) → length (record_of r) ≡ 64
unfolding record_of first_half second_half digits_of
length_record r = refl

-- from a place on is at the front of what stands there
record_drop : (at : ℕ) (s : List ℕ) → record_at 0 (drop at s) ≡ record_at at s
unfolding record_at
record_drop at s = simp (numeral_drop, add-zero)

pub record_part : (at : ℕ) (s : List ℕ) → record_at 0 (take (length s - at) (drop at s)) ≡ record_at at s
record_part at s = rw (take_all (length s - at) (drop at s) (simp length-drop (omega arith))) (record_drop at s)

-- two places past the end read alike: nothing stands there
pub record_past : (at e : ℕ) (s : List ℕ) → length s ≤ at → length s ≤ e → record_at at s ≡ record_at e s
record_past at e s h k = sym (record_drop at s) ∙ ap (record_at 0) (drop_of_length-le s h ∙ sym (drop_of_length-le s k)) ∙ record_drop e s

-- what stands from the place on, or from the end on where the place is beyond it
pub record_rest : (at i : ℕ) (s : List ℕ) → i ≡ min at (length s) → record_at 0 (take (length s - i) (drop i s)) ≡ record_at at s
record_rest at i s e =
    record_part i s
    ∙ ⊎_elim (λ (l : length s < at). record_past i at s (omega arith) (omega arith)) (λ (l : at ≤ length s). let f : i ≡ at = omega arith in rw f) (less (length s) at)
