-- `store_plain`: each piece is laid behind the ones before it. Assumes nothing.
use Rattle.octets.specs.Papers.{lay_next}
use Rattle.step_spec.specs.WriteLaws.{frame_over, plain_pieces}
use Rattle.step_spec.proofs.WriteLaws.{frame_size}
use Rattle.step_spec.proofs.RoundTrip.{plain_long}
use Rattle.step_spec.specs.Written.{frame_of}
use Rattle.step_frame.proofs.Searches.{few_digits}
use Rattle.step_spec.specs.Frame.{begin, length_tag, type_tag}
use Rattle.step_spec.specs.Pieces.{SOH}
use Rattle.digits.specs.Laws.{length_decimal}
use Rattle.digits.specs.Digits.{shown_of, width_of}
use Rattle.octets.specs.Papers.{laid_there}
use Rattle.octets.specs.Octets.{laid}
use lib.ListN.{length, length-append}
use borrow.Author.Tests.{le-leb}
use mathlib.Core.List.{List, [], ◌∷◌, ◌++◌}
use mathlib.Core.Path.{◌≡◌, refl, ap, ◌∙◌}
use Prim.Native.Nat.{ℕ, ◌+◌, ◌≤◌}
use native.Mathlib.Omega.{arith}
use Rattle.step_frame.proofs.store_plain.Goals as goal

few : (k : ℕ) (f : List ℕ) → length (frame_of k f) ≤ 8192 → length f ≤ 8192
few k f h = omega (arith, h, frame_over k f)

size : (k : ℕ) (f o : List ℕ) → length (frame_of k f) ≤ 8192 → length (frame_of k f) ≤ length o → 26 + width_of (length f + 5) + length f ≤ length o
size k f o h r = omega (arith, r, frame_size k f (few k f h))

-- the digits of the length
abbrev digits : List ℕ → List ℕ
digits f = shown_of (length f + 5)

digits_long : (f : List ℕ) → length (digits f) ≡ width_of (length f + 5)
digits_long f = length_decimal (width_of (length f + 5)) (length f + 5)

pub overflow_add-behind : goal.overflow_add-behind
overflow_add-behind c = record { fits = omega (arith, few_digits (length c.args.fields.now + 5) _ (omega arith) c.width-behind.ensures) }

pub overflow_add-behind-2 : goal.overflow_add-behind-2
overflow_add-behind-2 c = record { fits = omega (arith, few_digits (length c.args.fields.now + 5) _ (omega arith) c.width-behind.ensures) }

pub overflow_add-result : goal.overflow_add-result
overflow_add-result c = record { fits = omega (arith, few_digits (length c.args.fields.now + 5) _ (omega arith) c.width-behind.ensures) }

pub overflow_add-result-2 : goal.overflow_add-result-2
overflow_add-result-2 c = record { fits = omega (arith, few_digits (length c.args.fields.now + 5) _ (omega arith) c.width-behind.ensures) }

-- the four pieces, one behind the other
pub returns : goal.returns
returns c =
    let o = c.args.out.now in
    let f = c.args.fields.now in
    let z = size _ _ _ c.requires.0 c.requires.1 in
    let w = c.width-behind.ensures in
    let tag = SOH ∷ (type_tag ++ (c.args.kind ∷ SOH ∷ [])) in
    let one : c.lay.new.d ≡ laid 0 (begin ++ length_tag) o = c.lay.ensures.1 ∙ laid_there 0 13 (begin ++ length_tag) o refl (le-leb 13 (length o) (omega (arith, z))) in
    let two = lay_next 13 (begin ++ length_tag) (digits f) o _ _ c.put_decimal.ensures.1 one refl (omega (arith, z, digits_long f)) in
    let three = lay_next _ ((begin ++ length_tag) ++ digits f) tag o _ _ c.lay-2.ensures.1 two (simp length-append (omega (arith, digits_long f, w))) (omega (arith, z, w)) in
    let four = lay_next _ (((begin ++ length_tag) ++ digits f) ++ tag) f o _ _ c.lay-3.ensures.1 three (simp length-append (omega (arith, digits_long f, w))) (omega (arith, z, w)) in
    (omega (arith, w, plain_long c.args.kind f [] (few _ _ c.requires.0)), four ∙ ap (λ (l : List ℕ). laid 0 l o) (plain_pieces c.args.kind f))
