-- `type_at`: the tag, then the byte, then SOH. Assumes nothing.
use Rattle.step_frame.specs.Papers.{check_number, step_pos}
use Rattle.step_spec.specs.FrontLaws.{front_length, kind_short, kind_other, kind_there}
use Rattle.step_spec.specs.Frame.{front, type_tag}
use Rattle.std.specs.Prelude.{Err}
use lib.ListN.{length, drop, length-drop}
use mathlib.Core.List.{List}
use mathlib.Core.Path.{◌≡◌, sym, ap, ◌∙◌}
use Prim.Native.Nat.{ℕ, ◌+◌, ◌≤◌}
use native.Mathlib.Omega.{arith}
use borrow.Author.Rules.{rules}
use Rattle.terms.specs.Checks.{else_on, else_off}
use Rattle.step_frame.proofs.type_at.Goals as goal

room : (at : ℕ) (s : List ℕ) → at ≤ length s → 0 ≡ front 25 type_tag (drop at s) → at + 3 ≤ length s
room at s h e = omega (arith, front_length 25 type_tag (drop at s) (λ e. omega arith) (sym e), length-drop at s)

pub returns-in_err-expects : goal.returns-in_err-expects
returns-in_err-expects c =
    let r : c.from_residual.result ≡ Err c.in_err-expects.field-0.0 = search rules in
    ap check_number r ∙ c.in_err-expects.ensures ∙ sym (else_off _ _ (λ e. step_pos c.in_err-expects.field-0.0 (c.in_err-expects.ensures ∙ e)))

pub returns-then-place-bytes : goal.returns-then-place-bytes
returns-then-place-bytes c = let a = c.args in sym (else_on _ _ (sym c.in_ok-expects.ensures) ∙ kind_short a.bytes.now (a.at + 3) (omega (arith, c.if-place-bytes.true)))

pub bounds-bytes-place : goal.bounds-bytes-place
bounds-bytes-place c = omega (arith, room _ _ c.requires c.in_ok-expects.ensures, c.if-place-bytes.false)

pub returns-then-not-is_type : goal.returns-then-not-is_type
returns-then-not-is_type c =
    let a = c.args in
    sym (else_on _ _ (sym c.in_ok-expects.ensures) ∙ kind_other a.bytes.now (a.at + 3) (omega (arith, room _ _ c.requires c.in_ok-expects.ensures, c.if-place-bytes.false)) (sym c.is_type.ensures ∙ c.if-not-is_type.true))

pub expects-requires-2 : goal.expects-requires-2
expects-requires-2 c = omega (arith, room _ _ c.requires c.in_ok-expects.ensures, c.if-place-bytes.false)

pub returns : goal.returns
returns c =
    let a = c.args in
    c.expects-2.ensures ∙ sym (else_on _ _ (sym c.in_ok-expects.ensures) ∙ kind_there a.bytes.now (a.at + 3) (omega (arith, room _ _ c.requires c.in_ok-expects.ensures, c.if-place-bytes.false)) (sym c.is_type.ensures ∙ c.if-not-is_type.false))
