-- `head_at`: a literal that fails or ends early is the answer; else the next check's.
-- Assumes nothing.
use Rattle.step_frame.specs.Papers.{step_pos}
use Rattle.step_spec.specs.FrontLaws.{front_length}
use Rattle.step_spec.specs.Frame.{front, begin, length_tag, head_of}
use Rattle.std.specs.Prelude.{Err}
use lib.Seq.{drop-drop}
use lib.ListN.{length, drop, length-drop}
use mathlib.Core.List.{List}
use mathlib.Core.Path.{◌≡◌, sym, ap, ◌∙◌}
use Prim.Native.Nat.{ℕ, ◌+◌, ◌≤◌}
use native.Mathlib.Omega.{arith}
use borrow.Author.Rules.{rules}
use Rattle.terms.specs.Checks.{else_on, else_is}
use Rattle.step_frame.proofs.head_at.Goals as goal

-- a literal that is there leaves room behind it
eleven : (at : ℕ) (s : List ℕ) → at ≤ length s → 0 ≡ front 23 begin (drop at s) → at + 11 ≤ length s
eleven at s h e = omega (arith, front_length 23 begin (drop at s) (λ e. omega arith) (sym e), length-drop at s)

nine : (at m : ℕ) (s : List ℕ) → m ≡ front 24 length_tag (drop (at + 11) s) → m ≡ front 24 length_tag (drop 11 (drop at s))
nine at m s e = e ∙ ap (front 24 length_tag) (sym (drop-drop 11 at s))

pub expects-requires-2 : goal.expects-requires-2
expects-requires-2 c = eleven _ _ c.requires c.in_ok-expects.ensures

pub length_at-requires : goal.length_at-requires
length_at-requires c =
    let a = c.args in
    let t = drop a.at a.bytes.now in
    let m = sym (nine a.at _ a.bytes.now c.in_ok-expects-2.ensures) in
    omega (arith, front_length 24 length_tag (drop 11 t) (λ e. omega arith) m, length-drop 11 t, length-drop a.at a.bytes.now)

pub returns-in_err-expects : goal.returns-in_err-expects
unfolding head_of
returns-in_err-expects c =
    let r : c.from_residual.result ≡ Err c.in_err-expects.field-0.0 = search rules in
    rw r (sym (else_is _ _ _ (sym c.in_err-expects.ensures) (step_pos c.in_err-expects.field-0.0)))

pub returns-in_err-expects-2 : goal.returns-in_err-expects-2
unfolding head_of
returns-in_err-expects-2 c =
    let r : c.from_residual-in_err-expects-2.result ≡ Err c.in_err-expects-2.field-0.0 = search rules in
    rw r (sym (else_on _ _ (sym c.in_ok-expects.ensures) ∙ else_is _ _ _ (sym (nine c.args.at _ c.args.bytes.now c.in_err-expects-2.ensures)) (step_pos c.in_err-expects-2.field-0.0)))

pub returns : goal.returns
unfolding head_of
returns c =
    let m = sym (nine c.args.at _ c.args.bytes.now c.in_ok-expects-2.ensures) in
    rw (else_on _ _ (sym c.in_ok-expects.ensures), else_on _ _ m) c.length_at.ensures
