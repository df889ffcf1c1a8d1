-- `may_write`: the frame's length is told without making it; then each check in turn.
-- Assumes nothing.
use Rattle.step_frame.specs.Papers.{step_pos}
use Rattle.step_frame.proofs.Searches.{few_digits}
use Rattle.digits.specs.Digits.{width_of}
use Rattle.std.specs.Prelude.{Err}
use borrow.Author.Rules.{rules}
use Rattle.step_spec.specs.WriteLaws.{frame_over, write_long, write_type, write_judged, write_room, write_fine}
use Rattle.step_spec.proofs.WriteLaws.{frame_size}
use Rattle.step_spec.specs.Written.{frame_of}
use Rattle.terms.specs.Paper.{answer}
use lib.ListN.{length}
use mathlib.Core.List.{List, [], ◌∷◌}
use mathlib.Core.Path.{◌≡◌, sym, ap, ◌∙◌}
use Prim.Native.Nat.{ℕ, ◌+◌, ◌≤◌}
use native.Mathlib.Omega.{arith}
use Rattle.step_frame.proofs.may_write.Goals as goal

size : (k : ℕ) (f : List ℕ) (w : ℕ) → length f ≤ 8192 → w ≡ width_of (length f + 5) → length (frame_of k f) ≡ 26 + w + length f
size k f w l e = rw e (frame_size k f l)

small : (k : ℕ) (f : List ℕ) (w : ℕ) → length f ≤ 8192 → w ≡ width_of (length f + 5) → 26 + w + length f ≤ 8192 → length (frame_of k f) ≤ 8192
small k f w l e h = rw (size k f w l e) h

pub returns-then-n-gt-LONGEST : goal.returns-then-n-gt-LONGEST
returns-then-n-gt-LONGEST c = let a = c.args in sym (write_long _ _ _ (omega (arith, frame_over a.kind a.fields.now)))

pub overflow_add-total : goal.overflow_add-total
overflow_add-total c = record { fits = omega (arith, few_digits (length c.args.fields.now + 5) _ (omega arith) c.width.ensures) }

pub overflow_add-total-2 : goal.overflow_add-total-2
overflow_add-total-2 c = record { fits = omega (arith, few_digits (length c.args.fields.now + 5) _ (omega arith) c.width.ensures) }

pub returns-then-total-gt-LONGEST : goal.returns-then-total-gt-LONGEST
returns-then-total-gt-LONGEST c = let a = c.args in sym (write_long _ _ _ (omega (arith, size a.kind a.fields.now _ (omega arith) c.width.ensures, c.if-total-gt-LONGEST.true)))

pub returns-then-not-is_type : goal.returns-then-not-is_type
returns-then-not-is_type c = sym (write_type _ _ _ (small _ _ _ (omega arith) c.width.ensures (omega arith)) (sym c.is_type.ensures ∙ c.if-not-is_type.true))

pub returns-in_err-judge : goal.returns-in_err-judge
returns-in_err-judge c =
    let r : c.from_residual.result ≡ Err c.in_err-judge.field-0.0 = search rules in
    rw r (sym (write_judged _ _ _ (small _ _ _ (omega arith) c.width.ensures (omega arith)) (sym c.is_type.ensures ∙ c.if-not-is_type.false) _ (sym c.in_err-judge.ensures) (step_pos c.in_err-judge.field-0.0)))

pub returns-then-room-total : goal.returns-then-room-total
returns-then-room-total c =
    let a = c.args in
    sym (write_room _ _ _ (small _ _ _ (omega arith) c.width.ensures (omega arith)) (sym c.is_type.ensures ∙ c.if-not-is_type.false) (sym c.in_ok-judge.ensures) (omega (arith, size a.kind a.fields.now _ (omega arith) c.width.ensures, c.if-room-total.true)))

pub returns : goal.returns
returns c =
    let a = c.args in
    let z = size a.kind a.fields.now _ (omega arith) c.width.ensures in
    ap (λ (n : ℕ). answer 0 (n ∷ [])) (sym z) ∙ sym (write_fine _ _ _ (small _ _ _ (omega arith) c.width.ensures (omega arith)) (sym c.is_type.ensures ∙ c.if-not-is_type.false) (sym c.in_ok-judge.ensures) (omega (arith, z, c.if-room-total.false)))
