use Rattle.step_scrub.specs.Moved.{moved_same, moved_on}
use Rattle.step_scrub.proofs.Turns.{field_here, fields_cut, painted_done, turn_drop, turn_take, turn_length}
use Rattle.step_scrub.specs.Scrubbed.{painted}
use Rattle.step_spec.specs.FieldLaws.{field_is, field_not, value_room}
use Rattle.step_spec.specs.PieceLaws.{closed_cut}
use Rattle.step_spec.specs.Pieces.{SOH, until_of}
use Rattle.terms.specs.Cases.{less, clash}
use mathlib.Core.Logic.{⊎_elim}
use lib.ListN.{length, take, drop, length-drop}
use mathlib.Core.List.{List, ◌++◌}
use mathlib.Core.Path.{refl, sym, ap, ◌∙◌}
use Prim.Native.Nat.{ℕ, suc, ◌<◌, ◌≤◌}
use native.Mathlib.Omega.{arith}
use borrow.Author.Rules.{rules}
use Rattle.step_scrub.proofs.paint_fields.Goals as goal

pub loop-field-init : goal.loop-field-init
loop-field-init c = (search rules, refl, c.requires.0, c.requires.1, refl, moved_same c.args.sum c.args.buf.now (search rules))

pub paint_value-v-requires : goal.paint_value-v-requires
paint_value-v-requires c = let l = c.loop-field in omega (arith, value_room l.i l.buf _ _ _ _ (field_is _ _ _ _ _ _ c.in-Some.ensures))

pub loop-field-smaller : goal.loop-field-smaller
loop-field-smaller c =
    let l = c.loop-field in
    let f = field_is _ _ _ _ _ _ c.in-Some.ensures in
    omega (arith, f.ends, f.found, length-drop l.i l.buf, ap length c.paint_value-v.ensures.0, turn_length l.i l.buf _ _ _ _ l.invariant.0 f)

pub loop-field-preserved : goal.loop-field-preserved
loop-field-preserved c =
    let l = c.loop-field in
    let f = field_is _ _ _ _ _ _ c.in-Some.ensures in
    let e = c.paint_value-v.ensures.0 in
    let n = ap length e ∙ turn_length l.i l.buf _ _ _ _ l.invariant.0 f in
    let d = ap (drop c.in-Some.field.next) e ∙ turn_drop l.i l.buf _ _ _ _ l.invariant.0 f in (
      omega (arith, f.ends, f.found, length-drop l.i l.buf, n),
      n ∙ l.invariant.1,
      rw d (sym (closed_cut (drop l.i l.buf) f.found) ∙ l.invariant.2),
      rw d (fields_cut (drop l.i l.buf) f.found l.invariant.3).1,
      rw d (ap (λ (x : List ℕ). take c.in-Some.field.next x ++ painted (drop (suc (until_of SOH (drop l.i l.buf))) (drop l.i l.buf))) e ∙ turn_take l.i l.buf _ _ _ _ l.invariant.0 f ∙ l.invariant.4),
      moved_on _ l.v _ _ l.buf _ l.invariant.5 c.paint_value-v.ensures.1,
    )

pub returns : goal.returns
returns c =
    let l = c.loop-field in
    ⊎_elim (λ (m : l.i < length l.buf). absurd (clash (field_here (drop l.i l.buf) (simp length-drop (omega (arith, m))) l.invariant.2 l.invariant.3) (field_not _ _ c.in_default.ensures)))
    (λ (m : length l.buf ≤ l.i). (sym (painted_done l.i l.buf m) ∙ l.invariant.4, l.invariant.5))
    (less l.i (length l.buf))
