-- `fit_at`: a field's paper says where its value stands. Assumes nothing.
use Rattle.step_spec.specs.FieldLaws.{FieldIs, field_is, field_not, value_room, value_is}
use Rattle.step_tags.specs.Laws.{fit_some, fit_lacks}
use lib.ListN.{drop}
use mathlib.Core.Logic.{inl, inr}
use mathlib.Core.Path.{◌≡◌}
use Prim.Native.Nat.{◌+◌, ◌-◌}
use native.Mathlib.Omega.{arith}
use Rattle.step_frame.proofs.fit_at.Goals as goal
use Rattle.step_frame.proofs.fit_at.Goals.{In_ok-field}

-- what the field's paper says
facts : (c : goal.In_ok-field) → let f = c.in_ok-field.field in FieldIs c.args.at (drop c.args.at c.args.fields.now) f.tag f.value f.len f.next
facts c = field_is _ _ _ _ _ _ c.in_ok-field.ensures

pub overflow_add-end : goal.overflow_add-end
overflow_add-end c = let a = c.args in record { fits = omega (arith, value_room a.at a.fields.now _ _ _ _ (facts (goal.at.overflow_add-end c).In_ok-field)) }

pub slice_bounds-fit-end : goal.slice_bounds-fit-end
slice_bounds-fit-end c = let a = c.args in omega (arith, value_room a.at a.fields.now _ _ _ _ (facts (goal.at.slice_bounds-fit-end c).In_ok-field))

pub returns-in_err-field : goal.returns-in_err-field
returns-in_err-field c = rw c.from_residual.ensures (inl (field_not _ _ c.in_err-field.ensures))

pub returns-in_err-row : goal.returns-in_err-row
returns-in_err-row c =
    let a = c.args in
    let g = c.in_ok-field.field in
    let f = facts (goal.at.returns-in_err-row c).In_ok-field in
    let e : g.value + g.len - g.value ≡ g.len = omega arith in
    rw c.from_residual-in_err-row.ensures (inr (f.found, f.is, fit_lacks _ _ (rw (e, f.tags, value_is a.at a.fields.now _ _ _ _ f) at c.in_err-row.ensures)))

pub returns : goal.returns
returns c =
    let a = c.args in
    let g = c.in_ok-field.field in
    let f = facts (goal.at.returns c).In_ok-field in
    let e : g.value + g.len - g.value ≡ g.len = omega arith in
    let r = fit_some _ _ _ (rw (e, f.tags, value_is a.at a.fields.now _ _ _ _ f) at c.in_ok-row.ensures) in
    record { found = f.found; is = f.is; rows = r.0; ends = f.ends; small = r.1 }
