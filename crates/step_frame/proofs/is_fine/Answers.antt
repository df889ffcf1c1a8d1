use Rattle.step_spec.specs.Pieces.{SOH, until_of}
use Prim.Native.Nat.{ℕ, suc, ◌+◌, ◌<◌, ◌≤◌}
use lib.Seq.{drop-drop}
use lib.Dec.{lit<}
use lib.ListN.{length, drop, length-drop}
use mathlib.Core.Bool.{Bool, false}
use mathlib.Core.List.{List}
use mathlib.Core.Path.{◌≡◌, sym, ap, ◌∙◌}
use native.Mathlib.Omega.{arith}
use borrow.Author.Rules.{rules}
use Rattle.step_frame.specs.Papers.{Fitting}
use Rattle.step_tags.specs.Laws.{rows_has, no_field}
use Rattle.step_tags.specs.Table.{rows_of}
use Rattle.step_tags.specs.Masks.{is_set}
use mathlib.Core.Logic.{⊎_elim}
use Rattle.step_spec.specs.Seen.{seen_none, set_room}
use Rattle.step_spec.specs.Pass.{fine_from}
use Rattle.step_spec.proofs.Pass.{pass_stops, pass_on, pass_no_field, pass_end, stands_row, stands_small, stands_new}
use Rattle.step_frame.proofs.is_fine.Goals as goal

-- what is left behind the field at hand
next : (i : ℕ) (s : List ℕ) (row n : ℕ) → Fitting i (drop i s) row n → (i < n) × (n ≤ length s) × (drop (suc (until_of SOH (drop i s))) (drop i s) ≡ drop n s)
next i s row n f =
    let e : i + suc (until_of SOH (drop i s)) ≡ n = omega (arith, f.ends) in
    (omega (arith, f.ends), omega (arith, f.ends, f.found, length-drop i s), drop-drop (suc (until_of SOH (drop i s))) i s ∙ rw e)

-- no type has the row of none
none_has : (type : ℕ) → is_set (rows_of type) 27 ≡ false
none_has type = rows_has type 27 ∙ no_field type 27 (omega arith)

pub loop-i-init : goal.loop-i-init
loop-i-init c = let a = c.args in (search rules, lit< tt, ap (λ (l : List Bool). fine_from a.kind l a.fields.now) seen_none)

pub returns-in_default : goal.returns-in_default
returns-in_default c =
    let t = drop c.loop-i.i c.args.fields.now in
    ⊎_elim (λ e. sym (pass_no_field _ _ t (simp length-drop (omega (arith, c.loop-i-test.true))) e) ∙ c.loop-i.invariant.2)
    (λ f. sym (pass_stops _ t f.0 f.1 c.loop-i.seen (rw (f.2, none_has c.args.kind))) ∙ c.loop-i.invariant.2)
    c.in_default.ensures

pub may_stand-requires : goal.may_stand-requires
may_stand-requires c = c.in-Some.ensures.small

pub returns-then-not-may_stand : goal.returns-then-not-may_stand
returns-then-not-may_stand c =
    let f = c.in-Some.ensures in
    let h = rw (f.rows, c.rows_of-rows.ensures) at c.may_stand.ensures in
    sym (pass_stops _ (drop c.loop-i.i c.args.fields.now) f.found f.is c.loop-i.seen (sym h ∙ c.if-not-may_stand.true)) ∙ c.loop-i.invariant.2

pub with_row-seen-requires : goal.with_row-seen-requires
with_row-seen-requires c =
    let t = drop c.loop-i.i c.args.fields.now in
    let f = c.in-Some.ensures in
    let h = sym (rw (f.rows, c.rows_of-rows.ensures) at c.may_stand.ensures) ∙ c.if-not-may_stand.false in
    let r = f.rows ∙ stands_row _ t f.found f.is c.loop-i.seen h in
    let l = stands_small _ t f.found f.is c.loop-i.seen h in
    rw r (l, set_room 27 c.loop-i.seen _ l c.loop-i.invariant.1 (stands_new _ t f.found f.is c.loop-i.seen h))

pub loop-i-preserved : goal.loop-i-preserved
loop-i-preserved c =
    let t = drop c.loop-i.i c.args.fields.now in
    let f = c.in-Some.ensures in
    let n = next _ _ _ _ f in
    let h = sym (rw (f.rows, c.rows_of-rows.ensures) at c.may_stand.ensures) ∙ c.if-not-may_stand.false in
    let r = f.rows ∙ stands_row _ t f.found f.is c.loop-i.seen h in
    let l = stands_small _ t f.found f.is c.loop-i.seen h in
    rw (c.with_row-seen.ensures, r) (n.1, set_room 27 c.loop-i.seen _ l c.loop-i.invariant.1 (stands_new _ t f.found f.is c.loop-i.seen h), rw (← n.2) (sym (pass_on _ t f.found f.is c.loop-i.seen h) ∙ c.loop-i.invariant.2))

pub returns : goal.returns
returns c =
    c.is_complete.ensures ∙ pass_end _ _ (drop c.loop-i.i c.args.fields.now) (simp length-drop (omega arith)) ∙ c.loop-i.invariant.2
