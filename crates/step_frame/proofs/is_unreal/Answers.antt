-- `is_unreal`: the first piece that begins `52=` decides. Assumes nothing.
use Rattle.std.proofs.Common.{rules, tests}
use Rattle.std.specs.Option.{option_map}
use Rattle.std.specs.List.{find}
use Rattle.std.proofs.lemmas.Iterator.Search.{find_from_yields_List}
use Rattle.std.proofs.lemmas.Iterator.Splits.{YieldsList-from_slice_split}
use Rattle.step_frame.proofs.Times.{test, cut, unreal_some, unreal_none}
use lib.ListN.{length, drop, length-drop}
use lib.Seq.{take_all}
use mathlib.Core.Path.{◌≡◌, ap, ◌∙◌}
use native.Mathlib.Omega.{arith}
use Prim.Native.Nat.{◌-◌}
use Rattle.step_frame.proofs.is_unreal.Goals as goal
use Rattle.step_frame.proofs.is_unreal.Goals.{After-find-field}

found : (c : goal.After-find-field) → option_map (λ x. x.now) c.find-field.result ≡ find test (cut c.args.fields.now)
found c = find_from_yields_List test _ _ _ c.find-field.ensures.ran (YieldsList-from_slice_split _ _ c.args.fields.now c.split.ensures.rest c.split.ensures.done c.split.ensures.closure (λ x r q k. search (rules, tests))) (λ x b q k. search (rules, tests))

pub returns-in-Some : goal.returns-in-Some
returns-in-Some c =
    let p = goal.at.returns-in-Some c in
    let u = unreal_some c.in-Some.field.now c.args.fields.now (ap (option_map (λ x. x.now)) c.in-Some.is) (found p.After-find-field) in
    c.unreal.ensures ∙ rw (take_all (length c.in-Some.field.now - 3) (drop 3 c.in-Some.field.now) (simp length-drop (omega arith))) u.1

pub returns-in-None : goal.returns-in-None
returns-in-None c = unreal_none c.args.fields.now (ap (option_map (λ x. x.now)) c.in-None.is) (found (goal.at.returns-in-None c).After-find-field)
