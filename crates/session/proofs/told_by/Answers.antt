-- What reading finds tells the event and the length. Assumes nothing.
use mathlib.Core.Path.{◌∙◌}
use Prim.Native.Nat.{◌≤◌}
use native.Mathlib.Omega.{arith}
use Rattle.rules.specs.Table.{kind_is}
use Rattle.frame_spec.specs.Outcomes.{good, read_done, read_length}
use Rattle.frame_spec.specs.Measures.{fits}
use Rattle.session.proofs.Arrived.{refused_told, read_told_lem}
use Rattle.session.proofs.told_by.Goals as goal
use Rattle.session.proofs.told_by.Goals.{In-Ok}

-- a frame that was read is short
small : (c : goal.In-Ok) → c.in-Ok.header.body_len ≤ 8164
small c = rw (read_length c.args.bytes.now _ _ _ _ c.in-Ok.ensures) (fits _ _ (good c.args.bytes.now (read_done c.args.bytes.now _ _ _ _ c.in-Ok.ensures)).whole.measured).small

pub overflow_add-result : goal.overflow_add-result
overflow_add-result c = record { fits = omega (arith, small (goal.at.overflow_add-result c).In-Ok) }

pub returns-in-Ok : goal.returns-in-Ok
returns-in-Ok c =
    let q = read_told_lem c.args.bytes.now _ _ _ _ c.from.result c.in-Ok.ensures (kind_is _ _ c.from.ensures) in
    (c.by_kind.ensures ∙ q.0, q.1)

pub returns-in-Err : goal.returns-in-Err
returns-in-Err c = refused_told _ c.in-Err.why _ c.in-Err.ensures c.fault_of.ensures
