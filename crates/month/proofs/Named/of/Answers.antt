use Rattle.std.proofs.Common.{sym, arith, refl, get_or, ℕ, ◌≡◌, ap}
use Rattle.std.proofs.lemmas.Result.{err_from_is_err_and}
use Rattle.terms.specs.Refusals.{refusal_pos}
use Rattle.month.proofs.StartLaws.{begun, stops_here, goes_on, done_0, names_are}
use Rattle.month.proofs.Named.of.Goals as goal

pub loop-channel-init : goal.loop-channel-init
loop-channel-init c = (begun _ _ _ c.none-names.ensures.0 c.none-names.ensures.1, c.none-names.ensures.1)

pub returns-in_err-names-clause-number : goal.returns-in_err-names-clause-number
returns-in_err-names-clause-number c =
    let is : get_or c.args.channels.now c.loop-channel.channel-index 0 ≡ get_or c.args.channels.now c.loop-channel.names.count 0 = ap (λ (k : ℕ). get_or c.args.channels.now k 0) (sym c.loop-channel.invariant.1) in
    let p = err_from_is_err_and c.from_residual.result c.from_residual.ensures.1 in
    rw (p.1, p.2) (stops_here _ _ _ c.loop-channel.invariant.0 (omega arith) _ _ c.in_err-names.ensures.number is (refusal_pos c.in_err-names.field-0.0))

pub loop-channel-preserved : goal.loop-channel-preserved
loop-channel-preserved c =
    let e = c.in_ok-names.ensures in
    let f = c.in_ok-names.names.naming.few in
    let is : get_or c.args.channels.now c.loop-channel.channel-index 0 ≡ get_or c.args.channels.now c.loop-channel.names.count 0 = ap (λ (k : ℕ). get_or c.args.channels.now k 0) (sym c.loop-channel.invariant.1) in
    (rw e.names.1 (goes_on _ _ _ c.loop-channel.invariant.0 (omega arith) 0 _ e.number is refl _ e.names.0 (omega (arith, f, e.names.1))), omega (arith, e.names.1))

pub returns-clause-number : goal.returns-clause-number
returns-clause-number c = done_0 _ _ _ c.loop-channel.invariant.0 (omega arith)

pub returns-clause-names : goal.returns-clause-names
returns-clause-names c = (names_are _ _ _ c.loop-channel.invariant.0 (omega arith), omega arith)
