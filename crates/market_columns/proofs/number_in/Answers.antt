-- `number_in`: spaces, sign, whole part, decimals, one step after the other. Assumes nothing.
use Prim.Native.Nat.{◌+◌, ◌*◌, ◌<◌, ◌≤◌, ◌^◌}
use native.Mathlib.Omega.{arith}
use mathlib.Core.Path.{sym, ap, ◌∙◌}
use Rattle.market_columns.specs.Numbers.{amount_paper, sign}
use Rattle.market_columns.specs.NumberLaws.{ten_most}
use Rattle.market_columns.specs.NumberSteps.{Steps, in_wide}
use Rattle.market_columns.proofs.NumberSteps.{whole_lacks, parts_fit, d_room, parts_lack, parts_there, small}
use Rattle.market_columns.proofs.number_in.Goals as goal
use Rattle.market_columns.proofs.number_in.Goals.{After-whole_width-n, In_ok-whole, In_ok-parts, After-pow}

taken : (c : goal.After-whole_width-n) → Steps c.args.d c.args.t.now c.spaces-k.result (sign c.minus_at-minus.result) c.whole_width-n.result
taken c = record { few = c.if-t-gt19.false; spaced = c.spaces-k.ensures.0; sign = c.minus_at-minus.ensures.0; left = c.minus_at-minus.ensures.1; whole = c.whole_width-n.ensures }

pub returns-then-t-gt19 : goal.returns-then-t-gt19
returns-then-t-gt19 c = sym (in_wide _ _ c.if-t-gt19.true)

pub returns-in_err-whole : goal.returns-in_err-whole
returns-in_err-whole c = ap amount_paper c.from_residual.ensures ∙ sym (whole_lacks _ _ _ _ _ (taken (goal.at.returns-in_err-whole c).After-whole_width-n) (sym c.in_err-whole.ensures))

pub decimals_at-requires : goal.decimals_at-requires
decimals_at-requires c = parts_fit _ _ _ _ _ (taken (goal.at.decimals_at-requires c).After-whole_width-n) _ (sym c.in_ok-whole.ensures)

pub returns-in_err-parts : goal.returns-in_err-parts
returns-in_err-parts c = ap amount_paper c.from_residual-in_err-parts.ensures ∙ sym (parts_lack _ _ _ _ _ (taken (goal.at.returns-in_err-parts c).After-whole_width-n) _ (sym c.in_ok-whole.ensures) (sym c.in_err-parts.ensures))

few : (c : goal.In_ok-parts) → c.whole_width-n.result + c.args.d ≤ 19
few c = d_room _ _ _ _ _ (taken (goal.at.overflow_cast-d c).After-whole_width-n) _ (sym c.in_ok-whole.ensures)

pub overflow_cast-d : goal.overflow_cast-d
overflow_cast-d c = record { fits = omega (arith, few c) }

pub pow-requires : goal.pow-requires
pow-requires c = ten_most c.args.d (omega (arith, few c))

fits : (c : goal.After-pow) → c.in_ok-whole.whole * c.pow.result + c.in_ok-parts.parts < 10 ^ 19
fits c = rw c.pow.ensures (small _ _ _ _ _ (taken (goal.at.overflow_mul-whole c).After-whole_width-n) _ (sym c.in_ok-whole.ensures) _ (sym c.in_ok-parts.ensures))

pub overflow_mul-whole : goal.overflow_mul-whole
overflow_mul-whole c = record { fits = omega (arith, fits c) }

pub overflow_add-whole : goal.overflow_add-whole
overflow_add-whole c = record { fits = omega (arith, fits c) }

pub returns : goal.returns
returns c = c.signed.ensures ∙ rw c.pow.ensures (sym (parts_there _ _ _ _ _ (taken (goal.at.returns c).After-whole_width-n) _ (sym c.in_ok-whole.ensures) _ (sym c.in_ok-parts.ensures)))
