use Rattle.std.proofs.Common.{refl, rules, sym, ◌∙◌}
use Rattle.month.proofs.Loops.{passed_one, right_new, right_free, wrong_free, wrong_long, wrong_there, channels_broken, channels_fine}
use Rattle.month.proofs.channels_right.Goals as goal
use Rattle.month.proofs.channels_right.Goals.{then-channel-gt9999-via-then-channel-gt9999, then-channel-gt9999-via-else-channel-gt9999+then-contains, then-named-i+else-channel-ne0, else-named-i+else-channel-gt9999+else-contains}

pub returns-then-channel-ne0 : goal.returns-then-channel-ne0
returns-then-channel-ne0 c = channels_broken _ _ (search rules) _ (search rules) (wrong_free c.args.channels c.args.named c.loop-i.i c.if-named-i.true c.if-channel-ne0.true)

pub returns-then-channel-gt9999 : goal.returns-then-channel-gt9999
returns-then-channel-gt9999 c = channels_broken c.args.channels c.args.named (search rules) c.loop-i.i (search rules)
    (elim c.then-channel-gt9999.branch [
      | then-channel-gt9999-via-then-channel-gt9999 w ↦ wrong_long _ _ c.loop-i.i _ c.if-named-i.false refl w.if-channel-gt9999.true
      | then-channel-gt9999-via-else-channel-gt9999+then-contains w ↦ wrong_there _ _ c.loop-i.i c.if-named-i.false (search rules) (sym w.contains.ensures.value ∙ w.if-contains.true)
    ])

pub loop-i-preserved : goal.loop-i-preserved
loop-i-preserved c =
    passed_one c.loop-i.invariant (search rules)
    (elim c.if-named-i.branch [
      | then-named-i+else-channel-ne0 w ↦ right_free _ _ c.loop-i.i w.if-named-i.true w.if-channel-ne0.false
      | else-named-i+else-channel-gt9999+else-contains w ↦ right_new _ _ c.loop-i.i w.if-named-i.false (search rules) w.if-channel-gt9999.false (sym w.contains.ensures.value ∙ w.if-contains.false)
    ])

pub returns : goal.returns
returns c = channels_fine _ _ (search rules) _ c.loop-i.invariant c.loop-i-test.false
