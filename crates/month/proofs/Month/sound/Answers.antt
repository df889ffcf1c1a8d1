-- By the tests in their order. Assumes nothing.
use Rattle.std.proofs.Common.{sym, ◌∙◌}
use Rattle.month.specs.State.{page_in}
use Rattle.month.proofs.Loops.{sound_named, sound_taken, sound_channels, sound_sums}
use Rattle.month.proofs.Month.sound.Goals as goal
use Rattle.month.proofs.Month.sound.Goals.{then-self-gt32-via-then-self-gt32, then-self-gt32-via-else-self-gt32+then-self-gt500}

pub returns-then-self-gt32 : goal.returns-then-self-gt32
returns-then-self-gt32 c = elim c.then-self-gt32.branch [
  | then-self-gt32-via-then-self-gt32 w ↦ sound_named (page_in c.args.self) w.if-self-gt32.true
  | then-self-gt32-via-else-self-gt32+then-self-gt500 w ↦ sound_taken (page_in c.args.self) w.if-self-gt500.true
]

pub returns-then-channels_right : goal.returns-then-channels_right
returns-then-channels_right c = sound_sums (page_in c.args.self) c.if-self-gt32.false c.if-self-gt500.false (sym c.channels_right.ensures ∙ c.if-channels_right.true) _ c.sums_right.ensures

pub returns-else-channels_right : goal.returns-else-channels_right
returns-else-channels_right c = c.if-channels_right.false ∙ sound_channels (page_in c.args.self) (sym c.channels_right.ensures ∙ c.if-channels_right.false)
