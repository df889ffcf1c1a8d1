-- `next`: a step's answer, without the reason. Assumes nothing.
use Rattle.entries.proofs.Turns.{gives, goes}
use Rattle.entries.proofs.EntriesIterator.next.Goals as goal

pub returns-clause-steps : goal.returns-clause-steps
returns-clause-steps c = rw c.ok.ensures.value (gives _ _ _ c.step.ensures)

pub returns-clause-goes : goal.returns-clause-goes
returns-clause-goes c = rw c.ok.ensures.value (goes _ _ _ c.step.ensures)
