use Rattle.host.specs.Interaction.{call}
use Rattle.task.proofs.Performing.{still_at, and_then, one_call}
use Rattle.task.proofs.step.Step.continue_child.Goals as goal

pub returns-in-Ok : goal.returns-in-Ok
returns-in-Ok g c = and_then (call _) _ (one_call c.in-Ok.ensures) (still_at (rw c.cont.ensures.task))

pub returns-in-Err : goal.returns-in-Err
returns-in-Err g c = and_then (call _) _ (one_call c.in-Err.ensures) (still_at (rw c.cont.ensures.task))
