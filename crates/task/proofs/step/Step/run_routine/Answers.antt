use Rattle.host.specs.Interaction.{call}
use Rattle.task.proofs.Performing.{still_at, and_then, one_call}
use Rattle.task.proofs.step.Step.run_routine.Goals as goal

pub returns : goal.returns
returns g c = and_then (call _) _ (one_call c.routine.ensures) (still_at (rw c.routine.ensures.task))
