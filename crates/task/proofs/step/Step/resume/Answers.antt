use Rattle.host.specs.Interaction.{call}
use Rattle.task.proofs.Performing.{still_at, from_change, and_then, one_call}
use Rattle.task.proofs.step.Step.resume.Goals as goal

pub returns-in-Running : goal.returns-in-Running
returns-in-Running g c =
    simp (c.in-Some.is, c.in-Running.is) (from_change (and_then (call _) _ (one_call c.cont.ensures) (still_at (rw (c.cont.ensures.task, c.in-Running.is)))))
