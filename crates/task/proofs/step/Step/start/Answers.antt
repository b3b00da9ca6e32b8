use Rattle.task.proofs.step.Step.start.Goals as goal

pub returns : goal.returns
returns g c = rw (← c.if-is_running.ensures) c.begin.ensures
