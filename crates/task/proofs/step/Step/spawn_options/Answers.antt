use Rattle.host.specs.Interaction.{call}
use Rattle.task.proofs.Performing.{still_at, and_then, one_call}
use Rattle.task.proofs.step.Step.spawn_options.Goals as goal

pub returns-in-Some-clause-asked : goal.returns-in-Some-clause-asked
returns-in-Some-clause-asked g c = simp c.in-Some.is (and_then (call _) _ (one_call c.hook.ensures) (still_at c.unwrap_or.ensures))
