use Rattle.std.proofs.Common.{refl}
use Rattle.host.specs.Interaction.{call}
use Rattle.task.proofs.Performing.{still_at, and_then, one_call}
use Rattle.task.proofs.step.Step.report.Goals as goal

pub returns-in-Some-Err-clause-told : goal.returns-in-Some-Err-clause-told
returns-in-Some-Err-clause-told g c = simp (c.in-Some-Err.is-0, c.in-Some-Err.is-1) (and_then (call _) _ (one_call c.tell.ensures) (still_at refl))
