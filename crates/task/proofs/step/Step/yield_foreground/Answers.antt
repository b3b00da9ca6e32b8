use Rattle.host.specs.Interaction.{call}
use Rattle.task.proofs.Performing.{still_at, from_change, and_then, one_call}
use Rattle.task.proofs.step.Step.yield_foreground.Goals as goal

pub returns-then-self : goal.returns-then-self
returns-then-self g c = simp c.if-self.true (from_change (and_then (call _) _ (one_call c.release.ensures) (still_at (rw c.release.ensures.task))))
