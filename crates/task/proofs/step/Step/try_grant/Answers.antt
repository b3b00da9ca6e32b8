use Rattle.std.proofs.Common.{Bool, arith, sym, ◌∙◌}
use Rattle.host.specs.Interaction.{call}
use Rattle.task.specs.Performs.{task_of}
use Rattle.task.specs.Task as Tree
use Rattle.task.proofs.Performing.{still_at, at_value, at_most, and_then, one_call}
use Rattle.task.proofs.step.Step.try_grant.Goals as goal

pub returns-then-not-is_ours : goal.returns-then-not-is_ours
returns-then-not-is_ours g c =
    at_most 2 (omega arith)
    (and_then (call _) _ (one_call c.owner-group.ensures)
    (at_value (λ (ours : Bool). Tree.acquire_if ours c.args.child (task_of c.args.self.now)) (sym c.if-not-is_ours.true ∙ c.is_ours.ensures)
    (still_at (rw c.owner-group.ensures.task))))

pub returns-then-is_ok : goal.returns-then-is_ok
returns-then-is_ok g c =
    and_then (call _) _ (one_call c.owner-group.ensures)
    (at_value (λ (ours : Bool). Tree.acquire_if ours c.args.child (task_of c.args.self.now)) (sym c.if-not-is_ours.false ∙ c.is_ours.ensures)
    (and_then (call _) _ (one_call c.acquire.ensures)
    (still_at (rw (c.acquire.ensures.task, c.owner-group.ensures.task, ← c.is_ok.ensures.value, c.if-is_ok.true)))))

pub returns-else-is_ok : goal.returns-else-is_ok
returns-else-is_ok g c =
    and_then (call _) _ (one_call c.owner-group.ensures)
    (at_value (λ (ours : Bool). Tree.acquire_if ours c.args.child (task_of c.args.self.now)) (sym c.if-not-is_ours.false ∙ c.is_ours.ensures)
    (and_then (call _) _ (one_call c.acquire.ensures)
    (still_at (rw (c.acquire.ensures.task, c.owner-group.ensures.task, ← c.is_ok.ensures.value, c.if-is_ok.false)))))
