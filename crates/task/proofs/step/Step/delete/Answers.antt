use Rattle.std.proofs.Common.{arith, refl, sym}
use Rattle.host.specs.declared.state.CommandState.{CommandState}
use Rattle.host.specs.Interaction.{call}
use Rattle.task.specs.Performs.{task_of}
use Rattle.task.specs.Task as Tree
use Rattle.task.proofs.Performing.{still_at, at_value, where_idle, at_most, and_then, one_call}
use Rattle.task.proofs.step.Step.delete.Goals as goal

pub returns-in-Running : goal.returns-in-Running
returns-in-Running g c =
    let t = task_of c.yield_foreground.new.self in
    and_then (Tree.yield (task_of c.args.self.now)) _ c.yield_foreground.ensures
    (at_value (λ (state : CommandState). Tree.delete_in state t) (sym c.in-Running.is) (and_then (call _) _ (one_call c.let_go.ensures)
    (still_at (rw c.let_go.ensures.task))))

pub returns-in_default : goal.returns-in_default
returns-in_default g c =
    let t = task_of c.yield_foreground.new.self in
    at_most 2 (omega arith)
    (and_then (Tree.yield (task_of c.args.self.now)) _ c.yield_foreground.ensures
    (where_idle (λ (state : CommandState). Tree.delete_in state t) t.state c.in_default.not-Running (λ _ _ _. refl) (still_at refl)))
