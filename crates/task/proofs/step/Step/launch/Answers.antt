use Rattle.std.proofs.Common.{ℕ}
use Rattle.std.proofs.lemmas.Result.{err_from_is_err_and}
use Rattle.host.specs.Interaction.{bind, call}
use Rattle.task.specs.Task as Tree
use Rattle.task.specs.View.{task_view}
use Rattle.task.proofs.Performing.{still_at, at_value, from_change, and_then, one_call}
use Rattle.task.proofs.step.Step.launch.Goals as goal

-- what a launch asks once the state is reset
abbrev spawning : ℕ → Tree.TaskView → Tree.Part
spawning time t = bind (Tree.spawn_options t) (Tree.spawn time t)

pub returns : goal.returns
returns g c =
    at_value (spawning c.args.self.now.time) c.reset.ensures
    (from_change
    (and_then (Tree.spawn_options (task_view c.reset.new.self)) _ c.spawn_options-options.ensures.asked
    (and_then (call _) _ (one_call c.in_ok-child.ensures) (still_at (rw (c.run_child.ensures, c.spawn.ensures.task, c.spawn_options-options.ensures.task))))))

pub returns-in_err-child : goal.returns-in_err-child
returns-in_err-child g c =
    let p = err_from_is_err_and c.from_residual.result c.from_residual.ensures.1 in
    rw (p.1, p.2)
    (at_value (spawning c.args.self.now.time) c.reset.ensures
    (from_change
    (and_then (Tree.spawn_options (task_view c.reset.new.self)) _ c.spawn_options-options.ensures.asked
    (and_then (call _) _ (one_call c.in_err-child.ensures) (still_at (rw (c.spawn.ensures.task, c.spawn_options-options.ensures.task)))))))
