use Rattle.std.proofs.Common.{sym}
use Rattle.host.specs.declared.state.CommandState.{CommandState}
use Rattle.task.specs.Performs.{task_of}
use Rattle.task.specs.Task as Tree
use Rattle.task.proofs.Performing.{still_at, at_value, and_then}
use Rattle.task.proofs.Reporting.{telling}
use Rattle.task.proofs.step.Step.stop_child.Goals as goal

pub returns : goal.returns
returns g c =
    let s = c.args.self.now in
    let part = Tree.end_by_force c.in-Running.child c.in-Running.started s.time (task_of s) in
    at_value (λ (state : CommandState). Tree.stop_in state s.time (task_of s)) (sym c.in-Running.is)
    (and_then (Tree.report part) _ (telling part c.end_by_force-forced.ensures c.report.ensures.told)
    (still_at (rw (c.report.ensures.task, c.unless_faulted.ensures))))
