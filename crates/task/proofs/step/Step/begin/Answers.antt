use Rattle.task.specs.Performs.{task_of}
use Rattle.task.specs.Task as Tree
use Rattle.task.proofs.Performing.{still_at, and_then}
use Rattle.task.proofs.Reporting.{telling}
use Rattle.task.proofs.step.Step.begin.Goals as goal

pub returns : goal.returns
returns g c =
    let part = Tree.launch c.args.self.now.time (task_of c.args.self.now) in
    and_then (Tree.report part) _ (telling part c.launch-launched.ensures c.report.ensures.told) (still_at (rw c.report.ensures.task))
