use Rattle.task.specs.Performs.{task_of}
use Rattle.task.specs.Task as Tree
use Rattle.task.proofs.Performing.{and_then}
use Rattle.task.proofs.step.Step.make_way.Goals as goal

pub returns : goal.returns
returns g c = and_then (Tree.resume (task_of c.args.self.now)) Tree.yield c.resume.ensures c.yield_foreground.ensures
