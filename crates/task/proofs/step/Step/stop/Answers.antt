use Rattle.std.proofs.Common.{ℕ}
use Rattle.task.specs.Performs.{task_of}
use Rattle.task.specs.Task as Tree
use Rattle.task.proofs.Performing.{at_value, and_then}
use Rattle.task.proofs.step.Step.stop.Goals as goal

pub returns : goal.returns
returns g c =
    let t = task_of c.make_way.new.self in
    and_then (Tree.make_way (task_of c.args.self.now)) _ c.make_way.ensures (at_value (λ (time : ℕ). Tree.stop_in t.state time t) c.make_way.ensures.same.time
    c.stop_child.ensures)
