use Rattle.std.proofs.Common.{◌≡◌, true, arith}
use Rattle.host.specs.Interaction.{bind, call}
use Rattle.task.specs.Performs.{task_of}
use Rattle.task.specs.Task as Tree
use Rattle.task.proofs.Performing.{still_at, and_then, at_most, one_call}
use Rattle.task.proofs.step.Step.take_pause.Goals as goal

pub returns-in-21 : goal.returns-in-21
returns-in-21 g c =
    let t = task_of c.args.self.now in
    let tree : Tree.take_pause c.args.own c.args.child c.args.signal t ≡ bind (Tree.try_grant c.args.own c.args.child t)
    (Tree.continue_child c.args.child c.args.signal) = grind arith in
    rw tree (and_then (Tree.try_grant c.args.own c.args.child t) (Tree.continue_child c.args.child c.args.signal) c.try_grant-in-21.ensures
    c.continue_child.ensures)

pub returns-in_default : goal.returns-in_default
returns-in_default g c =
    let t = task_of c.args.self.now in
    let tree : Tree.take_pause c.args.own c.args.child c.args.signal t ≡ Tree.on_stop true c.args.signal t = grind arith in
    rw tree (at_most 3 (omega arith) (and_then (call _) _ (one_call c.release.ensures) (still_at (rw c.release.ensures.task))))
