use Rattle.std.proofs.Common.{ℕ}
use Rattle.host.specs.declared.state.CommandState.TheVariants.{Finished}
use Rattle.task.specs.Performs.{task_of}
use Rattle.task.specs.Task as Tree
use Rattle.task.proofs.Performing.{from_change, at_value, and_then}
use Rattle.task.proofs.step.Step.after_poll.Goals as goal

pub returns : goal.returns
returns g c =
    let s = c.args.self.now in
    let ended = Tree.in_state (Finished c.in-Some.end c.args.started s.time) (task_of s) in
    simp c.in-Some.is
    (from_change
    (and_then (Tree.yield ended) _ (at_value Tree.yield {w = ended} c.finish.ensures c.yield_foreground.ensures)
    (at_value (λ (time : ℕ). Tree.follow c.args.restart time (task_of c.yield_foreground.new.self)) c.yield_foreground.ensures.same.time c.follow.ensures)))
