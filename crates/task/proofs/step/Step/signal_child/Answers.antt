use Rattle.std.proofs.Common.{ℕ, sym}
use Rattle.host.specs.declared.state.CommandState.{CommandState}
use Rattle.host.specs.Interaction.{bind, call, done}
use Rattle.task.specs.Performs.{task_of}
use Rattle.task.specs.Task as Tree
use Rattle.task.proofs.Performing.{still_at, at_value, and_then, one_call}
use Rattle.task.proofs.Reporting.{telling}
use Rattle.task.proofs.step.Step.signal_child.Goals as goal

pub returns : goal.returns
returns g c =
    let t = task_of c.args.self.now in
    let part = λ (n : ℕ). Tree.send_signal c.in-Running.child n t in
    let course = λ (n : ℕ). bind (Tree.report (part n)) (λ x. done (x.0, Tree.unless_faulted c.args.sent x.1)) in
    at_value (λ (state : CommandState). Tree.signal_in state c.args.signal c.args.sent t) (sym c.in-Running.is)
    (at_value course c.sent_as.ensures
    (and_then (Tree.report (part c.sent_as.result)) _
    (telling (part c.sent_as.result) (and_then (call _) _ (one_call c.signal-signalled.ensures)
    (still_at {x = (task_of c.signal-signalled.new.self, c.signal-signalled.result)} (rw c.signal-signalled.ensures.task))) c.report.ensures.told)
    (still_at (rw (c.report.ensures.task, c.unless_faulted.ensures)))))
