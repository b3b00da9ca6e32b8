use Rattle.std.proofs.Common.{ℕ, Ok, Err, arith, sym}
use Rattle.host.specs.declared.state.CommandState.{CommandState}
use Rattle.host.specs.Interaction.{call}
use Rattle.task.specs.declared.task.Task.{Task}
use Rattle.task.specs.Performs.{task_of}
use Rattle.task.specs.Task as Tree
use Rattle.task.specs.View.{task_view}
use Rattle.task.proofs.Performing.{still_at, at_value, at_most, and_then, one_call}
use Rattle.task.proofs.step.Step.poll_child.Goals as goal

pub returns-in-Ok : goal.returns-in-Ok
returns-in-Ok g c =
    let s = c.args.self.now in
    let m = c.poll.new.self in
    let polled = Tree.after_poll c.args.restart c.in-Running.started in
    at_value (λ (state : CommandState). Tree.poll_in state c.args.restart s.time (task_of s)) (sym c.in-Running.is)
    (and_then (call _) _ (one_call c.in-Ok.ensures)
    (at_value (λ (k : Task). polled s.time (task_view k) (Ok c.in-Ok.end)) c.poll.ensures.task
    (at_value (λ (time : ℕ). polled time (task_of m) (Ok c.in-Ok.end)) c.poll.ensures.same.time c.after_poll.ensures)))

pub returns-in-Err : goal.returns-in-Err
returns-in-Err g c =
    let s = c.args.self.now in
    let tells = λ (k : Task). Tree.tell_fault (task_view k).settings.handler (Err c.in-Err.fault) in
    at_most 5 (omega arith)
    (at_value (λ (state : CommandState). Tree.poll_in state c.args.restart s.time (task_of s)) (sym c.in-Running.is)
    (and_then (call _) _ (one_call c.in-Err.ensures)
    (and_then (tells s.task.now) _ (at_value tells c.poll.ensures.task c.report.ensures.told) (still_at (rw (c.report.ensures.task, c.poll.ensures.task))))))
