use Rattle.std.proofs.Common.{ℕ, Result, arith, sym, ◌∙◌}
use Rattle.std.specs.Prelude.{⊤}
use Rattle.host.specs.declared.fault.Fault.{Fault}
use Rattle.task.specs.declared.task.Outcome.TheVariants.{Ended}
use Rattle.task.specs.declared.task.Task.{Task}
use Rattle.task.specs.Performs.{task_of}
use Rattle.task.specs.Task as Tree
use Rattle.task.specs.View.{task_view}
use Rattle.task.proofs.Performing.{still_at, at_value, at_most, none_made, and_then}
use Rattle.task.proofs.Reporting.{telling}
use Rattle.task.proofs.step.Step.replace.Goals as goal

pub returns-in-Ok : goal.returns-in-Ok
returns-in-Ok g c =
    let s = c.args.self.now in
    let t = task_of c.end_by_force-forced.new.self in
    let part = Tree.end_by_force c.args.child c.args.started s.time (task_of s) in
    let tell = Tree.tell_fault t.settings.handler in
    and_then (Tree.report part) (Tree.replace_after s.time)
    (telling part c.end_by_force-forced.ensures (at_value tell (sym c.in-Ok.is) (none_made (at_value tell c.in-Ok.is c.report.ensures.told))))
    (at_value (λ (r : Result ⊤ Fault). Tree.replace_after s.time (t, r)) (sym c.in-Ok.is)
    (at_value (λ (k : Task). Tree.begin s.time Ended (task_view k)) c.report.ensures.task
    (at_value (λ (time : ℕ). Tree.begin time Ended (task_of c.report.new.self)) (c.report.ensures.told.same.time ∙ c.end_by_force-forced.ensures.same.time)
    c.begin.ensures)))

pub returns-in-Err : goal.returns-in-Err
returns-in-Err g c =
    let s = c.args.self.now in
    let t = task_of c.end_by_force-forced.new.self in
    let part = Tree.end_by_force c.args.child c.args.started s.time (task_of s) in
    at_most 5 (omega arith)
    (and_then (Tree.report part) (Tree.replace_after s.time) (telling part c.end_by_force-forced.ensures c.report.ensures.told)
    (at_value (λ (r : Result ⊤ Fault). Tree.replace_after s.time (t, r)) (sym c.in-Err.is) (still_at (rw c.report.ensures.task))))
