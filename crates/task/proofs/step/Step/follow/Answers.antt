use Rattle.task.specs.Performs.{task_of}
use Rattle.task.specs.Task as Tree
use Rattle.task.proofs.Performing.{still_at, and_then}
use Rattle.task.proofs.Reporting.{telling}
use Rattle.task.proofs.step.Step.follow.Goals as goal

pub returns-then-is_ok : goal.returns-then-is_ok
returns-then-is_ok g c =
    let s = c.args.self.now in
    let part = Tree.launch s.time (task_of s) in
    rw c.if-not-restart.false (and_then (Tree.report part) _ (telling part c.launch-launched.ensures c.report.ensures.told)
    (still_at (rw (c.report.ensures.task, ← c.is_ok.ensures.value, c.if-is_ok.true))))

pub returns-else-is_ok : goal.returns-else-is_ok
returns-else-is_ok g c =
    let s = c.args.self.now in
    let part = Tree.launch s.time (task_of s) in
    rw c.if-not-restart.false (and_then (Tree.report part) _ (telling part c.launch-launched.ensures c.report.ensures.told)
    (still_at (rw (c.report.ensures.task, ← c.is_ok.ensures.value, c.if-is_ok.false))))
