use Rattle.std.proofs.Common.{arith}
use Rattle.std.proofs.lemmas.Result.{err_from_is_err_and}
use Rattle.host.specs.Interaction.{call}
use Rattle.task.proofs.Performing.{still_at, and_then, at_most, one_call}
use Rattle.task.proofs.step.Step.end_by_force.Goals as goal

pub returns-in_err-kill : goal.returns-in_err-kill
returns-in_err-kill g c =
    let p = err_from_is_err_and c.from_residual.result c.from_residual.ensures.1 in
    rw (p.1, p.2) (at_most 2 (omega arith) (and_then (call _) _ (one_call c.in_err-kill.ensures) (still_at (rw c.kill.ensures.task))))

pub returns-in_err-end : goal.returns-in_err-end
returns-in_err-end g c =
    let p = err_from_is_err_and c.from_residual-in_err-end.result c.from_residual-in_err-end.ensures.1 in
    rw (p.1, p.2) (and_then (call _) _ (one_call c.in_ok-kill.ensures) (and_then (call _) _ (one_call c.in_err-end.ensures)
    (still_at (rw (c.wait.ensures.task, c.kill.ensures.task)))))

pub returns : goal.returns
returns g c = and_then (call _) _ (one_call c.in_ok-kill.ensures) (and_then (call _) _ (one_call c.in_ok-end.ensures)
    (still_at (rw (c.finish.ensures, c.wait.ensures.task, c.kill.ensures.task, c.wait.ensures.same.time, c.kill.ensures.same.time))))
