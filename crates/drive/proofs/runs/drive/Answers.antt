-- The run so far goes on with each call, to the run.
use Rattle.std.proofs.Common.{◌+◌, set, arith}
use Rattle.supervisor.specs.declared.sends.Send.TheVariants.{Control}
use Rattle.task.specs.declared.messages.Control.TheVariants.{Start}
use Rattle.supervisor.specs.Steps.{moment}
use Rattle.drive.specs.declared.calls.Call.TheVariants.{Send}
use Rattle.drive.proofs.Histories.{SoFar, at_first, one_more, all_made}
use Rattle.drive.proofs.runs.drive.Given as given
use Rattle.drive.proofs.runs.drive.Goals as goal
use Rattle.drive.proofs.runs.drive.Goals.{After-make-done}

-- the run so far, with the turn's call
next : (g : given.Over) (c : After-make-done g) → SoFar g.H.Host g.T.Terminal c.args.calls.now (c.loop-i.i + 1)
    (moment c.args.job.now c.args.host.now c.args.terminal.now c.args.sheet.now) c.args.answers.now (c.loop-i.tally.tried + c.make-done.result.tally.tried)
    (c.loop-i.tally.ordered + c.make-done.result.tally.ordered) (moment c.make-done.new.job c.make-done.new.host c.make-done.new.terminal c.make-done.new.sheet)
    (set c.loop-i.answers c.loop-i.i c.make-done.result.answer)
next g c =
    let after = c.make-done.new in
    one_more g.H.Host g.T.Terminal (Send (Control Start)) (record { did = c.make-done.result; at = moment after.job after.host after.terminal after.sheet })
    (omega arith) (omega arith) c.loop-i.invariant c.make-done.ensures

pub overflow_add-tally : goal.overflow_add-tally
overflow_add-tally g c = omega (arith, (next g (goal.at.overflow_add-tally g c).After-make-done).tried_few)

pub overflow_add-tally-in-loop-i : goal.overflow_add-tally-in-loop-i
overflow_add-tally-in-loop-i g c = omega (arith, (next g (goal.at.overflow_add-tally-in-loop-i g c).After-make-done).ordered_few)

pub loop-i-init : goal.loop-i-init
loop-i-init g c = rw (c.default-tally.ensures.0, c.default-tally.ensures.1) (at_first g.H.Host g.T.Terminal c.args.calls.now _ c.args.answers.now)

pub loop-i-preserved : goal.loop-i-preserved
loop-i-preserved g c = next g (goal.at.loop-i-preserved g c).After-make-done

pub returns : goal.returns
returns g c = (c.if-answers-calls.false, all_made g.H.Host g.T.Terminal (omega arith) c.loop-i.invariant)
