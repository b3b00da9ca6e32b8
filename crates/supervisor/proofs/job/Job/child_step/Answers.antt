-- A child step keeps what holds of every job, and is accepted.
use Rattle.std.proofs.Common.{◌≡◌, length, Ok, Bool, is_some, ap, ◌∙◌, arith}
use Rattle.std.proofs.lemmas.Bool.Decides.{nat_tests}
use Rattle.std.proofs.lemmas.Grind.{common_steps}
use Rattle.host.specs.Interaction.{IsAnswered}
use Rattle.task.specs.Task.{poll_child}
use Rattle.task.specs.View.{task_view}
use Rattle.task.proofs.Courses.{Polled, poll_fits}
use Rattle.task.proofs.Traced.{traced, fitting}
use Rattle.task.proofs.Sheets.{at_value, then_done, on_front}
use Rattle.supervisor.specs.declared.answers.StepKind.TheVariants.{Child}
use Rattle.supervisor.specs.Job.{may_step, poll_end}
use Rattle.supervisor.specs.Steps.{job_view}
use Rattle.supervisor.specs.Timers.{memory}
use Rattle.supervisor.proofs.Mailboxes.{settle_poll_in}
use Rattle.supervisor.proofs.Graces.{child_accepted}
use Rattle.supervisor.proofs.Steps.{accepted}
use Rattle.supervisor.proofs.job.Job.child_step.Goals as goal

pub invariant_of-self-clause-in_order : goal.invariant_of-self-clause-in_order
invariant_of-self-clause-in_order g c e = rw c.settle_poll.ensures (settle_poll_in c.poll-outcome.result.0 _ (c.args.self.now.in_order e))

pub invariant_of-self-clause-full : goal.invariant_of-self-clause-full
invariant_of-self-clause-full g c = (invariant_of-self-clause-in_order g c (grind (arith, nat_tests))).full

pub invariant_of-self-clause-granted : goal.invariant_of-self-clause-granted
invariant_of-self-clause-granted g c =
    let t = task_view c.args.self.now.task in
    let restart = c.is_some-restart.result in
    let run = c.poll-outcome.ensures in
    (traced (IsAnswered g.H.Host g.T.Terminal) t c.args.self.now.granted (Polled restart) (poll_child restart c.args.time t) _ _ run.trace _
    (poll_fits restart c.args.time t) run.traces _ _ (fitting t)).fits.0

pub returns-clause-stepped : goal.returns-clause-stepped
returns-clause-stepped g c =
    let v = job_view c.args.self.now in
    let restart = is_some (memory v.mailbox.timer) in
    let may : may_step c.args.time (length c.args.sheet.now) v ≡ Ok tt = grind (arith, common_steps, nat_tests) in
    accepted g.met.H.Host.keeps g.met.T.Terminal.keeps Child 0 c.args.time may
    (then_done (poll_child restart c.args.time v.task) (poll_end c.args.time v) (cc) (at_value (λ (b : Bool). poll_child b c.args.time v.task)
    (c.is_some-restart.ensures ∙ ap is_some c.memory.ensures)
    (on_front c.in-Some.ensures.cases.enough (rw c.in-Some.ensures.cases.same at c.poll-outcome.ensures))))

pub returns-clause-ended : goal.returns-clause-ended
returns-clause-ended g c = child_accepted c.args.time _ _ _ (returns-clause-stepped g c).1
