-- A control step keeps what holds of every job, and is accepted.
use Rattle.std.proofs.Common.{◌≡◌, length, Ok, [], refl, sym, ◌∙◌, arith}
use Rattle.std.proofs.lemmas.Bool.Decides.{nat_tests}
use Rattle.std.proofs.lemmas.Grind.{common_steps}
use Rattle.host.specs.Interaction.{IsAnswered}
use Rattle.host.specs.State.{is_running}
use Rattle.task.specs.Task.{control}
use Rattle.task.specs.View.{task_view}
use Rattle.task.proofs.Courses.{Carried, control_fits}
use Rattle.task.proofs.Traced.{traced, after, fitting, fitting_host, fitting_terminal}
use Rattle.task.proofs.Sheets.{then_done, silent, on_front}
use Rattle.supervisor.specs.declared.answers.StepKind.TheVariants.{Control}
use Rattle.supervisor.specs.Job.{control_end, may_step}
use Rattle.supervisor.specs.Steps.{job_view}
use Rattle.supervisor.specs.Sound.{IsInOrder}
use Rattle.supervisor.specs.View.{mailbox_view}
use Rattle.supervisor.proofs.job.Job.control_step.Given.{Over}
use Rattle.supervisor.proofs.Mailboxes.{take_in, ending_room, settle_in}
use Rattle.supervisor.proofs.Graces.{control_accepted}
use Rattle.supervisor.proofs.Steps.{accepted}
use Rattle.supervisor.proofs.job.Job.control_step.Goals as goal

pub settle-requires-clause-room : goal.settle-requires-clause-room
settle-requires-clause-room g c =
    ending_room _ _ (take_in c.args.time _ c.in-Some-receive.received _ (c.args.self.now.in_order (grind (arith, nat_tests)))
    c.in-Some-receive.ensures.taken).order

-- what holds at the end of the control that was taken
ends : (g : Over) (c : goal.After-closes-self g) → let t = task_view c.args.self.now.task in
    Carried c.in-Some-receive.received.message.control (is_running t.state) (after (fitting_host t) (fitting_terminal t) c.control-outcome.ensures.trace)
    (task_view c.control-outcome.new.task, c.control-outcome.result.0)
ends g c =
    let t = task_view c.args.self.now.task in
    let made = c.in-Some-receive.received.message.control in
    let run = c.control-outcome.ensures in
    traced (IsAnswered g.H.Host g.T.Terminal) t c.args.self.now.granted (Carried made (is_running t.state)) (control made c.args.time t) _ _ run.trace _
    (control_fits made c.args.time t) run.traces _ _ (fitting t)

in_order : (g : Over) (c : goal.After-closes-self g) → IsInOrder [] (mailbox_view c.settle.new.self)
in_order g c =
    let hand = take_in c.args.time _ c.in-Some-receive.received _ (c.args.self.now.in_order (grind (arith, nat_tests))) c.in-Some-receive.ensures.taken in
    rw c.settle.ensures (settle_in c.args.time c.control-outcome.result.0 _ _ hand.order (λ f. hand.free ((ends g c).timed f)))

pub invariant_of-self-2-clause-in_order : goal.invariant_of-self-2-clause-in_order
invariant_of-self-2-clause-in_order g c e = in_order g c

pub invariant_of-self-2-clause-full : goal.invariant_of-self-2-clause-full
invariant_of-self-2-clause-full g c = (in_order g c).full

pub invariant_of-self-2-clause-granted : goal.invariant_of-self-2-clause-granted
invariant_of-self-2-clause-granted g c = (ends g c).holder

pub invariant_of-self-2-clause-yielded : goal.invariant_of-self-2-clause-yielded
invariant_of-self-2-clause-yielded g c e = (ends g c).closed (sym c.closes-self.ensures ∙ e)

pub returns-in_default-receive-clause-stepped : goal.returns-in_default-receive-clause-stepped
returns-in_default-receive-clause-stepped g c =
    let may : may_step c.args.time (length c.args.sheet.now) (job_view c.args.self.now) ≡ Ok tt = grind (arith, common_steps, nat_tests) in
    accepted g.met.H.Host.keeps g.met.T.Terminal.keeps Control 0 c.args.time may
    (on_front c.in-Some.ensures.cases.enough
    (rw c.in_default-receive.ensures.taken (rw c.in-Some.ensures.cases.same (silent (cc (c.in_default-receive.ensures.idle refl))))))

pub returns-clause-stepped : goal.returns-clause-stepped
returns-clause-stepped g c =
    let v = job_view c.args.self.now in
    let r = c.in-Some-receive.received in
    let may : may_step c.args.time (length c.args.sheet.now) v ≡ Ok tt = grind (arith, common_steps, nat_tests) in
    accepted g.met.H.Host.keeps g.met.T.Terminal.keeps Control 0 c.args.time may
    (rw c.in-Some-receive.ensures.taken (then_done (control r.message.control c.args.time v.task) (control_end c.args.time r (mailbox_view c.receive.new.self))
    (cc) (on_front c.in-Some.ensures.cases.enough (rw (c.in-Some.ensures.cases.same) at c.control-outcome.ensures))))

pub returns-clause-deadline : goal.returns-clause-deadline
returns-clause-deadline g c = (control_accepted c.args.time _ _ _ (c.args.self.now.in_order (grind (arith, nat_tests))) (returns-clause-stepped g c).1).0

pub returns-clause-normal : goal.returns-clause-normal
returns-clause-normal g c = (control_accepted c.args.time _ _ _ (c.args.self.now.in_order (grind (arith, nat_tests))) (returns-clause-stepped g c).1).1

pub returns-clause-continues : goal.returns-clause-continues
returns-clause-continues g c = (control_accepted c.args.time _ _ _ (c.args.self.now.in_order (grind (arith, nat_tests))) (returns-clause-stepped g c).1).2
