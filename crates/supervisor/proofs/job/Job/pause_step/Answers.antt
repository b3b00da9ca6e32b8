-- A pause step keeps what holds of every job, and is accepted.
use Rattle.std.proofs.Common.{◌≡◌, length, Ok, arith}
use Rattle.std.proofs.lemmas.Bool.Decides.{nat_tests}
use Rattle.std.proofs.lemmas.Grind.{common_steps}
use Rattle.host.specs.Interaction.{IsAnswered}
use Rattle.task.specs.Task as Tree
use Rattle.task.specs.View.{task_view}
use Rattle.task.proofs.Books.{no_calls}
use Rattle.task.proofs.Courses.{FitsTask, pause_fits}
use Rattle.task.proofs.Traced.{traced, fitting}
use Rattle.task.proofs.Sheets.{then_done, on_front}
use Rattle.supervisor.specs.declared.answers.StepKind.TheVariants.{Pause}
use Rattle.supervisor.specs.Job.{may_step, pause_end}
use Rattle.supervisor.specs.Steps.{job_view}
use Rattle.supervisor.proofs.Steps.{accepted}
use Rattle.supervisor.proofs.job.Job.pause_step.Goals as goal

pub invariant_of-self-clause-granted : goal.invariant_of-self-clause-granted
invariant_of-self-clause-granted g c =
    let own = (g.T.Terminal.book c.args.terminal.now).own in
    let t = task_view c.args.self.now.task in
    let run = c.pause-taken.ensures in
    (traced (IsAnswered g.H.Host g.T.Terminal) t c.args.self.now.granted (λ b x. FitsTask no_calls x.0 b) (Tree.pause own t) _ _ run.trace _ (pause_fits own t)
    run.traces _ _ (fitting t)).0

pub returns : goal.returns
returns g c =
    let own = (g.T.Terminal.book c.args.terminal.now).own in
    let v = job_view c.args.self.now in
    let may : may_step c.args.time (length c.args.sheet.now) v ≡ Ok tt = grind (arith, common_steps, nat_tests) in
    accepted g.met.H.Host.keeps g.met.T.Terminal.keeps Pause own c.args.time may
    (then_done (Tree.pause own v.task) (pause_end c.args.time v) (cc) (on_front c.in-Some.ensures.cases.enough
    (rw c.in-Some.ensures.cases.same at c.pause-taken.ensures)))
