-- A send leaves the mailbox in order, and a refused one the job as it was.
use Rattle.std.proofs.Common.{◌≡◌, ℕ, ◌≤◌, ◌^◌, true, false, [], Ok, Err, Result, ap, arith}
use Rattle.std.specs.Result.{OnErr}
use Rattle.std.proofs.Props.{props}
use Rattle.task.specs.Task.{GrantMeansRunning}
use Rattle.task.specs.View.{task_view}
use Rattle.supervisor.specs.declared.errors.Refusal.{Refusal}
use Rattle.supervisor.specs.declared.job.Job.{Job}
use Rattle.supervisor.specs.declared.mailbox.Mailbox.{Mailbox}
use Rattle.supervisor.specs.Sound.{IsInOrder, HasAllPlaces}
use Rattle.supervisor.specs.View.{mailbox_view}
use Rattle.supervisor.proofs.Mailboxes.{send_in}
use Rattle.supervisor.proofs.job.Job.send.Goals as goal

-- a job whose mailbox is the same is the same
kept : (j : Job) (m : Mailbox) → m ≡ j.mailbox → (o : j.closed ≡ false → IsInOrder [] (mailbox_view m))
    (f : HasAllPlaces (mailbox_view m)) (g : GrantMeansRunning (task_view j.task)) (y : j.closed ≡ true → (task_view j.task).foreground.grant ≡ false)
    (t : j.clock ≤ 2 ^ 62) → record j { mailbox = m; in_order = o; full = f; granted = g; yielded = y; timely = t } ≡ j
kept j m e = rw e (λ o f g y t.
    let p : o ≡ j.in_order = hlevel props in
    let q : f ≡ j.full = hlevel props in
    let r : g ≡ j.granted = hlevel props in
    let s : y ≡ j.yielded = hlevel props in
    let u : t ≡ j.timely = hlevel props in
    rw (p, q, r, s, u))

pub invariant_of-self-clause-in_order : goal.invariant_of-self-clause-in_order
invariant_of-self-clause-in_order c e =
    rw (ap (λ x. x.0) c.send.ensures.answer) (rw (c.priority.ensures, c.into.ensures) (send_in c.args.send _ (c.args.self.now.in_order e)))

pub invariant_of-self-clause-full : goal.invariant_of-self-clause-full
invariant_of-self-clause-full c = (invariant_of-self-clause-in_order c c.if-self.false).full

where_refused : {P : Type 0} (r : Result ℕ Refusal) → P → OnErr r P
where_refused (Ok x) p = tt
where_refused (Err x) p = p

pub returns-in_err-send : goal.returns-in_err-send
returns-in_err-send c =
    record { answer = grind arith; unchanged = where_refused _ (kept _ _ c.in_err-send.ensures.unchanged _ _ _ _ _) }
