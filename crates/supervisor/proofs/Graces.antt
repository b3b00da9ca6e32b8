-- The laws of graces, whatever host and terminal answer.
use Rattle.std.proofs.Common.{◌≡◌, ℕ, ◌+◌, ◌<◌, ◌≤◌, Bool, true, false, Some, None, Ok, Option, List, [], ◌∷◌, refl, sym, ap, ◌∙◌, subst, arith}
use Rattle.std.specs.Prelude.{take}
use Rattle.std.specs.Int.{from_bool}
use Rattle.std.specs.List.{count_by}
use Rattle.std.proofs.lemmas.Grind.{common_steps}
use Rattle.tickets.specs.declared.flag.Mark.TheVariants.{Held, Raised}
use Rattle.tickets.specs.Tickets.{mark_of}
use Rattle.tickets.proofs.Tables.{raise-held, raise-keeps, raise_each-keeps}
use Rattle.host.specs.declared.journal.Record.{Record}
use Rattle.host.specs.declared.process.Host as Host
use Rattle.host.specs.declared.terminal.Terminal as Terminal
use Rattle.host.specs.Journal.{journal, is_failure, spawns_among}
use Rattle.host.specs.State.{is_running}
use Rattle.task.specs.Messages.{control_at_end}
use Rattle.task.specs.declared.messages.Control.{Control as AnyControl}
use Rattle.task.specs.declared.messages.Control.TheVariants.{ContinueTryGracefulRestart}
use Rattle.task.specs.declared.messages.GraceEnd.TheVariants.{Restart}
use Rattle.task.specs.declared.task.Outcome.{Outcome}
use Rattle.task.specs.declared.task.PollOutcome.{PollOutcome}
use Rattle.task.specs.declared.task.PollOutcome.TheVariants.{Over, Renewed}
use Rattle.task.specs.Task.{TaskView, MaySetTimer, is_graced}
use Rattle.task.proofs.Books.{Books}
use Rattle.task.proofs.Courses.{Carried, found_end}
use Rattle.task.proofs.Sheets.{records_are}
use Rattle.supervisor.specs.declared.answers.StepKind.TheVariants.{Control, Child}
use Rattle.supervisor.specs.declared.answers.Stepped.{Stepped}
use Rattle.supervisor.specs.declared.mailbox.Received.{Received}
use Rattle.supervisor.specs.declared.mailbox.Source.TheVariants as Sources
use Rattle.supervisor.specs.declared.timer.Timer.{Timer}
use Rattle.supervisor.specs.Job.{JobView, StepEnd, look, control_end, control_step, poll_end, child_step}
use Rattle.supervisor.specs.Laws.{Pends, TakesWhenDue, NormalWaits, Continues, RaisesAtEnd, starts_or_fails}
use Rattle.supervisor.specs.Mailbox as Mail
use Rattle.supervisor.specs.Mailbox.{MailboxView, TakeResult, message_from, with_timer, settle, raise_timer, raise_at_end, raise_again}
use Rattle.supervisor.specs.Sound.{IsInOrder}
use Rattle.supervisor.specs.Steps.{Moment, job_view, step_end, Steps}
use Rattle.supervisor.specs.Timers.{timer_message, memory}
use Rattle.supervisor.proofs.Mailboxes.{InHand, take_in}
use Rattle.supervisor.proofs.Steps.{way_of}
use Rattle.supervisor.proofs.Ways.{Way, ControlWay}

-- what is taken while the timer t is pending: its message once it is due, with which the timer is gone; before that another one,
-- that leaves the timer and the normal queue
record Takes (time : ℕ) (t : Timer) (m : MailboxView) (r : Received) (n : MailboxView) : Type 0 where
  due : t.deadline ≤ time → (n.timer ≡ None) × (n.queues ≡ m.queues) × (r.message ≡ timer_message t)
  early : time < t.deadline → (n.timer ≡ m.timer) × (n.queues.normal ≡ m.queues.normal)

takes : (time : ℕ) (t : Timer) (m : MailboxView) (r : Received) (n : MailboxView) → m.timer ≡ Some t → Mail.take time m ≡ Some (r, n) → Takes time t m r n
takes time t m r n e f = record { due = λ l. grind (arith, common_steps); early = λ l. grind (arith, common_steps) }

-- an outcome that sets no timer leaves timer and queues
settle_leaves : (time : ℕ) (o : Outcome) (ticket : ℕ) (m : MailboxView) → is_graced o ≡ false → ((settle time o ticket m).timer ≡ m.timer)
    × ((settle time o ticket m).queues ≡ m.queues)
settle_leaves time o ticket m h = grind (arith, common_steps)

-- while the timer t is pending, what is taken sets none
calm : (time : ℕ) (t : Timer) (m : MailboxView) (r : Received) (n : MailboxView) (o : Outcome) → m.timer ≡ Some t → Takes time t m r n → InHand r n
    → MaySetTimer r.message.control o → is_graced o ≡ false
calm time t m r n o e k h f = grind (arith, common_steps, k.due, k.early, h.free, f)

-- what a control leaves that was carried out while a timer is pending
carried_law : (time : ℕ) (v : JobView) (r : Received) (n : MailboxView) → InHand r n → Mail.take time v.mailbox ≡ Some (r, n) → (x : TaskView × Outcome)
    → MaySetTimer r.message.control x.1 → TakesWhenDue time v (control_end time r n x).view × NormalWaits v (control_end time r n x).view
carried_law time v r n h e x f =
    let leaves = λ (t : Timer) (p : Pends t v). settle_leaves time x.1 r.message.ticket n (calm time t v.mailbox r n x.1 p (takes time t v.mailbox r n p e) h f)
    in (
      record {
        due = λ t p l. grind (arith, leaves t p, (takes time t v.mailbox r n p e).due l);
        early = λ t p l. grind (arith, leaves t p, (takes time t v.mailbox r n p e).early l);
      },
      λ t p. grind (arith, leaves t p, takes time t v.mailbox r n p e),
    )

-- a timer that is due is taken
idle_law : (time : ℕ) (v : JobView) → Mail.take time v.mailbox ≡ None → TakesWhenDue time v (record v { clock = time }) × NormalWaits v
    (record v { clock = time })
idle_law time v e = (record { due = λ t p l. grind (arith, common_steps); early = λ t p l. refl }, λ t p. refl)

-- what the laws say of the job that a control step leaves
pub control_law : (time : ℕ) (v : JobView) (b : Books) (s : StepEnd) → IsInOrder [] v.mailbox → Way time v Control b s → TakesWhenDue time v s.view
    × NormalWaits v s.view
control_law time v b s h (None, e, w) = rw w.1 (idle_law time v e)
control_law time v b s h (Some (r, n), e, w) = rw w.2 (carried_law time v r n (take_in time v.mailbox r n h e) e w.0 w.1.timed)

-- a timer that is due is taken
pub take_now : (time : ℕ) (t : Timer) (m : MailboxView) → m.timer ≡ Some t → t.deadline ≤ time
    → Mail.take time m ≡ Some (message_from (timer_message t) Sources.Timer, with_timer None m)
take_now time t m e l = grind (arith, common_steps)

-- the message of a restart's timer is carried out once it is due
pub continue_way : (time : ℕ) (t : Timer) (v : JobView) (b : Books) (s : StepEnd) → Pends t v → t.end ≡ Restart → t.deadline ≤ time → Way time v Control b s
    → (x : TaskView × Outcome) × Carried ContinueTryGracefulRestart (is_running v.task.state) b x
continue_way time t v b s p e l (k, taken, w) =
    let now = take_now time t v.mailbox p l in
    let way : ControlWay time v (Some (message_from (timer_message t) Sources.Timer, with_timer None v.mailbox)) b s =
    subst (λ (k : TakeResult). ControlWay time v k b s) (sym taken ∙ now) w in
    (way.0, subst (λ (c : AnyControl). Carried c (is_running v.task.state) b way.0) (ap control_at_end e) way.1)

-- what starts or fails is a spawn, or a failure
starts_and_failures : (rs : List Record) → count_by starts_or_fails rs ≡ spawns_among rs + count_by is_failure rs
starts_and_failures [] = refl
starts_and_failures (r ∷ rs) = grind (arith, common_steps, starts_and_failures rs)

-- THE CHILD'S END

-- the ticket of the timer, which was held and waited, is raised once the child has ended
ended_found : (t : Timer) (m : MailboxView) → m.timer ≡ Some t → mark_of t.ticket m.tickets.table ≡ Some Held → mark_of t.ticket (raise_at_end m).tickets.table
    ≡ Some Raised
ended_found t m e h =
    let n = raise_timer (Some t) m in
    rw e (raise_each-keeps t.ticket n.ending n.tickets.table (raise-held t.ticket m.tickets.table h))

again_found : (s : ℕ) (o : Option ℕ) (m : MailboxView) → mark_of s m.tickets.table ≡ Some Raised → mark_of s (raise_again o m).tickets.table ≡ Some Raised
again_found s None m h = h
again_found s (Some t) m h = raise-keeps s t m.tickets.table h

again_timer : (o : Option ℕ) (m : MailboxView) → (raise_again o m).timer ≡ m.timer
again_timer None m = refl
again_timer (Some t) m = refl

ended_timer : (m : MailboxView) → (raise_at_end m).timer ≡ None
ended_timer m = grind (arith, common_steps)

-- who was told to wait holds the ticket, and who holds a raised one is told that it is done
told_held : (ticket : ℕ) (v : JobView) → look ticket v ≡ Ok false → mark_of ticket v.mailbox.tickets.table ≡ Some Held
told_held ticket v h = grind (arith, common_steps, h)

raised_told : (ticket : ℕ) (v : JobView) → mark_of ticket v.mailbox.tickets.table ≡ Some Raised → look ticket v ≡ Ok true
raised_told ticket v h = grind (arith, h)

-- what a child step makes of a pending timer, where a poll found an end
end_law : (time : ℕ) (v : JobView) (x : TaskView × PollOutcome) (t : Timer) → Pends t v → found_end x.1 ≡ true → let v' = (poll_end time v x).view in
    (v'.mailbox.timer ≡ None) × (look t.ticket v ≡ Ok false → look t.ticket v' ≡ Ok true)
end_law time v (k, Over) t p l =
    (ended_timer v.mailbox, λ w. raised_told t.ticket (poll_end time v (k, Over)).view (ended_found t v.mailbox p (told_held t.ticket v w)))
end_law time v (k, Renewed) t p l = (
  again_timer (memory v.mailbox.timer) (raise_at_end v.mailbox) ∙ ended_timer v.mailbox,
  λ w. raised_told t.ticket (poll_end time v (k, Renewed)).view (again_found t.ticket (memory v.mailbox.timer) (raise_at_end v.mailbox)
      (ended_found t v.mailbox p (told_held t.ticket v w))),
)
end_law time v (k, o) t p l = absurd (cc l)

-- ON THE SHEET

module _ {H T : Type 0} {by_host : Host.Ghosts H} {by_terminal : Terminal.Ghosts T} where
  -- the laws of an accepted control step, by what it wrote
  pub control_accepted : (time : ℕ) (a b : Moment H T) (s : Stepped) → IsInOrder [] (job_view a.job).mailbox
      → Steps by_host by_terminal (control_step time (job_view a.job)) a s b → TakesWhenDue time (job_view a.job) (job_view b.job) × NormalWaits
      (job_view a.job) (job_view b.job) × Continues time (job_view a.job) (take s.records b.sheet)
  control_accepted time a b s h k =
      let v = job_view a.job in
      let way = way_of Control 0 time a b s k in
      let laws = control_law time v _ (step_end b.job s) h way in (
        laws.0,
        laws.1,
        λ t p e l. rw (records_are k.conducts) (starts_and_failures (journal k.conducts.trace)
            ∙ (continue_way time t v _ (step_end b.job s) p e l way).1.continued.0),
      )

  -- and of an accepted child step
  pub child_accepted : (time : ℕ) (a b : Moment H T) (s : Stepped) → Steps by_host by_terminal (child_step time (job_view a.job)) a s b
      → RaisesAtEnd (job_view a.job) (take s.records b.sheet) (job_view b.job)
  child_accepted time a b s k t p l =
      let way = way_of Child 0 time a b s k in
      let found : found_end way.0.1 ≡ true = some (found_end way.0.1) (omega (arith, way.1.ends, rw (records_are k.conducts) at l)) in
      subst (λ (v : JobView). (v.mailbox.timer ≡ None) × (look t.ticket (job_view a.job) ≡ Ok false → look t.ticket v ≡ Ok true)) (sym (ap (λ e. e.view) way.2))
      (end_law time (job_view a.job) way.0 t p found)
    where
      some : (o : Bool) → 1 ≤ from_bool o → o ≡ true
      some true h = refl
      some false h = absurd (omega (arith, h))
