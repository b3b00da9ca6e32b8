-- Laws of graces: what an accepted step does where a timer is pending. They speak of the job before and after the step, and of the
-- records that the step wrote.
use Rattle.std.specs.Prelude.{◌≡◌, ℕ, ◌<◌, ◌≤◌, Bool, true, false, ◌||◌, List, take, Some, None, Ok, Err, Result, ⊤}
use Rattle.std.specs.List.{count_by}
use Rattle.host.specs.declared.journal.Record.{Record}
use Rattle.host.specs.Journal.{is_spawn, is_failure, reports_end}
use Rattle.task.specs.declared.messages.GraceEnd.TheVariants.{Restart}
use Rattle.supervisor.specs.declared.answers.Stepped.{Stepped}
use Rattle.supervisor.specs.declared.errors.Refusal.{Refusal}
use Rattle.supervisor.specs.declared.timer.Timer.{Timer}
use Rattle.supervisor.specs.Job.{JobView, look}

-- where a step was accepted, P holds of the records that it wrote on the sheet
abbrev pub IfAccepted : Result Stepped Refusal → List Record → (List Record → Type 0) → Type 0
IfAccepted (Ok s) sheet P = P (take s.records sheet)
IfAccepted (Err r) sheet P = ⊤

-- the timer t is pending
abbrev pub Pends : Timer → JobView → Type 0
Pends t v = v.mailbox.timer ≡ Some t

-- THE DEADLINE'S MESSAGE IS TAKEN EXACTLY WHEN ITS TIME HAS COME. Then the timer, and with it the restart memory, is gone, and no
-- queue is read; before that time it stays.
pub record TakesWhenDue (time : ℕ) (v v' : JobView) : Type 0 where
  pub due : (t : Timer) → Pends t v → t.deadline ≤ time → (v'.mailbox.timer ≡ None) × (v'.mailbox.queues ≡ v.mailbox.queues)
  pub early : (t : Timer) → Pends t v → time < t.deadline → v'.mailbox.timer ≡ v.mailbox.timer

-- NO NORMAL CONTROL IS TAKEN DURING A GRACE.
abbrev pub NormalWaits : JobView → JobView → Type 0
NormalWaits v v' = (t : Timer) → Pends t v → v'.mailbox.queues.normal ≡ v.mailbox.queues.normal

-- THE LAUNCH OF A CONTINUED RESTART DOES NOT DEPEND ON WHETHER A CHILD RAN. The step that takes the message of a restart's timer
-- tries one start, unless a kill or a wait faulted, and then none.
abbrev pub starts_or_fails : Record → Bool
starts_or_fails r = is_spawn r.call || is_failure r

abbrev pub Continues : ℕ → JobView → List Record → Type 0
Continues time v records = (t : Timer) → Pends t v → t.end ≡ Restart → t.deadline ≤ time → count_by starts_or_fails records ≡ 1

-- A TIMER'S TICKET IS RAISED WHEN ITS CHILD ENDS FIRST. Who holds it and was told to wait is told that it is done; the timer, and
-- with it the restart memory, is gone.
abbrev pub RaisesAtEnd : JobView → List Record → JobView → Type 0
RaisesAtEnd v records v' = (t : Timer) → Pends t v → 1 ≤ count_by reports_end records → (v'.mailbox.timer ≡ None) × (look t.ticket v ≡ Ok false
    → look t.ticket v' ≡ Ok true)
