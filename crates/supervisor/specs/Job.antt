-- The job: what it holds, how it is made, its sends, looks and collects, its pauses, and its steps.
use Rattle.std.specs.Prelude.{ℕ, ◌^◌, Bool, true, false, if◌then◌else◌, not, ◌&&◌, ◌||◌, [], ◌∷◌, ◌++◌, length, is_some, Some, None, Ok, Err, Option, Result, ◌==◌, nat_le, nat_lt, ⊤}
use Rattle.std.specs.Result.{result_and}
use Rattle.host.specs.declared.command.SpawnOptions.{SpawnOptions}
use Rattle.host.specs.declared.command.Command.{Command}
use Rattle.host.specs.declared.state.CommandState.TheVariants.{Pending}
use Rattle.host.specs.Books.{Roster, no_child}
use Rattle.host.specs.Command.{options_of}
use Rattle.host.specs.State.{is_running}
use Rattle.host.specs.Interaction.{Interaction, done, bind}
use Rattle.tickets.specs.declared.flag.Mark.{Mark}
use Rattle.tickets.specs.declared.flag.Mark.TheVariants.{Held, Raised}
use Rattle.tickets.specs.Tickets.{mark_of}
use Rattle.supervisor.specs.declared.errors.Refusal.{Refusal}
use Rattle.supervisor.specs.declared.errors.Refusal.TheVariants.{Closed, Sheet, Clock, Signal, Number, Unwatched, Pauses, Unknown, Waiting}
use Rattle.supervisor.specs.declared.answers.Progress.{Progress}
use Rattle.supervisor.specs.declared.answers.StepKind as StepKind
use Rattle.supervisor.specs.declared.answers.Progress.TheVariants.{Idle}
use Rattle.supervisor.specs.declared.mailbox.Received.{Received}
use Rattle.supervisor.specs.declared.sends.Send.{Send}
use Rattle.task.specs.declared.task.Outcome.{Outcome}
use Rattle.task.specs.declared.task.PollOutcome.{PollOutcome}
use Rattle.supervisor.specs.Answers.{control_progress, poll_progress, pause_progress}
use Rattle.task.specs.Task as Tree
use Rattle.task.specs.Task.{TaskView, children, closes, control, poll_child, with_pauses}
use Rattle.supervisor.specs.Mailbox as Mail
use Rattle.supervisor.specs.Mailbox.{MailboxView, TakeResult, take, orders_start, settle, settle_poll}
use Rattle.supervisor.specs.Sends.{priority_of, controls_of}
use Rattle.supervisor.specs.Timers.{memory}

pub record JobView : Type 0 where
  pub closed : Bool
  pub task : TaskView
  pub mailbox : MailboxView
  pub clock : ℕ

abbrev pub with_mailbox : MailboxView → JobView → JobView
with_mailbox m v = record v { mailbox = m }

-- MAKING

-- a fresh job: open and pending, with no ticket issued and all else empty, none or 0
abbrev pub fresh_job : Command → JobView
fresh_job c = record {
  closed = false;
  task = record {
    command = c;
    settings = record { handler = None; hook = None; way = 0 };
    state = Pending;
    previous = None;
    foreground = record { paused = None; pauses = []; watch = false; grant = false };
  };
  mailbox = Mail.empty_mailbox;
  clock = 0;
}

abbrev pub make_with : ℕ → Option SpawnOptions → Result JobView Refusal
make_with program None = Err Number
make_with program (Some options) = Ok (fresh_job (record { program = program; options = options }))

-- a program of 0, or options over 15, are refused
abbrev pub make : ℕ → ℕ → Result JobView Refusal
make program options = if program == 0 then Err Number else make_with program (options_of options)

-- QUESTIONS

-- a dead job runs nothing
abbrev pub runs : JobView → Bool
runs v = not v.closed && is_running v.task.state

-- the children of a job: the one that runs
abbrev pub children_of : JobView → Roster
children_of v = if v.closed then no_child else children v.task.state

-- SENDS

abbrev pub after_send : MailboxView × Result ℕ Refusal → JobView → JobView × Result ℕ Refusal
after_send (m, r) v = (with_mailbox m v, r)

-- a closed job answers ticket 0; an open one refuses all controls of a send, or takes all and answers the last one's ticket
abbrev pub send : Send → JobView → JobView × Result ℕ Refusal
send s v = if v.closed then (v, Ok 0) else after_send (Mail.send (priority_of s) (controls_of s) v.mailbox) v

-- LOOK AND COLLECT

-- ticket 0 is done; a held one is done once it is raised, or the job is closed
abbrev pub is_done : Bool → Option Mark → Result Bool Refusal
is_done closed (Some Held) = Ok closed
is_done closed (Some Raised) = Ok true
is_done closed mark = Err Unknown

abbrev pub look : ℕ → JobView → Result Bool Refusal
look ticket v = if ticket == 0 then Ok true else is_done v.closed (mark_of ticket v.mailbox.tickets.table)

abbrev pub collect_if : Result Bool Refusal → ℕ → JobView → JobView × Result ⊤ Refusal
collect_if (Ok true) ticket v = (with_mailbox (Mail.vacate_ticket ticket v.mailbox) v, Ok tt)
collect_if (Ok false) ticket v = (v, Err Waiting)
collect_if (Err r) ticket v = (v, Err r)

-- what a look calls done is collected; ticket 0 has no place to free
abbrev pub collect : ℕ → JobView → JobView × Result ⊤ Refusal
collect ticket v = if ticket == 0 then (v, Ok tt) else collect_if (is_done v.closed (mark_of ticket v.mailbox.tickets.table)) ticket v

-- PAUSES

-- a signal that stopped or continued the child may be added, or is refused: on a closed job, for a number that is no signal, while
-- pauses are not watched for, or while 32 wait
abbrev pub may_pause : ℕ → JobView → Result ⊤ Refusal
may_pause signal v =
    if v.closed then Err Closed
    else if signal == 0 || nat_lt 31 signal then Err Signal
    else if not v.task.foreground.watch then Err Unwatched
    else if nat_lt (length v.task.foreground.pauses) 32 then Ok tt
    else Err Pauses

-- it waits behind the others
abbrev pub with_pause : ℕ → JobView → JobView
with_pause signal v = record v { task = with_pauses (v.task.foreground.pauses ++ signal ∷ []) v.task }

abbrev pub pause_if : Result ⊤ Refusal → ℕ → JobView → JobView × Result ⊤ Refusal
pause_if (Ok u) signal v = (with_pause signal v, Ok tt)
pause_if (Err r) signal v = (v, Err r)

abbrev pub pause : ℕ → JobView → JobView × Result ⊤ Refusal
pause signal v = pause_if (may_pause signal v) signal v

-- STEPS

abbrev pub check_open : JobView → Result ⊤ Refusal
check_open v = if v.closed then Err Closed else Ok tt

abbrev pub check_sheet : ℕ → Result ⊤ Refusal
check_sheet places = if nat_lt places 8 then Err Sheet else Ok tt

abbrev pub check_time : ℕ → JobView → Result ⊤ Refusal
check_time time v = if nat_le v.clock time && nat_le time (2 ^ 62) then Ok tt else Err Clock

-- a step at this time, with a sheet of so many places, may be made, or is refused
abbrev pub may_step : ℕ → ℕ → JobView → Result ⊤ Refusal
may_step time places v = result_and (check_open v) (result_and (check_sheet places) (check_time time v))

-- what an accepted step ends with: the job, what was done, and whether a control that orders a start was taken from a queue
pub record StepEnd : Type 0 where
  pub view : JobView
  pub progress : Progress
  pub ordered : Bool

-- a message was taken, which left the mailbox m, and its control carried out
abbrev pub control_end : ℕ → Received → MailboxView → TaskView × Outcome → StepEnd
control_end time r m x = record {
  view = record { closed = closes x.1; task = x.0; mailbox = settle time x.1 r.message.ticket m; clock = time };
  progress = control_progress x.1;
  ordered = orders_start r;
}

abbrev pub carry_out : TakeResult → ℕ → JobView → Interaction StepEnd
carry_out None time v = done (record { view = record v { clock = time }; progress = Idle; ordered = false })
carry_out (Some (r, m)) time v = bind (control r.message.control time v.task) (λ x. done (control_end time r m x))

-- a control step carries out the control that it takes
abbrev pub control_step : ℕ → JobView → Interaction StepEnd
control_step time v = carry_out (take time v.mailbox) time v

abbrev pub poll_end : ℕ → JobView → TaskView × PollOutcome → StepEnd
poll_end time v x = record {
  view = record v { task = x.0; mailbox = settle_poll x.1 v.mailbox; clock = time };
  progress = poll_progress x.1;
  ordered = false;
}

-- a child step polls the child, and continues the restart that is remembered, if one is
abbrev pub child_step : ℕ → JobView → Interaction StepEnd
child_step time v = bind (poll_child (is_some (memory v.mailbox.timer)) time v.task) (λ x. done (poll_end time v x))

abbrev pub pause_end : ℕ → JobView → TaskView × Option ℕ → StepEnd
pause_end time v x = record { view = record v { task = x.0; clock = time }; progress = pause_progress x.1; ordered = false }

-- a pause step takes the oldest pause, while a child runs; `own` is the terminal's own group
abbrev pub pause_step : ℕ → ℕ → JobView → Interaction StepEnd
pause_step own time v = bind (Tree.pause own v.task) (λ x. done (pause_end time v x))

-- a step of each kind, over a terminal with that own group
abbrev pub tree_of : StepKind.StepKind → ℕ → ℕ → JobView → Interaction StepEnd
tree_of StepKind.TheVariants.Control own = control_step
tree_of StepKind.TheVariants.Child own = child_step
tree_of StepKind.TheVariants.Pause own = pause_step own
