-- The task of a job: its parts, its controls, its poll of the child and its pauses, as interaction trees.
use Rattle.std.specs.Prelude.{◌≡◌, ℕ, Bool, true, false, not, ◌&&◌, ◌||◌, List, [], ◌∷◌, if◌then◌else◌, is_ok, Some, None, Ok, Err, Option, Result, ◌==◌, ⊤}
use Rattle.host.specs.declared.fault.Fault.{Fault}
use Rattle.std.specs.Result.{result_unwrap_or}
use Rattle.host.specs.declared.command.SpawnOptions.{SpawnOptions}
use Rattle.host.specs.declared.command.Command.{Command}
use Rattle.host.specs.declared.state.ProcessEnd.{ProcessEnd}
use Rattle.host.specs.declared.state.CommandState.{CommandState}
use Rattle.host.specs.declared.state.CommandState.TheVariants.{Pending, Running, Finished}
use Rattle.host.specs.Books.{Roster, no_child, one_child}
use Rattle.host.specs.Command.{wants_grant}
use Rattle.host.specs.State.{is_running, kept_run}
use Rattle.host.specs.Calls as Calls
use Rattle.host.specs.Calls.{to_host, to_terminal}
use Rattle.host.specs.Interaction.{Interaction, done, bind, call}
use Rattle.task.specs.declared.messages.Control.{Control}
use Rattle.task.specs.declared.messages.Control.TheVariants.{Start, Stop, GracefulStop, TryRestart, TryGracefulRestart, ContinueTryGracefulRestart, Signal, Delete, NextEnding, Func, SetErrorHandler, UnsetErrorHandler, SetSpawnHook, UnsetSpawnHook, SetSpawnFn, ClearSpawnFn}
use Rattle.task.specs.declared.messages.GraceEnd.{GraceEnd}
use Rattle.task.specs.declared.messages.GraceEnd.TheVariants as GraceEnds
use Rattle.task.specs.Messages.{sets_timer}
use Rattle.task.specs.declared.task.Settings.{Settings}
use Rattle.task.specs.declared.task.Outcome.{Outcome}
use Rattle.task.specs.declared.task.Outcome.TheVariants.{Settled, Ended, Graced, Joined, Closes}
use Rattle.task.specs.declared.task.PollOutcome.{PollOutcome}
use Rattle.task.specs.declared.task.PollOutcome.TheVariants.{Idle, Faulted, Over, Renewed}

-- what the task knows of the terminal: the signal that paused the child, the pauses that wait, whether pauses are watched for, and
-- whether a grant of the foreground is held
pub record ForegroundView : Type 0 where
  pub paused : Option ℕ
  pub pauses : List ℕ
  pub watch : Bool
  pub grant : Bool

pub record TaskView : Type 0 where
  pub command : Command
  pub settings : Settings
  pub state : CommandState
  pub previous : Option CommandState
  pub foreground : ForegroundView

abbrev pub in_state : CommandState → TaskView → TaskView
in_state s t = record t { state = s }

-- PARTS

-- a part ends with nothing, or with a fault
abbrev pub Part : Type 0
Part = Interaction (TaskView × Result ⊤ Fault)

-- Resume: a paused signal is forgotten, and the child, if one runs, is continued; a fault is ignored.

abbrev pub forget_pause : TaskView → TaskView
forget_pause t = record t { foreground = record t.foreground { paused = None } }

abbrev pub resume_by : Option ℕ → CommandState → TaskView → Interaction TaskView
resume_by None s t = done t
resume_by (Some p) (Running child run_child) t = bind (call (to_host (Calls.cont child))) (λ _. done (forget_pause t))
resume_by (Some p) s t = done (forget_pause t)

abbrev pub resume : TaskView → Interaction TaskView
resume t = resume_by t.foreground.paused t.state t

-- Yield: the watch ends, and a held grant is released.

abbrev pub end_watch : TaskView → TaskView
end_watch t = record t { foreground = record t.foreground { watch = false; grant = false } }

abbrev pub yield_if : Bool → TaskView → Interaction TaskView
yield_if false t = done (end_watch t)
yield_if true t = bind (call (to_terminal Calls.release)) (λ _. done (end_watch t))

abbrev pub yield : TaskView → Interaction TaskView
yield t = yield_if t.foreground.grant t

-- End by force: kill, then wait; the child has then finished. A fault leaves it running.

abbrev pub after_wait : ℕ → ℕ → TaskView → Result ProcessEnd Fault → TaskView × Result ⊤ Fault
after_wait run_child time t (Ok end) = (in_state (Finished end run_child time) t, Ok tt)
after_wait run_child time t (Err fault) = (t, Err fault)

abbrev pub after_kill : ℕ → ℕ → ℕ → TaskView → Result ⊤ Fault → Part
after_kill child run_child time t (Ok u) = bind (call (to_host (Calls.wait child))) (λ a. done (after_wait run_child time t a))
after_kill child run_child time t (Err fault) = done (t, Err fault)

abbrev pub end_by_force : ℕ → ℕ → ℕ → TaskView → Part
end_by_force child run_child time t = bind (call (to_host (Calls.kill child))) (after_kill child run_child time t)

-- Launch: the state is reset and kept as the previous one; a hook, if set, is told both and answers the options, the command's
-- where it faults; spawn. A child that is granted runs, is not paused, has no pauses waiting, and is watched exactly if the
-- command has grant_foreground.

abbrev pub reset : ℕ → TaskView → TaskView
reset time t = record t { state = Pending; previous = Some (kept_run time t.state) }

abbrev pub ask_hook : Option ℕ → TaskView → Interaction SpawnOptions
ask_hook None t = done t.command.options
ask_hook (Some n) t = bind (call (to_host (Calls.hook n t.state t.previous))) (λ a. done (result_unwrap_or a t.command.options))

abbrev pub spawn_options : TaskView → Interaction SpawnOptions
spawn_options t = ask_hook t.settings.hook t

abbrev pub run_child : ℕ → ℕ → TaskView → TaskView
run_child child time t =
    record t { state = Running child time; foreground = record t.foreground { paused = None; pauses = []; watch = t.command.options.grant_foreground } }

abbrev pub after_spawn : ℕ → TaskView → Result ℕ Fault → TaskView × Result ⊤ Fault
after_spawn time t (Ok child) = (run_child child time t, Ok tt)
after_spawn time t (Err fault) = (t, Err fault)

abbrev pub spawn : ℕ → TaskView → SpawnOptions → Part
spawn time t options = bind (call (to_host (Calls.spawn t.command.program options t.settings.way time))) (λ a. done (after_spawn time t a))

abbrev pub launch : ℕ → TaskView → Part
launch time t = bind (spawn_options (reset time t)) (spawn time (reset time t))

-- A fault is told to the handler, if one is set; a fault of telling is ignored.

abbrev pub tell_fault : Option ℕ → Result ⊤ Fault → Interaction ⊤
tell_fault handler (Ok u) = done tt
tell_fault None (Err fault) = done tt
tell_fault (Some n) (Err fault) = bind (call (to_host (Calls.tell n fault))) (λ _. done tt)

abbrev pub report : Part → Part
report part = bind part (λ x. bind (tell_fault x.0.settings.handler x.1) (λ _. done x))

-- A signal to the child.

abbrev pub send_signal : ℕ → ℕ → TaskView → Part
send_signal child s t = bind (call (to_host (Calls.signal child s))) (λ a. done (t, a))

-- 0 is sent as 15
abbrev pub number_sent : ℕ → ℕ
number_sent s = if s == 0 then 15 else s

-- CONTROLS

-- a control leaves the task, and an outcome that says what becomes of its ticket; so does a poll of the child
abbrev pub Course : Type 0 → Type 0
Course O = Interaction (TaskView × O)

-- what a part is that was done means o; one that faulted settles the ticket
abbrev pub unless_faulted : Outcome → Result ⊤ Fault → Outcome
unless_faulted o r = if is_ok r then o else Settled

-- a control that launched: whether a fault was told or not
abbrev pub begin : ℕ → Outcome → TaskView → Course Outcome
begin time o t = bind (report (launch time t)) (λ x. done (x.0, o))

abbrev pub start_unless : Bool → ℕ → TaskView → Course Outcome
start_unless true time t = done (t, Settled)
start_unless false time t = begin time Settled t

-- what ends or replaces the child resumes and yields first
abbrev pub make_way : TaskView → Interaction TaskView
make_way t = bind (resume t) yield

abbrev pub stop_in : CommandState → ℕ → TaskView → Course Outcome
stop_in (Running child began) time t = bind (report (end_by_force child began time t)) (λ x. done (x.0, unless_faulted Ended x.1))
stop_in s time t = done (t, Settled)

-- the child is ended by force, and another one started
abbrev pub replace_after : ℕ → TaskView × Result ⊤ Fault → Course Outcome
replace_after time (t, Ok u) = begin time Ended t
replace_after time (t, Err fault) = done (t, Settled)

abbrev pub replace : ℕ → ℕ → ℕ → TaskView → Course Outcome
replace child began time t = bind (report (end_by_force child began time t)) (replace_after time)

abbrev pub restart_in : CommandState → ℕ → TaskView → Course Outcome
restart_in (Running child began) time t = replace child began time t
restart_in s time t = done (t, Settled)

-- the continuation of a graceful restart starts a child whether one ran or not
abbrev pub continue_in : CommandState → ℕ → TaskView → Course Outcome
continue_in (Running child began) time t = replace child began time t
continue_in s time t = begin time Settled t

-- a running child is sent the signal, and o is the outcome
abbrev pub signal_in : CommandState → ℕ → Outcome → TaskView → Course Outcome
signal_in (Running child began) s o t = bind (report (send_signal child (number_sent s) t)) (λ x. done (x.0, unless_faulted o x.1))
signal_in state s o t = done (t, Settled)

-- the child is asked to end, and a grace runs
abbrev pub end_gracefully : ℕ → ℕ → GraceEnd → TaskView → Course Outcome
end_gracefully s grace end t = bind (resume t) (λ t₁. signal_in t₁.state s (Graced grace end) t₁)

-- a running child is let go; the state stays
abbrev pub delete_in : CommandState → TaskView → Course Outcome
delete_in (Running child began) t = bind (call (to_host (Calls.let_go child))) (λ _. done (t, Closes))
delete_in s t = done (t, Closes)

-- who waits for the next ending waits while a child runs
abbrev pub joins : CommandState → Outcome
joins s = if is_running s then Joined else Settled

-- the settings of error handler, spawn hook and way of spawning
abbrev pub with_settings : Settings → TaskView → Course Outcome
with_settings s t = done (record t { settings = s }, Settled)

abbrev pub control : Control → ℕ → TaskView → Course Outcome
control Start time t = start_unless (is_running t.state) time t
control Stop time t = bind (make_way t) (λ t₁. stop_in t₁.state time t₁)
control (GracefulStop s grace) time t = end_gracefully s grace GraceEnds.Stop t
control TryRestart time t = bind (make_way t) (λ t₁. restart_in t₁.state time t₁)
control (TryGracefulRestart s grace) time t = end_gracefully s grace GraceEnds.Restart t
control ContinueTryGracefulRestart time t = bind (make_way t) (λ t₁. continue_in t₁.state time t₁)
control (Signal s) time t = signal_in t.state s Settled t
control Delete time t = bind (yield t) (λ t₁. delete_in t₁.state t₁)
control NextEnding time t = done (t, joins t.state)
control (Func n) time t = bind (call (to_host (Calls.routine n t.state t.previous))) (λ _. done (t, Settled))
control (SetErrorHandler n) time t = with_settings (record t.settings { handler = Some n }) t
control UnsetErrorHandler time t = with_settings (record t.settings { handler = None }) t
control (SetSpawnHook n) time t = with_settings (record t.settings { hook = Some n }) t
control UnsetSpawnHook time t = with_settings (record t.settings { hook = None }) t
control (SetSpawnFn n) time t = with_settings (record t.settings { way = n }) t
control ClearSpawnFn time t = with_settings (record t.settings { way = 0 }) t

-- THE POLL OF THE CHILD

-- once the child has ended: another one is started, if a restart is remembered
abbrev pub follow : Bool → ℕ → TaskView → Course PollOutcome
follow false time t = done (t, Over)
follow true time t = bind (report (launch time t)) (λ x. done (x.0, if is_ok x.1 then Renewed else Over))

-- a child that ended has finished, and the terminal is yielded; a fault is told
abbrev pub after_poll : Bool → ℕ → ℕ → TaskView → Result (Option ProcessEnd) Fault → Course PollOutcome
after_poll restart began time t (Ok None) = done (t, Idle)
after_poll restart began time t (Ok (Some end)) = bind (yield (in_state (Finished end began time) t)) (follow restart time)
after_poll restart began time t (Err fault) = bind (tell_fault t.settings.handler (Err fault)) (λ _. done (t, Faulted))

abbrev pub poll_in : CommandState → Bool → ℕ → TaskView → Course PollOutcome
poll_in (Running child began) restart time t = bind (call (to_host (Calls.poll child))) (after_poll restart began time t)
poll_in s restart time t = done (t, Idle)

-- `restart` says whether a restart is remembered
abbrev pub poll_child : Bool → ℕ → TaskView → Course PollOutcome
poll_child restart time t = poll_in t.state restart time t

-- THE PAUSE STEP

abbrev pub with_grant : Bool → TaskView → TaskView
with_grant held t = record t { foreground = record t.foreground { grant = held } }

abbrev pub mark_paused : ℕ → TaskView → TaskView
mark_paused signal t = record t { foreground = record t.foreground { paused = Some signal } }

abbrev pub with_pauses : List ℕ → TaskView → TaskView
with_pauses signals t = record t { foreground = record t.foreground { pauses = signals } }

-- Trying a grant: if the foreground is the terminal's own group's or the child's, it is acquired for the child's group, which has
-- the child's number; a fault is ignored.

abbrev pub is_ours : ℕ → ℕ → Option ℕ → Bool
is_ours own child None = false
is_ours own child (Some group) = group == own || group == child

abbrev pub after_acquire : TaskView → Result ⊤ Fault → TaskView
after_acquire t r = if is_ok r then with_grant true t else t

abbrev pub acquire_if : Bool → ℕ → TaskView → Interaction TaskView
acquire_if false child t = done t
acquire_if true child t = bind (call (to_terminal (Calls.acquire child))) (λ a. done (after_acquire t a))

abbrev pub try_grant : ℕ → ℕ → TaskView → Interaction TaskView
try_grant own child t = bind (call (to_terminal Calls.owner)) (λ group. acquire_if (is_ours own child group) child t)

abbrev pub try_grant_if : Bool → ℕ → ℕ → TaskView → Interaction TaskView
try_grant_if false own child t = done t
try_grant_if true own child t = try_grant own child t

-- 18, the child goes on: it is paused no more, and gets a grant if one is wanted and none is held
abbrev pub on_continue : ℕ → ℕ → TaskView → Interaction TaskView
on_continue own child t = try_grant_if (wants_grant t.command && not t.foreground.grant) own child (forget_pause t)

-- 21 and 22, the child wants the terminal: if a grant is wanted and none is held, one is tried, and then the child is continued; it
-- stays paused where that faults, and where no grant is wanted

abbrev pub after_cont : ℕ → TaskView → Result ⊤ Fault → TaskView
after_cont signal t (Ok u) = forget_pause t
after_cont signal t (Err fault) = mark_paused signal t

abbrev pub continue_child : ℕ → ℕ → TaskView → Interaction TaskView
continue_child child signal t = bind (call (to_host (Calls.cont child))) (λ a. done (after_cont signal t a))

abbrev pub on_terminal_use : Bool → ℕ → ℕ → ℕ → TaskView → Interaction TaskView
on_terminal_use false own child signal t = done (mark_paused signal t)
on_terminal_use true own child signal t = bind (try_grant_if (not t.foreground.grant) own child t) (continue_child child signal)

-- any other, the child is paused: a held grant is released
abbrev pub on_stop : Bool → ℕ → TaskView → Interaction TaskView
on_stop false signal t = done (mark_paused signal t)
on_stop true signal t = bind (call (to_terminal Calls.release)) (λ _. done (mark_paused signal (with_grant false t)))

abbrev pub take_pause : ℕ → ℕ → ℕ → TaskView → Interaction TaskView
take_pause own child signal t =
    if signal == 18 then on_continue own child t
    else if signal == 21 || signal == 22 then on_terminal_use (wants_grant t.command) own child signal t
    else on_stop t.foreground.grant signal t

-- the oldest pause is taken while a child runs, and answered; none is where no child runs or no pause waits
abbrev pub pause_in : CommandState → List ℕ → ℕ → TaskView → Course (Option ℕ)
pause_in (Running child began) (signal ∷ rest) own t = bind (take_pause own child signal (with_pauses rest t)) (λ t₁. done (t₁, Some signal))
pause_in s pauses own t = done (t, None)

-- `own` is the terminal's own group
abbrev pub pause : ℕ → TaskView → Course (Option ℕ)
pause own t = pause_in t.state t.foreground.pauses own t

-- WHAT HOLDS

-- an outcome that closes the job
abbrev pub closes : Outcome → Bool
closes Closes = true
closes o = false

-- an outcome that leaves the ticket to the timer
abbrev pub is_graced : Outcome → Bool
is_graced (Graced grace end) = true
is_graced o = false

-- only a control that sets a timer ends with it
abbrev pub MaySetTimer : Control → Outcome → Type 0
MaySetTimer c o = is_graced o ≡ true → sets_timer c ≡ true

-- the children of a state: the one that runs, if one does
abbrev pub children : CommandState → Roster
children (Running child began) = one_child child
children s = no_child

-- a grant is held only while a child runs
abbrev pub GrantMeansRunning : TaskView → Type 0
GrantMeansRunning t = t.foreground.grant ≡ true → is_running t.state ≡ true
