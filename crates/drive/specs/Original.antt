-- The original: the job task of watchexec-supervisor 6.0.0 on Unix, arm by arm as `start_job` has it, as interaction trees. Names are
-- the Rust's. It stands for itself: of the job it shares the words for commands, controls, sends, queues, steps, states, calls and
-- faults, and nothing of what is done.
use Rattle.std.specs.Prelude.{ℕ, ◌+◌, Bool, true, false, not, ◌&&◌, ◌||◌, if◌then◌else◌, List, [], ◌∷◌, ◌++◌, Some, None, Ok, Err, Option, Result, ◌==◌, nat_le, is_some, is_ok, ⊤}
use Rattle.std.specs.Result.{result_unwrap_or}
use Rattle.host.specs.declared.fault.Fault.{Fault}
use Rattle.host.specs.declared.command.SpawnOptions.{SpawnOptions}
use Rattle.host.specs.declared.command.Command.{Command}
use Rattle.host.specs.declared.state.ProcessEnd.{ProcessEnd}
use Rattle.host.specs.declared.state.ProcessEnd.TheVariants.{Continued}
use Rattle.host.specs.declared.state.CommandState.{CommandState}
use Rattle.host.specs.declared.state.CommandState.TheVariants.{Pending, Running, Finished}
use Rattle.host.specs.Calls as Calls
use Rattle.host.specs.Calls.{to_host, to_terminal}
use Rattle.host.specs.Interaction.{Interaction, done, bind, call}
use Rattle.supervisor.specs.declared.answers.StepKind.{StepKind}
use Rattle.supervisor.specs.declared.answers.StepKind.TheVariants as Kinds
use Rattle.supervisor.specs.declared.queues.Priority.{Priority}
use Rattle.supervisor.specs.declared.queues.Priority.TheVariants.{Normal, High, Urgent}
use Rattle.supervisor.specs.declared.sends.Send.{Send}
use Rattle.supervisor.specs.declared.sends.Send.TheVariants as Sends
use Rattle.task.specs.declared.messages.Control.{Control}
use Rattle.task.specs.declared.messages.Control.TheVariants.{Start, Stop, GracefulStop, TryRestart, TryGracefulRestart, ContinueTryGracefulRestart, Signal, Delete, NextEnding, Func, SetErrorHandler, UnsetErrorHandler, SetSpawnHook, UnsetSpawnHook, SetSpawnFn, ClearSpawnFn}

-- WHAT IS AMENDED: each is so where it is true, and the published Rust's where it is false

pub record Amendments : Type 0 where
  -- the restart memory is emptied as the timer's message is taken
  pub forgets : Bool
  -- NextEnding is raised at once on Pending
  pub at_once : Bool
  -- a granted launch drops the pauses that wait
  pub drops : Bool

abbrev pub all_amendments : Amendments
all_amendments = record { forgets = true; at_once = true; drops = true }

abbrev pub no_amendments : Amendments
no_amendments = record { forgets = false; at_once = false; drops = false }

-- THE VARIABLES OF start_job

-- a control, and its flag; flags are numbered as they are made, from 1 on
pub record Message : Type 0 where
  pub control : Control
  pub flag : ℕ

pub record StopTimer : Type 0 where
  pub until : ℕ
  pub flag : ℕ
  pub is_restart : Bool

pub record Original : Type 0 where
  pub command : Command
  -- the channels, without bounds, oldest first
  pub normal : List Message
  pub high : List Message
  pub urgent : List Message
  pub pause_rx : List ℕ
  pub error_handler : Option ℕ
  pub spawn_hook : Option ℕ
  pub spawner : ℕ
  pub command_state : CommandState
  pub previous_run : Option CommandState
  pub stop_timer : Option StopTimer
  pub on_end : List ℕ
  pub on_end_restart : Option ℕ
  pub foreground_grant : Bool
  pub pause_watch : Bool
  pub paused : Option ℕ
  -- the flags that were made, and those that were raised
  pub flags : ℕ
  pub raised : List ℕ
  pub gone : Bool

abbrev pub raise : ℕ → Original → Original
raise flag o = record o { raised = flag ∷ o.raised }

-- for done in take(&mut on_end) { done.raise() }
abbrev pub raise_on_end : Original → Original
raise_on_end o = record o { on_end = []; raised = o.on_end ++ o.raised }

-- FUNCTIONS OF THE TASK

-- what is left of a run when the state is reset
abbrev pub reset : ℕ → CommandState → CommandState
reset now Pending = Pending
reset now (Running child started) = Finished Continued started now
reset now (Finished status started finished) = Finished status started finished

-- error_handler.call
abbrev pub handle : Option ℕ → Fault → Interaction ⊤
handle None fault = done tt
handle (Some handler) fault = bind (call (to_host (Calls.tell handler fault))) (λ _. done tt)

-- resume_paused_command
abbrev pub resume_in : Option ℕ → CommandState → Original → Interaction Original
resume_in None state o = done o
resume_in (Some signal) (Running child started) o = bind (call (to_host (Calls.cont child))) (λ _. done (record o { paused = None }))
resume_in (Some signal) state o = done (record o { paused = None })

abbrev pub resume_paused_command : Original → Interaction Original
resume_paused_command o = resume_in o.paused o.command_state o

-- foreground_grant.take(), and its release
abbrev pub release_if : Bool → Original → Interaction Original
release_if false o = done o
release_if true o = bind (call (to_terminal Calls.release)) (λ _. done (record o { foreground_grant = false }))

-- end_pause_watch, and the grant is reclaimed
abbrev pub reclaim : Original → Interaction Original
reclaim o = let ended = record o { pause_watch = false } in release_if ended.foreground_grant ended

-- what stands before a child is stopped or replaced, in three arms
abbrev pub resume_and_reclaim : Original → Interaction Original
resume_and_reclaim o = bind (resume_paused_command o) reclaim

-- the spawn hook changes what is spawned; where it faults nothing is changed
abbrev pub ask_hook : Option ℕ → Original → Interaction SpawnOptions
ask_hook None o = done o.command.options
ask_hook (Some hook) o = bind (call (to_host (Calls.hook hook o.command_state o.previous_run))) (λ a. done (result_unwrap_or a o.command.options))

-- a spawned child runs, and start_pause_watch_if_running: a fresh run is never paused, and is watched if the command asks for it
abbrev pub after_spawn : Amendments → ℕ → Original → Result ℕ Fault → Original × Result ⊤ Fault
after_spawn am now o (Ok child) = (
  record o {
    command_state = Running child now;
    paused = None;
    pause_watch = o.command.options.grant_foreground;
    pause_rx = if am.drops then []
        else o.pause_rx;
  },
  Ok tt,
)
after_spawn am now o (Err fault) = (o, Err fault)

-- previous_run = Some(command_state.reset()), the spawn hook, command_state.spawn and the watch, as they stand in five places
abbrev pub launch : Amendments → ℕ → Original → Interaction (Original × Result ⊤ Fault)
launch am now o =
    let fresh = record o { command_state = Pending; previous_run = Some (reset now o.command_state) } in
    bind (ask_hook fresh.spawn_hook fresh) (λ options. bind (call (to_host (Calls.spawn fresh.command.program options fresh.spawner now)))
    (λ a. done (after_spawn am now fresh a)))

-- try_with_handler!: where what was tried has faulted, the handler is called, the control's flag raised, and the arm left
abbrev pub try_with_handler : {A : Type 0} → ℕ → Original × Result A Fault → (A → Original → Interaction Original) → Interaction Original
try_with_handler flag (o, Ok x) rest = rest x o
try_with_handler flag (o, Err fault) rest = bind (handle o.error_handler fault) (λ _. done (raise flag o))

-- kill and wait, after which the child has finished and the flags of on_end are raised
abbrev pub stop_child : ℕ → ℕ → ℕ → ℕ → Original → (Original → Interaction Original) → Interaction Original
stop_child child started now flag o rest =
    bind (call (to_host (Calls.kill child))) (λ a.
    try_with_handler flag (o, a) (λ _ o₁. bind (call (to_host (Calls.wait child))) (λ b.
    try_with_handler flag (o₁, b) (λ status o₂. rest (raise_on_end (record o₂ { command_state = Finished status started now }))))))

-- signal_child: a signal without a number is SIGTERM
abbrev pub signal_number : ℕ → ℕ
signal_number signal = if signal == 0 then 15 else signal

-- THE ARMS OF THE CONTROLS. `now` is the time, `flag` the control's own.

abbrev pub finish : ℕ → Original → Interaction Original
finish flag o = done (raise flag o)

-- a launch whose fault leaves the arm
abbrev pub start_again : Amendments → ℕ → ℕ → Original → Interaction Original
start_again am now flag o = bind (launch am now o) (λ x. try_with_handler flag x (λ _ o₁. finish flag o₁))

abbrev pub start : Amendments → CommandState → ℕ → ℕ → Original → Interaction Original
start am (Running child started) now flag o = finish flag o
start am state now flag o = start_again am now flag o

abbrev pub stop : CommandState → ℕ → ℕ → Original → Interaction Original
stop (Running child started) now flag o = stop_child child started now flag o (finish flag)
stop state now flag o = finish flag o

abbrev pub try_restart : Amendments → CommandState → ℕ → ℕ → Original → Interaction Original
try_restart am (Running child started) now flag o = stop_child child started now flag o (start_again am now flag)
try_restart am state now flag o = finish flag o

abbrev pub continue_restart : Amendments → CommandState → ℕ → ℕ → Original → Interaction Original
continue_restart am (Running child started) now flag o = stop_child child started now flag o (start_again am now flag)
continue_restart am state now flag o = start_again am now flag o

-- signal_child, and then what is done where it was granted
abbrev pub signal_child : CommandState → ℕ → ℕ → Original → (Original → Interaction Original) → Interaction Original
signal_child (Running child started) signal flag o rest = bind (call (to_host (Calls.signal child (signal_number signal))))
    (λ a. try_with_handler flag (o, a) (λ _ o₁. rest o₁))
signal_child state signal flag o rest = finish flag o

-- Timer::stop, and Timer::restart with on_end_restart
abbrev pub grace_stop : ℕ → ℕ → Original → Interaction Original
grace_stop until flag o = done (record o { stop_timer = Some (record { until = until; flag = flag; is_restart = false }) })

abbrev pub grace_restart : ℕ → ℕ → Original → Interaction Original
grace_restart until flag o = done (record o { stop_timer = Some (record { until = until; flag = flag; is_restart = true }); on_end_restart = Some flag })

abbrev pub next_ending : Amendments → CommandState → ℕ → Original → Original
next_ending am (Finished status started finished) flag o = raise flag o
next_ending am Pending flag o = if am.at_once then raise flag o else record o { on_end = o.on_end ++ flag ∷ [] }
next_ending am (Running child started) flag o = record o { on_end = o.on_end ++ flag ∷ [] }

abbrev pub arm : Amendments → Control → ℕ → ℕ → Original → Interaction Original
arm am Start now flag o = start am o.command_state now flag o
arm am Stop now flag o = bind (resume_and_reclaim o) (λ o₁. stop o₁.command_state now flag o₁)
arm am (GracefulStop signal grace) now flag o =
    bind (resume_paused_command o) (λ o₁. signal_child o₁.command_state signal flag o₁ (grace_stop (now + grace) flag))
arm am TryRestart now flag o = bind (resume_and_reclaim o) (λ o₁. try_restart am o₁.command_state now flag o₁)
arm am (TryGracefulRestart signal grace) now flag o =
    bind (resume_paused_command o) (λ o₁. signal_child o₁.command_state signal flag o₁ (grace_restart (now + grace) flag))
arm am ContinueTryGracefulRestart now flag o = bind (resume_and_reclaim o) (λ o₁. continue_restart am o₁.command_state now flag o₁)
arm am (Signal signal) now flag o = signal_child o.command_state signal flag o (finish flag)
arm am Delete now flag o = bind (reclaim o) (λ o₁. done (record (raise flag o₁) { gone = true }))
arm am NextEnding now flag o = done (next_ending am o.command_state flag o)
arm am (Func f) now flag o = bind (call (to_host (Calls.routine f o.command_state o.previous_run))) (λ _. finish flag o)
arm am (SetErrorHandler f) now flag o = finish flag (record o { error_handler = Some f })
arm am UnsetErrorHandler now flag o = finish flag (record o { error_handler = None })
arm am (SetSpawnHook f) now flag o = finish flag (record o { spawn_hook = Some f })
arm am UnsetSpawnHook now flag o = finish flag (record o { spawn_hook = None })
arm am (SetSpawnFn f) now flag o = finish flag (record o { spawner = f })
arm am ClearSpawnFn now flag o = finish flag (record o { spawner = 0 })

-- PriorityReceiver::recv, where something can be received at once

abbrev pub to_control : StopTimer → Message
to_control t = record { control = if t.is_restart then ContinueTryGracefulRestart else Stop; flag = t.flag }

abbrev pub is_past : ℕ → Option StopTimer → Option StopTimer
is_past now None = None
is_past now (Some t) = if nat_le t.until now then Some t else None

abbrev pub RecvResult : Type 0
RecvResult = Option (Message × Original)

abbrev pub recv_normal : Bool → List Message → Original → RecvResult
recv_normal false (m ∷ ms) o = Some (m, record o { normal = ms })
recv_normal waits ms o = None

abbrev pub recv_high : Bool → List Message → Original → RecvResult
recv_high waits [] o = recv_normal waits o.normal o
recv_high waits (m ∷ ms) o = Some (m, record o { high = ms })

abbrev pub recv_urgent : Bool → List Message → Original → RecvResult
recv_urgent waits [] o = recv_high waits o.high o
recv_urgent waits (m ∷ ms) o = Some (m, record o { urgent = ms })

abbrev pub recv_timer : Amendments → Option StopTimer → Original → RecvResult
recv_timer am None o = recv_urgent (is_some o.stop_timer) o.urgent o
recv_timer am (Some t) o = Some (to_control t, record o { stop_timer = None; on_end_restart = if am.forgets then None else o.on_end_restart })

abbrev pub recv : Amendments → ℕ → Original → RecvResult
recv am now o = recv_timer am (is_past now o.stop_timer) o

-- THE BRANCHES OF THE LOOP: the control that is received, the wait for the child, a pause

abbrev pub control_branch : Amendments → ℕ → RecvResult → Original → Interaction Original
control_branch am now None o = done o
control_branch am now (Some (m, o₁)) o = arm am m.control now m.flag o₁

-- if let Some(timer) = stop_timer.take() { timer.done.raise() }
abbrev pub erase_timer : Option StopTimer → Original → Original
erase_timer None o = o
erase_timer (Some t) o = raise t.flag (record o { stop_timer = None })

-- the restart's flag, once its launch was granted; a fault of it is told
abbrev pub after_restart : ℕ → Original × Result ⊤ Fault → Interaction Original
after_restart flag (o, Ok u) = done (raise flag o)
after_restart flag (o, Err fault) = bind (handle o.error_handler fault) (λ _. done o)

-- if let Some(flag) = on_end_restart.take()
abbrev pub continue_on_end : Amendments → ℕ → Option ℕ → Original → Interaction Original
continue_on_end am now None o = done o
continue_on_end am now (Some flag) o = bind (launch am now (record o { on_end_restart = None })) (after_restart flag)

abbrev pub end_wait : Amendments → ℕ → Original → Interaction Original
end_wait am now o = let raised = raise_on_end (erase_timer o.stop_timer o) in continue_on_end am now raised.on_end_restart raised

abbrev pub after_wait : Amendments → ℕ → ℕ → Original → Result (Option ProcessEnd) Fault → Interaction Original
after_wait am started now o (Ok None) = done o
after_wait am started now o (Ok (Some status)) = bind (reclaim (record o { command_state = Finished status started now })) (end_wait am now)
after_wait am started now o (Err fault) = bind (handle o.error_handler fault) (λ _. done o)

abbrev pub wait_branch : Amendments → CommandState → ℕ → Original → Interaction Original
wait_branch am (Running child started) now o = bind (call (to_host (Calls.poll child))) (after_wait am started now o)
wait_branch am state now o = done o

-- try_grant_foreground: `own` is getpgrp()
abbrev pub grants_from : ℕ → ℕ → Option ℕ → Bool
grants_from own pgrp None = false
grants_from own pgrp (Some owner) = owner == own || owner == pgrp

abbrev pub acquire_if : Bool → ℕ → Original → Interaction Original
acquire_if false pgrp o = done o
acquire_if true pgrp o = bind (call (to_terminal (Calls.acquire pgrp))) (λ a. done (record o { foreground_grant = is_ok a || o.foreground_grant }))

abbrev pub grant_if : Bool → ℕ → ℕ → Original → Interaction Original
grant_if false own pgrp o = done o
grant_if true own pgrp o = bind (call (to_terminal Calls.owner)) (λ owner. acquire_if (grants_from own pgrp owner) pgrp o)

abbrev pub wants_grant : Command → Bool
wants_grant command = command.options.grant_foreground && command.options.grouped && not command.options.session

-- handle_pause_event
abbrev pub continue_group : ℕ → ℕ → Original → Interaction Original
continue_group pgrp signal o = bind (call (to_host (Calls.cont pgrp))) (λ a. done (record o { paused = if is_ok a then None else Some signal }))

abbrev pub tty_denied : Bool → ℕ → ℕ → ℕ → Original → Interaction Original
tty_denied false own pgrp signal o = done (record o { paused = Some signal })
tty_denied true own pgrp signal o = bind (grant_if (not o.foreground_grant) own pgrp o) (continue_group pgrp signal)

abbrev pub handle_pause_event : ℕ → ℕ → ℕ → Original → Interaction Original
handle_pause_event own pgrp signal o =
    if signal == 18 then grant_if (wants_grant o.command && not o.foreground_grant) own pgrp (record o { paused = None })
    else if signal == 21 || signal == 22 then tty_denied (wants_grant o.command) own pgrp signal o
    else bind (release_if o.foreground_grant o) (λ o₁. done (record o₁ { paused = Some signal }))

abbrev pub pause_branch : CommandState → List ℕ → ℕ → Original → Interaction Original
pause_branch (Running child started) (signal ∷ rest) own o = handle_pause_event own child signal (record o { pause_rx = rest })
pause_branch state signals own o = done o

-- a turn of the loop, by the branch that is opened
abbrev pub branch : Amendments → StepKind → ℕ → ℕ → Original → Interaction Original
branch am Kinds.Control own now o = control_branch am now (recv am now o) o
branch am Kinds.Child own now o = wait_branch am o.command_state now o
branch am Kinds.Pause own now o = pause_branch o.command_state o.pause_rx own o

-- THE HANDLE: send_controls, each control with a new flag, and the watcher's notice of a pause

abbrev pub enqueue : Priority → Message → Original → Original
enqueue Normal m o = record o { normal = o.normal ++ m ∷ [] }
enqueue High m o = record o { high = o.high ++ m ∷ [] }
enqueue Urgent m o = record o { urgent = o.urgent ++ m ∷ [] }

abbrev pub prepare : Priority → Control → Original → Original
prepare p control o = let flag = o.flags + 1 in enqueue p (record { control = control; flag = flag }) (record o { flags = flag })

abbrev pub send_all : Priority → List Control → Original → Original
send_all p [] o = o
send_all p (c ∷ cs) o = send_all p cs (prepare p c o)

abbrev pub send_controls : Priority → List Control → Original → Original
send_controls p cs o = if o.gone then o else send_all p cs o

abbrev pub send : Send → Original → Original
send (Sends.Control control) o = send_controls Normal (control ∷ []) o
send Sends.Start o = send_controls Normal (Start ∷ []) o
send Sends.Stop o = send_controls Normal (Stop ∷ []) o
send (Sends.StopWithSignal signal grace) o = send_controls Normal (GracefulStop signal grace ∷ []) o
send Sends.Restart o = send_controls Normal (Stop ∷ Start ∷ []) o
send (Sends.RestartWithSignal signal grace) o = send_controls Normal (GracefulStop signal grace ∷ Start ∷ []) o
send Sends.TryRestart o = send_controls Normal (TryRestart ∷ []) o
send (Sends.TryRestartWithSignal signal grace) o = send_controls Normal (TryGracefulRestart signal grace ∷ []) o
send (Sends.Signal signal) o = send_controls Normal (Signal signal ∷ []) o
send Sends.Delete o = send_controls Normal (Stop ∷ Delete ∷ []) o
send Sends.DeleteNow o = send_controls Urgent (Stop ∷ Delete ∷ []) o
send Sends.ToWait o = send_controls High (NextEnding ∷ []) o

abbrev pub notice : ℕ → Original → Original
notice signal o = record o { pause_rx = o.pause_rx ++ signal ∷ [] }

-- A FRESH ONE

abbrev pub fresh_original : Command → Original
fresh_original command = record {
  command = command;
  normal = [];
  high = [];
  urgent = [];
  pause_rx = [];
  error_handler = None;
  spawn_hook = None;
  spawner = 0;
  command_state = Pending;
  previous_run = None;
  stop_timer = None;
  on_end = [];
  on_end_restart = None;
  foreground_grant = false;
  pause_watch = false;
  paused = None;
  flags = 0;
  raised = [];
  gone = false;
}
