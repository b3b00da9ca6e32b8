-- The sends: which controls each sends to which queue, and what controls may carry.
use Rattle.std.specs.Prelude.{ℕ, if◌then◌else◌, List, [], ◌∷◌, ◌++◌, Ok, Err, Result, ◌==◌, nat_le, ⊤}
use Rattle.std.specs.Option.{option_to_list}
use Rattle.std.specs.Result.{result_and}
use Rattle.task.specs.declared.messages.Control.{Control}
use Rattle.task.specs.declared.messages.Control.TheVariants as Controls
use Rattle.supervisor.specs.declared.errors.Refusal.{Refusal}
use Rattle.supervisor.specs.declared.errors.Refusal.TheVariants as Refusals
use Rattle.supervisor.specs.declared.queues.Priority.{Priority}
use Rattle.supervisor.specs.declared.queues.Priority.TheVariants.{Normal, High, Urgent}
use Rattle.supervisor.specs.declared.sends.Send.{Send}
use Rattle.supervisor.specs.declared.sends.Send.TheVariants as Sends
use Rattle.supervisor.specs.declared.sends.Controls as Sent

-- who waits for the child's end is not kept waiting by the controls that came before, and who deletes at once goes ahead of all
abbrev pub priority_of : Send → Priority
priority_of Sends.DeleteNow = Urgent
priority_of Sends.ToWait = High
priority_of s = Normal

-- the controls of a send, in order
abbrev pub controls_of : Send → List Control
controls_of (Sends.Control c) = c ∷ []
controls_of Sends.Start = Controls.Start ∷ []
controls_of Sends.Stop = Controls.Stop ∷ []
controls_of (Sends.StopWithSignal signal grace) = Controls.GracefulStop signal grace ∷ []
controls_of Sends.Restart = Controls.Stop ∷ Controls.Start ∷ []
controls_of (Sends.RestartWithSignal signal grace) = Controls.GracefulStop signal grace ∷ Controls.Start ∷ []
controls_of Sends.TryRestart = Controls.TryRestart ∷ []
controls_of (Sends.TryRestartWithSignal signal grace) = Controls.TryGracefulRestart signal grace ∷ []
controls_of (Sends.Signal signal) = Controls.Signal signal ∷ []
controls_of Sends.Delete = Controls.Stop ∷ Controls.Delete ∷ []
controls_of Sends.DeleteNow = Controls.Stop ∷ Controls.Delete ∷ []
controls_of Sends.ToWait = Controls.NextEnding ∷ []

-- the controls of a send, as a list: the one before the last, if there are two, and the last
abbrev pub list_of : Sent.Controls → List Control
list_of cs = option_to_list cs.before ++ cs.last ∷ []

-- WHAT CONTROLS MAY CARRY: a signal of at most 31, a grace of at most a day, a number that is not 0

abbrev pub signal_fits : ℕ → Result ⊤ Refusal
signal_fits signal = if nat_le signal 31 then Ok tt else Err Refusals.Signal

abbrev pub grace_fits : ℕ → Result ⊤ Refusal
grace_fits grace = if nat_le grace 86400000 then Ok tt else Err Refusals.Grace

abbrev pub number_fits : ℕ → Result ⊤ Refusal
number_fits number = if number == 0 then Err Refusals.Number else Ok tt

abbrev pub fits : Control → Result ⊤ Refusal
fits (Controls.GracefulStop signal grace) = result_and (signal_fits signal) (grace_fits grace)
fits (Controls.TryGracefulRestart signal grace) = result_and (signal_fits signal) (grace_fits grace)
fits (Controls.Signal signal) = signal_fits signal
fits (Controls.Func number) = number_fits number
fits (Controls.SetErrorHandler number) = number_fits number
fits (Controls.SetSpawnHook number) = number_fits number
fits (Controls.SetSpawnFn number) = number_fits number
fits c = Ok tt

-- each of them, or the first refusal
abbrev pub all_fit : List Control → Result ⊤ Refusal
all_fit [] = Ok tt
all_fit (c ∷ cs) = result_and (fits c) (all_fit cs)
