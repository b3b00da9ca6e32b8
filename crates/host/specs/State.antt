-- The questions that a command's state answers, and what is kept of a run when the state is reset.
use Rattle.std.specs.Prelude.{ℕ, Bool, true, false}
use Rattle.host.specs.declared.state.ProcessEnd.TheVariants.{Continued}
use Rattle.host.specs.declared.state.CommandState.{CommandState}
use Rattle.host.specs.declared.state.CommandState.TheVariants.{Pending, Running, Finished}

abbrev pub is_pending : CommandState → Bool
is_pending Pending = true
is_pending state = false

abbrev pub is_running : CommandState → Bool
is_running (Running child started) = true
is_running state = false

abbrev pub is_finished : CommandState → Bool
is_finished (Finished end started finished) = true
is_finished state = false

-- a run that still goes is kept as ended by Continued at this time
abbrev pub kept_run : ℕ → CommandState → CommandState
kept_run time (Running child started) = Finished Continued started time
kept_run time state = state
