-- Which controls order a start, which set a timer, and what a timer brings.
use Rattle.std.specs.Prelude.{Bool, true, false}
use Rattle.task.specs.declared.messages.Control.{Control}
use Rattle.task.specs.declared.messages.Control.TheVariants.{Start, GracefulStop, TryRestart, TryGracefulRestart, ContinueTryGracefulRestart}
use Rattle.task.specs.declared.messages.Control.TheVariants as Controls
use Rattle.task.specs.declared.messages.GraceEnd.{GraceEnd}
use Rattle.task.specs.declared.messages.GraceEnd.TheVariants.{Stop, Restart}

abbrev pub orders : Control → Bool
orders Start = true
orders TryRestart = true
orders (TryGracefulRestart s grace) = true
orders ContinueTryGracefulRestart = true
orders c = false

-- which controls set a timer, if a child runs
abbrev pub sets_timer : Control → Bool
sets_timer (GracefulStop s grace) = true
sets_timer (TryGracefulRestart s grace) = true
sets_timer c = false

-- the control of the timer of a grace that the child outlasts
abbrev pub control_at_end : GraceEnd → Control
control_at_end Stop = Controls.Stop
control_at_end Restart = ContinueTryGracefulRestart
