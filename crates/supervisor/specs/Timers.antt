-- The timer of a job: its message, and the restart memory.
use Rattle.std.specs.Prelude.{ℕ, if◌then◌else◌, Some, None, Option, is_some, nat_le}
use Rattle.std.specs.Int.{from_bool}
use Rattle.task.specs.Messages.{control_at_end}
use Rattle.task.specs.declared.messages.ControlMessage.{ControlMessage}
use Rattle.task.specs.declared.messages.GraceEnd.{GraceEnd}
use Rattle.task.specs.declared.messages.GraceEnd.TheVariants.{Stop, Restart}
use Rattle.supervisor.specs.declared.timer.Timer.{Timer}

-- the message of a timer: a restart is continued, or the child stopped
abbrev pub timer_message : Timer → ControlMessage
timer_message t = record { control = control_at_end t.end; ticket = t.ticket }

-- the timer's message, if there is a timer and its deadline has come
abbrev pub due_message : ℕ → Option Timer → Option ControlMessage
due_message time None = None
due_message time (Some t) = if nat_le t.deadline time then Some (timer_message t) else None

-- the restart memory: the ticket of the restart that the child's end continues
abbrev pub memory_of : GraceEnd → ℕ → Option ℕ
memory_of Restart ticket = Some ticket
memory_of Stop ticket = None

abbrev pub memory : Option Timer → Option ℕ
memory None = None
memory (Some t) = memory_of t.end t.ticket

-- the starts that are owed: that of a restart that is pending
abbrev pub owed_starts : Option Timer → ℕ
owed_starts t = from_bool (is_some (memory t))
