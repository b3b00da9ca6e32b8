-- The numbers of the values that calls answer.
use Rattle.std.specs.Prelude.{ℕ}
use Rattle.std.specs.Int.{from_bool}
use Rattle.supervisor.specs.Answers.{progress_number}
use Rattle.drive.specs.declared.calls.Value.{Value}
use Rattle.drive.specs.declared.calls.Value.TheVariants.{Ticket, Progress, IsDone, Nothing}

-- a ticket its serial, a step's progress 0, 1 or 2, a ticket that is done 1, else 0
abbrev pub value_number : Value → ℕ
value_number (Ticket ticket) = ticket.serial
value_number (Progress progress) = progress_number progress
value_number (IsDone done) = from_bool done
value_number Nothing = 0

-- the ticket with this serial
abbrev pub ticket_value : ℕ → Value
ticket_value serial = Ticket (record { serial = serial })
