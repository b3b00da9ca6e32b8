-- The numbers of the refusals.
use Rattle.std.specs.Prelude.{ℕ}
use Rattle.supervisor.specs.declared.errors.Refusal.{Refusal}
use Rattle.supervisor.specs.declared.errors.Refusal.TheVariants.{Closed, Sheet, Clock, Signal, Grace, Number, Queue, Tickets, Unwatched, Pauses, Unknown, Waiting, Line}

abbrev pub refusal_number : Refusal → ℕ
refusal_number Closed = 1
refusal_number Sheet = 2
refusal_number Clock = 3
refusal_number Signal = 4
refusal_number Grace = 5
refusal_number Number = 6
refusal_number Queue = 7
refusal_number Tickets = 8
refusal_number Unwatched = 9
refusal_number Pauses = 10
refusal_number Unknown = 11
refusal_number Waiting = 12
refusal_number Line = 13
