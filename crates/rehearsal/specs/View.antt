-- What a rehearsal holds and has done, as the definitions speak of it.
use Rattle.std.specs.Prelude.{[], Result, take}
use Rattle.hosts.specs.Simulated as Simulated
use Rattle.foreground.specs.Absent as Absent
use Rattle.supervisor.specs.declared.errors.Refusal.{Refusal}
use Rattle.supervisor.specs.Steps.{job_view}
use Rattle.drive.specs.declared.calls.Done.{Done}
use Rattle.drive.specs.declared.calls.Value.{Value}
use Rattle.rehearsal.specs.declared.run.Rehearsal.{Rehearsal}
use Rattle.rehearsal.specs.Plays.{State, PlayEnd}

-- all but its sheet
abbrev pub state_of : Rehearsal → State
state_of r = record { job = job_view r.job; outside = record { host = Simulated.view r.host; terminal = Absent.book_of r.terminal } }

-- what was done, with the records that were written on the sheet
abbrev pub play_end : Done → Rehearsal → PlayEnd
play_end done r = record { answer = done.answer; records = take done.records r.sheet; state = state_of r }

-- what was answered without a record
abbrev pub answer_end : Result Value Refusal → Rehearsal → PlayEnd
answer_end result r = record { answer = result; records = []; state = state_of r }
