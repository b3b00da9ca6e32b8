-- What the lines of a script do, one after the other: each answers, writes records, and leaves a state.
use Rattle.std.specs.Prelude.{ℕ, ◌^◌, ◌%◌, false, if◌then◌else◌, ◌&&◌, List, [], Ok, Err, Result, nat_lt, ⊤}
use Rattle.host.specs.declared.journal.Record.{Record}
use Rattle.host.specs.declared.command.Command.{Command}
use Rattle.host.specs.Interaction.{Interaction}
use Rattle.host.specs.Journal.{journal}
use Rattle.hosts.specs.declared.child.Life.{Life}
use Rattle.hosts.specs.declared.child.Life.TheVariants.{Stopped, Ended}
use Rattle.hosts.specs.declared.child.End.TheVariants.{Exited}
use Rattle.hosts.specs.Children.{is_living, life_of}
use Rattle.hosts.specs.Simulated as Simulated
use Rattle.foreground.specs.Absent as Absent
use Rattle.supervisor.specs.declared.errors.Refusal.{Refusal}
use Rattle.supervisor.specs.declared.errors.Refusal.TheVariants.{Unknown}
use Rattle.supervisor.specs.Job as Job
use Rattle.supervisor.specs.Job.{JobView, StepEnd, may_step, tree_of}
use Rattle.drive.specs.declared.calls.Call.{Call}
use Rattle.drive.specs.declared.calls.Call as Calls
use Rattle.drive.specs.declared.calls.Value.{Value}
use Rattle.drive.specs.declared.calls.Value.TheVariants.{Progress, Nothing}
use Rattle.drive.specs.Calls.{known_ticket, send_value, look_value, pause_value, collect_value}
use Rattle.rehearsal.specs.declared.line.Line.{Line}
use Rattle.rehearsal.specs.declared.line.Line as Lines
use Rattle.rehearsal.specs.Trees.{Outside, run, Run}

-- STATES

-- the job, and what its host and its terminal hold
pub record State : Type 0 where
  pub job : JobView
  pub outside : Outside

-- a job that was just made, on a new host whose children ignore the signals of the mask's lower 32 bits, and a new terminal
abbrev pub new_state : ℕ → JobView → State
new_state mask job =
    record { job = job; outside = record { host = Simulated.fresh_host (mask % 2 ^ 32) job.task.command.options; terminal = Absent.fresh_book } }

-- a script begins with a job of the program 1 without options, and no signal is ignored
abbrev pub plain_command : Command
plain_command = record { program = 1; options = record { grouped = false; session = false; reset_sigmask = false; grant_foreground = false } }

abbrev pub beginning : State
beginning = new_state 0 (Job.fresh_job plain_command)

-- WHAT A LINE DOES

-- what it answers, the records that it writes, and the state that it leaves
pub record PlayEnd : Type 0 where
  pub answer : Result Value Refusal
  pub records : List Record
  pub state : State

-- an answer of the job that asks nothing outside
abbrev pub play_quietly : State → JobView × Result Value Refusal → PlayEnd
play_quietly s x = record { answer = x.1; records = []; state = record s { job = x.0 } }

-- a step whose tree was run
abbrev pub play_run : Run StepEnd → PlayEnd
play_run r = record { answer = Ok (Progress r.value.progress); records = journal r.trace; state = record { job = r.value.view; outside = r.outside } }

-- a step of this tree, which may be made or is refused
abbrev pub play_step : State → Interaction StepEnd → Result ⊤ Refusal → PlayEnd
play_step s tree (Ok u) = play_run (run tree s.outside)
play_step s tree (Err refusal) = play_quietly s (s.job, Err refusal)

-- a call on the job; the sheet of a step has 8 places
abbrev pub play_call : State → Call → PlayEnd
play_call s (Calls.TheVariants.Send send) = play_quietly s (send_value send s.job)
play_call s (Calls.TheVariants.Step kind time) = play_step s (tree_of kind s.outside.terminal.own time s.job) (may_step time 8 s.job)
play_call s (Calls.TheVariants.Pause signal) = play_quietly s (pause_value signal s.job)
play_call s (Calls.TheVariants.Look ticket) = play_quietly s (s.job, look_value (known_ticket ticket) s.job)
play_call s (Calls.TheVariants.Collect ticket) = play_quietly s (collect_value (known_ticket ticket) s.job)

-- m: a job that is made takes the place of all that was; a refused one leaves it
abbrev pub make_job : State → ℕ → Result JobView Refusal → PlayEnd
make_job s mask (Ok job) = record { answer = Ok Nothing; records = []; state = new_state mask job }
make_job s mask (Err refusal) = play_quietly s (s.job, Err refusal)

-- w: a living child has another life; no child has a number of more than 32 bits
abbrev pub tell_event : State → ℕ → Life → PlayEnd
tell_event s child life =
    if nat_lt child (2 ^ 32) && is_living (life_of child s.outside.host.children)
    then record {
      answer = Ok Nothing;
      records = [];
      state = record s { outside = record s.outside { host = Simulated.make_happen child life s.outside.host } };
    }
    else play_quietly s (s.job, Err Unknown)

abbrev pub play : State → Line → PlayEnd
play s (Lines.TheVariants.Make options mask) = make_job s mask (Job.make 1 options)
play s (Lines.TheVariants.Call c) = play_call s c
play s (Lines.TheVariants.Exit child code) = tell_event s child (Ended (Exited code))
play s (Lines.TheVariants.Stop child) = tell_event s child Stopped
