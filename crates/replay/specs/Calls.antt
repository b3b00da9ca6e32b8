-- What a call of a script does to the job, its host, its terminal and the sheet.
use Rattle.std.specs.Prelude.{◌≡◌, ◌⊎◌, ℕ, ℤ, List, ◌++◌, slice_get, take, Vec, Option, Some, None, Ok}
use Rattle.std.specs.Str.{chars}
use Rattle.std.specs.declared.alloc.Global.{Global}
use Rattle.host.specs.declared.process.Host as Host
use Rattle.host.specs.declared.terminal.Terminal as Terminal
use Rattle.hosts.specs.declared.prepared.PreparedHost.{PreparedHost}
use Rattle.hosts.specs.Prepared as Prepared
use Rattle.foreground.specs.declared.simulated.SimulatedTerminal.{SimulatedTerminal}
use Rattle.foreground.specs.Simulated as Simulated
use Rattle.supervisor.specs.Steps.{Moment}
use Rattle.drive.specs.declared.calls.Value.TheVariants.{Nothing}
use Rattle.drive.specs.declared.calls.Call.{Call}
use Rattle.drive.specs.declared.calls.Done.{Done}
use Rattle.drive.specs.Answers.{done_without}
use Rattle.drive.specs.Calls.{Makes}
use Rattle.rehearsal.specs.Printed.{line_text}
use Rattle.replay.specs.declared.line.Line.{Line}
use Rattle.replay.specs.declared.line.Line as Lines
use Rattle.replay.specs.declared.run.Run.{Run}
use Rattle.replay.specs.Terminals.{OnlyGroups}

abbrev pub moment : Run → Moment (PreparedHost (Vec ℤ Global)) SimulatedTerminal
moment r = record { job = r.job; host = r.host; terminal = r.session.terminal; sheet = r.sheet }

abbrev pub by_prepared : Host.Ghosts (PreparedHost (Vec ℤ Global))
by_prepared = record { most = 1; book = λ h. Prepared.book_of (Prepared.view (λ v. v.items) h); did = Prepared.Did (λ v. v.items) }

abbrev pub by_simulated : Terminal.Ghosts SimulatedTerminal
by_simulated = record { book = λ t. Simulated.book_of (Simulated.view t); did = Simulated.Did }

-- the call is made as every other one, on the host that answers from the script's sheet and on the script's terminal
abbrev pub Calls : Call → Run → Done → Run → Type 0
Calls call old done new = Makes by_prepared by_simulated call (moment old) done (moment new)

-- A line: behind a call only groups may join the session, and what is set of the terminal leaves the job, its host and the sheet.
-- Where there is no place for a group, nothing is answered.
abbrev pub Plays : Line → Run → Option Done → Run → Type 0
Plays (Lines.TheVariants.Call call) old answer new =
    (done : Done) × (called : Run) × (answer ≡ Some done) × Calls call old done called
    × OnlyGroups called.session new.session × (new ≡ record called { session = new.session })
Plays (Lines.TheVariants.Terminal setting) old answer new =
    ((answer ≡ None) ⊎ (answer ≡ Some (done_without (Ok Nothing)))) × (new ≡ record old { session = new.session })

-- what is printed of a line is its first character, what its call answered, and the records that it wrote
abbrev pub Adds : ℕ → List ℕ → Run → List ℕ → Run → List ℕ → Type 0
Adds number read old before new text =
    (line : Line) × (done : Done) × (letter : ℕ) × (slice_get (chars read) 0 ≡ Some letter) × Plays line old (Some done) new
    × (text ≡ before ++ line_text number letter done.answer (take done.records new.sheet))
