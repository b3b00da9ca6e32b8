-- Interaction trees that are run in a step, through what is lent to it.
use Rattle.std.specs.Prelude.{◌≡◌, ℕ, ◌+◌, ◌≤◌, List, slice_set}
use Rattle.host.specs.declared.journal.Record.{Record}
use Rattle.host.specs.declared.process.Host as Host
use Rattle.host.specs.declared.terminal.Terminal as Terminal
use Rattle.host.specs.Calls.{HostCall, HostReply, TerminalCall, TerminalReply, Call, to_host, to_terminal, Reply, Event}
use Rattle.host.specs.Interaction.{Interaction, Traces, World, world, IsAnswered}
use Rattle.host.specs.Journal.{record_of}
use Rattle.task.specs.declared.step.Step.{Step}
use Rattle.task.specs.Task.{TaskView}
use Rattle.task.specs.View.{task_view}

-- the sheet has room for n records more
abbrev pub HasRoom : {H T : Type 0} → ℕ → Step H T → Type 0
HasRoom n s = s.used + n ≤ 8

-- the task of a step
abbrev pub task_of : {H T : Type 0} → Step H T → TaskView
task_of s = task_view s.task.now

-- a host and a terminal with the sheet that their calls are recorded on; the next record goes to the place `used`
pub record StepWorld (H T : Type 0) : Type 0 where
  pub host : H
  pub terminal : T
  pub sheet : List Record
  pub used : ℕ

-- what a step's host, terminal and sheet hold
abbrev pub step_world : {H T : Type 0} → Step H T → StepWorld H T
step_world s = record { host = s.host.now; terminal = s.terminal.now; sheet = s.sheet.now; used = s.used }

abbrev pub world_in : {H T : Type 0} → StepWorld H T → World H T
world_in s = world s.host s.terminal

-- the call is answered, and recorded with its answer in the next place of the sheet
abbrev pub IsRecorded : {H T : Type 0} (by_host : Host.Ghosts H) (by_terminal : Terminal.Ghosts T) → StepWorld H T → (c : Call) → Reply c → StepWorld H T
    → Type 0
IsRecorded by_host by_terminal s c a m =
    IsAnswered by_host by_terminal (world_in s) c a (world_in m) × (m.sheet ≡ slice_set s.sheet s.used (record_of c a)) × (m.used ≡ s.used + 1)

-- the same things are lent, at the same time
pub record LendsSame {H T : Type 0} (s s' : Step H T) : Type 0 where
  pub task : s'.task.ghost_name ≡ s.task.ghost_name
  pub host : s'.host.ghost_name ≡ s.host.ghost_name
  pub terminal : s'.terminal.ghost_name ≡ s.terminal.ghost_name
  pub sheet : s'.sheet.ghost_name ≡ s.sheet.ghost_name
  pub time : s'.time ≡ s.time

-- The tree t was run from s to s' and ended with x, with at most `most` calls.
pub record Performs {H T A : Type 0} (by_host : Host.Ghosts H) (by_terminal : Terminal.Ghosts T) (most : ℕ) (t : Interaction A) (s : Step H T) (x : A)
    (s' : Step H T) : Type 0 where
  pub trace : List Event
  pub traces : Traces (IsRecorded by_host by_terminal) t (step_world s) trace x (step_world s')
  pub used : s'.used ≤ s.used + most
  pub same : LendsSame s s'

-- a tree over the task, which leaves another task and ends with x
abbrev pub PerformsPart : {H T A : Type 0} (by_host : Host.Ghosts H) (by_terminal : Terminal.Ghosts T) → ℕ → (TaskView → Interaction (TaskView × A)) → Step H T
    → A → Step H T → Type 0
PerformsPart by_host by_terminal most part s x s' = Performs by_host by_terminal most (part (task_of s)) s (task_of s', x) s'

-- and one that ends with the task alone
abbrev pub PerformsChange : {H T : Type 0} (by_host : Host.Ghosts H) (by_terminal : Terminal.Ghosts T) → ℕ → (TaskView → Interaction TaskView) → Step H T
    → Step H T → Type 0
PerformsChange by_host by_terminal most change s s' = Performs by_host by_terminal most (change (task_of s)) s (task_of s') s'

-- the call was made and answered a, and the task is as it was
pub record Asks {H T : Type 0} (by_host : Host.Ghosts H) (by_terminal : Terminal.Ghosts T) (c : Call) (s : Step H T) (a : Reply c) (s' : Step H T) : Type 0
  where
    pub recorded : IsRecorded by_host by_terminal (step_world s) c a (step_world s')
    pub task : s'.task.now ≡ s.task.now
    pub same : LendsSame s s'

abbrev pub AsksHost : {H T : Type 0} (by_host : Host.Ghosts H) (by_terminal : Terminal.Ghosts T) (c : HostCall) → Step H T → HostReply c → Step H T → Type 0
AsksHost by_host by_terminal c s a s' = Asks by_host by_terminal (to_host c) s a s'

abbrev pub AsksTerminal : {H T : Type 0} (by_host : Host.Ghosts H) (by_terminal : Terminal.Ghosts T) (c : TerminalCall) → Step H T → TerminalReply c → Step H T
    → Type 0
AsksTerminal by_host by_terminal c s a s' = Asks by_host by_terminal (to_terminal c) s a s'

-- the record was written in the next place of the sheet; nothing else changed
pub record Records {H T : Type 0} (r : Record) (s s' : Step H T) : Type 0 where
  pub sheet : s'.sheet.now ≡ slice_set s.sheet.now s.used r
  pub used : s'.used ≡ s.used + 1
  pub task : s'.task ≡ s.task
  pub host : s'.host ≡ s.host
  pub terminal : s'.terminal ≡ s.terminal
  pub same_sheet : s'.sheet.ghost_name ≡ s.sheet.ghost_name
  pub time : s'.time ≡ s.time
