-- Eight worked cases, of the calls that a run makes.
use Rattle.std.specs.Prelude.{◌≡◌, ℕ, ◌+◌, ◌≤◌, true, false, not, is_ok, List, [], ◌∷◌, length, map, take, None, Ok, Err}
use Rattle.std.specs.List.{count_by, filter}
use Rattle.host.specs.declared.journal.CallKind.TheVariants.{Spawn, Wait, Kill}
use Rattle.host.specs.declared.journal.Record.{Record}
use Rattle.host.specs.declared.process.Host as Host
use Rattle.host.specs.declared.terminal.Terminal as Terminal
use Rattle.host.specs.Journal.{is_decisive, is_failure, reports_end}
use Rattle.host.specs.State.{is_running}
use Rattle.supervisor.specs.declared.answers.StepKind.{StepKind}
use Rattle.supervisor.specs.declared.answers.StepKind.TheVariants as Kinds
use Rattle.supervisor.specs.declared.errors.Refusal.TheVariants.{Sheet, Clock, Grace, Queue}
use Rattle.supervisor.specs.declared.queues.Priority.TheVariants.{Normal}
use Rattle.supervisor.specs.declared.sends.Send.TheVariants as Sends
use Rattle.supervisor.specs.declared.timer.Timer.{Timer}
use Rattle.supervisor.specs.Job.{look}
use Rattle.supervisor.specs.Laws.{Pends}
use Rattle.supervisor.specs.Mailbox.{has_room}
use Rattle.supervisor.specs.Steps.{Moment}
use Rattle.drive.specs.declared.calls.Call.TheVariants.{Send, Step}
use Rattle.drive.specs.Values.{ticket_value}
use Rattle.drive.specs.declared.calls.Done.{Done}
use Rattle.drive.specs.Calls.{Makes}
use Rattle.drive.specs.Laws.{job_at}
use Rattle.drive.specs.Restarts.{RestartPends}

-- the records that a call wrote
abbrev pub records : {H T : Type 0} → Done → Moment H T → List Record
records d b = take d.records b.sheet

pub record MeetsCases {H T : Type 0} (by_host : Host.Ghosts H) (by_terminal : Terminal.Ghosts T) : Type 0 where
  -- a grace of 86,400,001 is refused with 5, and one less passes
  pub grace : (signal : ℕ) (a : Moment H T) (d : Done) (b : Moment H T) → (job_at a).closed ≡ false → signal ≤ 31
      → Makes by_host by_terminal (Send (Sends.StopWithSignal signal 86400001)) a d b → d.answer ≡ Err Grace
  pub day : (signal : ℕ) (a : Moment H T) (d : Done) (b : Moment H T) → signal ≤ 31 → has_room Normal 1 (job_at a).mailbox ≡ Ok tt
      → Makes by_host by_terminal (Send (Sends.StopWithSignal signal 86400000)) a d b → is_ok d.answer ≡ true
  -- a sheet of 7 is refused with 2, and one of 8 passes
  pub seven : (kind : StepKind) (now : ℕ) (a : Moment H T) (d : Done) (b : Moment H T) → (job_at a).closed ≡ false → length a.sheet ≡ 7
      → Makes by_host by_terminal (Step kind now) a d b → d.answer ≡ Err Sheet
  pub eight : (kind : StepKind) (now : ℕ) (a : Moment H T) (d : Done) (b : Moment H T) → (job_at a).closed ≡ false → length a.sheet ≡ 8 → now ≡ (job_at a).clock
      → Makes by_host by_terminal (Step kind now) a d b → is_ok d.answer ≡ true
  -- a time one less than the last accepted step's is refused with 3, and an equal one passes
  pub earlier : (kind : StepKind) (now : ℕ) (a : Moment H T) (d : Done) (b : Moment H T) → (job_at a).closed ≡ false → 8 ≤ length a.sheet
      → now + 1 ≡ (job_at a).clock → Makes by_host by_terminal (Step kind now) a d b → d.answer ≡ Err Clock
  pub equal : (kind : StepKind) (now : ℕ) (a : Moment H T) (d : Done) (b : Moment H T) → (job_at a).closed ≡ false → 8 ≤ length a.sheet → now ≡ (job_at a).clock
      → Makes by_host by_terminal (Step kind now) a d b → is_ok d.answer ≡ true
  -- `restart` with 127 normal messages waiting is refused with 7, and adds none
  pub full : (a : Moment H T) (d : Done) (b : Moment H T) → (job_at a).closed ≡ false → length (job_at a).mailbox.queues.normal ≡ 127
      → Makes by_host by_terminal (Send Sends.Restart) a d b → (d.answer ≡ Err Queue) × (b ≡ a)
  -- a deadline of 520 is not taken at 519; at 520 it is, before any urgent control
  pub not_yet : (t : Timer) (a : Moment H T) (d : Done) (b : Moment H T) → Pends t (job_at a) → t.deadline ≡ 520 → is_ok d.answer ≡ true
      → Makes by_host by_terminal (Step Kinds.Control 519) a d b → (job_at b).mailbox.timer ≡ (job_at a).mailbox.timer
  pub now_due : (t : Timer) (a : Moment H T) (d : Done) (b : Moment H T) → Pends t (job_at a) → t.deadline ≡ 520 → is_ok d.answer ≡ true
      → Makes by_host by_terminal (Step Kinds.Control 520) a d b → ((job_at b).mailbox.timer ≡ None)
      × ((job_at b).mailbox.queues.urgent ≡ (job_at a).mailbox.queues.urgent)
  -- `to_wait` waits on Running, and is raised on Pending and on Finished: its ticket after the step that takes it
  pub waits : (ticket now : ℕ) (a : Moment H T) (d : Done) (m : Moment H T) (e : Done) (b : Moment H T) → (job_at a).closed ≡ false
      → (job_at a).mailbox.timer ≡ None → (job_at a).mailbox.queues.urgent ≡ [] → (job_at a).mailbox.queues.high ≡ []
      → Makes by_host by_terminal (Send Sends.ToWait) a d m → d.answer ≡ Ok (ticket_value ticket) → Makes by_host by_terminal (Step Kinds.Control now) m e b
      → is_ok e.answer ≡ true → look ticket (job_at b) ≡ Ok (not (is_running (job_at a).task.state))
  -- a child that ends within a restart's grace leads to one start
  pub within : (t : Timer) (now : ℕ) (a : Moment H T) (d : Done) (b : Moment H T) → RestartPends t (job_at a) → 1 ≤ count_by reports_end (records d b)
      → Makes by_host by_terminal (Step Kinds.Child now) a d b → d.tally.tried ≡ 1
  -- past the deadline come kill, wait and spawn, and the next end starts nothing
  pub past : (t : Timer) (now : ℕ) (a : Moment H T) (d : Done) (b : Moment H T) → RestartPends t (job_at a) → t.deadline ≤ now
      → is_running (job_at a).task.state ≡ true → is_ok d.answer ≡ true → count_by is_failure (records d b) ≡ 0
      → Makes by_host by_terminal (Step Kinds.Control now) a d b → map (λ r. r.call) (filter is_decisive (records d b)) ≡ Kill ∷ Wait ∷ Spawn ∷ []
  pub next_end : (t : Timer) (now later : ℕ) (a : Moment H T) (d : Done) (m : Moment H T) (e : Done) (b : Moment H T) → RestartPends t (job_at a)
      → t.deadline ≤ now → is_ok d.answer ≡ true → Makes by_host by_terminal (Step Kinds.Control now) a d m → Makes by_host by_terminal (Step Kinds.Child later)
      m e b → e.tally.tried ≡ 0
