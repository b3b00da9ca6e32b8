-- What a call leaves of a job, and what a step leaves of a job, its host, its terminal and the sheet.
use Rattle.std.specs.Result.{result_map_both}
use Rattle.std.specs.Prelude.{◌≡◌, ℕ, ◌≤◌, List, length, Ok, Err, Result, OnErr}
use Rattle.host.specs.declared.journal.Record.{Record}
use Rattle.host.specs.declared.process.Host as Host
use Rattle.host.specs.declared.terminal.Terminal as Terminal
use Rattle.host.specs.Interaction.{Interaction, World}
use Rattle.host.specs.Books.{host_along, terminal_along, spawns_in}
use Rattle.supervisor.specs.declared.errors.Refusal.{Refusal}
use Rattle.supervisor.specs.declared.answers.Stepped.{Stepped}
use Rattle.supervisor.specs.declared.job.Job.{Job}
use Rattle.tickets.specs.declared.ticket.Ticket.{Ticket}
use Rattle.task.specs.Conducts.{Conducts}
use Rattle.supervisor.specs.Job.{JobView, StepEnd, may_step}
use Rattle.task.specs.View.{task_view}
use Rattle.supervisor.specs.View.{mailbox_view}

abbrev pub job_view : Job → JobView
job_view j = record { closed = j.closed; task = task_view j.task; mailbox = mailbox_view j.mailbox; clock = j.clock }

-- a job that was made, as its view
abbrev pub view_made : Result Job Refusal → Result JobView Refusal
view_made r = result_map_both job_view (λ refusal. refusal) r

-- a send's answer, with the ticket by its serial
abbrev pub by_serial : Result Ticket Refusal → Result ℕ Refusal
by_serial r = result_map_both (λ ticket. ticket.serial) (λ refusal. refusal) r

-- The call f of the job j was answered r, and left the job j'; where it was refused nothing changed.
pub record Answers {A : Type 0} (f : JobView → JobView × Result A Refusal) (j : Job) (r : Result A Refusal) (j' : Job) : Type 0 where
  pub answer : (job_view j', r) ≡ f (job_view j)
  pub unchanged : OnErr r (j' ≡ j)

-- A job, its host, its terminal and the sheet, at one moment.
pub record Moment (H T : Type 0) : Type 0 where
  pub job : Job
  pub host : H
  pub terminal : T
  pub sheet : List Record

abbrev pub moment : {H T : Type 0} → Job → H → T → List Record → Moment H T
moment job host terminal sheet = record { job = job; host = host; terminal = terminal; sheet = sheet }

abbrev pub world_at : {H T : Type 0} → Moment H T → World H T
world_at a = record { host = a.host; terminal = a.terminal }

abbrev pub step_end : Job → Stepped → StepEnd
step_end j s = record { view = job_view j; progress = s.progress; ordered = s.ordered }

-- An accepted step led from the moment a to the moment b and answered s: the calls that were made, with their arguments and
-- answers, are a trace of its tree; the job is what the tree ends with; the sheet holds the trace's records from its first place
-- on, and behind them what it held; the books moved along the trace; at most one start was tried.
pub record Steps {H T : Type 0} (by_host : Host.Ghosts H) (by_terminal : Terminal.Ghosts T) (tree : Interaction StepEnd) (a : Moment H T) (s : Stepped)
    (b : Moment H T) : Type 0 where
  pub conducts : Conducts by_host by_terminal tree (world_at a) a.sheet (step_end b.job s) s.records (world_at b) b.sheet
  pub host_book : by_host.book b.host ≡ host_along (by_host.book a.host) conducts.trace
  pub terminal_book : by_terminal.book b.terminal ≡ terminal_along (by_terminal.book a.terminal) conducts.trace
  pub starts : spawns_in conducts.trace ≤ 1

-- a step is refused and changes nothing, or is accepted
abbrev pub StepsOrRefuses : {H T : Type 0} (by_host : Host.Ghosts H) (by_terminal : Terminal.Ghosts T) → (ℕ → JobView → Interaction StepEnd) → ℕ → Moment H T
    → Result Stepped Refusal → Moment H T → Type 0
StepsOrRefuses by_host by_terminal tree time a (Err r) b = (may_step time (length a.sheet) (job_view a.job) ≡ Err r) × (b ≡ a)
StepsOrRefuses by_host by_terminal tree time a (Ok s) b = (may_step time (length a.sheet) (job_view a.job) ≡ Ok tt) × Steps by_host by_terminal
    (tree time (job_view a.job)) a s b
