-- What one call of a run does to a job, its host, its terminal and the sheet.
use Rattle.std.specs.Prelude.{◌≡◌, ℕ, ◌^◌, if◌then◌else◌, Ok, Err, Result, nat_lt, ⊤}
use Rattle.std.specs.Result.{result_map_both}
use Rattle.host.specs.declared.process.Host as Host
use Rattle.host.specs.declared.terminal.Terminal as Terminal
use Rattle.host.specs.Interaction.{Interaction}
use Rattle.supervisor.specs.declared.errors.Refusal.{Refusal}
use Rattle.supervisor.specs.declared.errors.Refusal.TheVariants.{Unknown}
use Rattle.supervisor.specs.declared.answers.Stepped.{Stepped}
use Rattle.supervisor.specs.Job.{JobView, StepEnd, send, look, collect, pause, tree_of}
use Rattle.supervisor.specs.Steps.{Answers, Moment, job_view, StepsOrRefuses}
use Rattle.drive.specs.declared.calls.Call.{Call}
use Rattle.drive.specs.declared.calls.Call.TheVariants.{Step, Pause, Look, Collect}
use Rattle.drive.specs.declared.calls.Call.TheVariants as Calls
use Rattle.drive.specs.declared.calls.Value.{Value}
use Rattle.drive.specs.declared.calls.Value.TheVariants.{IsDone, Nothing}
use Rattle.drive.specs.Values.{ticket_value}
use Rattle.supervisor.specs.declared.sends.Send.{Send}
use Rattle.drive.specs.declared.calls.Done.{Done}
use Rattle.drive.specs.Answers.{done_without, step_done}

-- no ticket has a number of more than 32 bits
abbrev pub known_ticket : ℕ → Result ℕ Refusal
known_ticket ticket = if nat_lt ticket (2 ^ 32) then Ok ticket else Err Unknown

-- what is granted, as a value
abbrev pub as_value : {A : Type 0} → (A → Value) → Result A Refusal → Result Value Refusal
as_value f r = result_map_both f (λ refusal. refusal) r

abbrev pub send_value : Send → JobView → JobView × Result Value Refusal
send_value s v = let sent = send s v in (sent.0, as_value ticket_value sent.1)

-- the look at a ticket, if it is known
abbrev pub look_value : Result ℕ Refusal → JobView → Result Value Refusal
look_value (Ok ticket) v = as_value IsDone (look ticket v)
look_value (Err refusal) v = Err refusal

abbrev pub with_nothing : JobView × Result ⊤ Refusal → JobView × Result Value Refusal
with_nothing x = (x.0, as_value (λ _. Nothing) x.1)

abbrev pub pause_value : ℕ → JobView → JobView × Result Value Refusal
pause_value signal v = with_nothing (pause signal v)

-- the collect of a ticket, if it is known
abbrev pub collect_value : Result ℕ Refusal → JobView → JobView × Result Value Refusal
collect_value (Ok ticket) v = with_nothing (collect ticket v)
collect_value (Err refusal) v = (v, Err refusal)

module _ {H T : Type 0} (by_host : Host.Ghosts H) (by_terminal : Terminal.Ghosts T) where
  -- a call that asks nothing outside: the job answers it as f
  pub record AnswersAlone (f : JobView → JobView × Result Value Refusal) (a : Moment H T) (d : Done) (b : Moment H T) : Type 0 where
    pub answers : Answers f a.job d.answer b.job
    pub does : d ≡ done_without d.answer
    pub host : b.host ≡ a.host
    pub terminal : b.terminal ≡ a.terminal
    pub sheet : b.sheet ≡ a.sheet

  -- a step, by its own contract
  pub record MakesStep (tree : ℕ → JobView → Interaction StepEnd) (time : ℕ) (a : Moment H T) (d : Done) (b : Moment H T) : Type 0 where
    pub answer : Result Stepped Refusal
    pub step : StepsOrRefuses by_host by_terminal tree time a answer b
    pub does : d ≡ step_done answer b.sheet

  -- the call c leads from the moment a to the moment b and does d
  abbrev pub Makes : Call → Moment H T → Done → Moment H T → Type 0
  Makes (Calls.Send s) a d b = AnswersAlone (send_value s) a d b
  Makes (Step kind time) a d b = MakesStep (tree_of kind (by_terminal.book a.terminal).own) time a d b
  Makes (Pause signal) a d b = AnswersAlone (pause_value signal) a d b
  Makes (Look ticket) a d b = (d ≡ done_without (look_value (known_ticket ticket) (job_view a.job))) × (b ≡ a)
  Makes (Collect ticket) a d b = AnswersAlone (collect_value (known_ticket ticket)) a d b
