-- What a step did, and the numbers of it.
use Rattle.std.specs.Prelude.{ℕ, if◌then◌else◌, is_some, Option}
use Rattle.task.specs.Task.{closes}
use Rattle.task.specs.declared.task.Outcome.{Outcome}
use Rattle.task.specs.declared.task.PollOutcome.{PollOutcome}
use Rattle.task.specs.declared.task.PollOutcome.TheVariants as Polls
use Rattle.supervisor.specs.declared.answers.Progress.{Progress}
use Rattle.supervisor.specs.declared.answers.Progress.TheVariants.{Idle, Handled, Closed}

abbrev pub progress_number : Progress → ℕ
progress_number Idle = 0
progress_number Handled = 1
progress_number Closed = 2

abbrev pub control_progress : Outcome → Progress
control_progress o = if closes o then Closed else Handled

-- a poll that found nothing to do is idle, any other is handled
abbrev pub poll_progress : PollOutcome → Progress
poll_progress Polls.Idle = Idle
poll_progress outcome = Handled

-- a pause step is handled if it took a signal
abbrev pub pause_progress : Option ℕ → Progress
pause_progress taken = if is_some taken then Handled else Idle
