-- What a graceful restart comes to in a run.
use Rattle.std.specs.Prelude.{◌≡◌, ℕ, ◌≤◌, true, is_ok, List, ◌∷◌}
use Rattle.task.specs.declared.messages.GraceEnd.TheVariants.{Restart}
use Rattle.supervisor.specs.declared.answers.StepKind.TheVariants.{Control}
use Rattle.supervisor.specs.declared.timer.Timer.{Timer}
use Rattle.supervisor.specs.Job.{JobView}
use Rattle.supervisor.specs.Laws.{Pends}
use Rattle.supervisor.specs.Steps.{Moment}
use Rattle.drive.specs.declared.calls.Call.{Call}
use Rattle.drive.specs.declared.calls.Call.TheVariants.{Step}
use Rattle.drive.specs.Turns.{Turn, tried_in, ordered_in}
use Rattle.drive.specs.Laws.{job_at}

-- the restart that the timer t ends is pending
abbrev pub RestartPends : Timer → JobView → Type 0
RestartPends t v = Pends t v × (t.end ≡ Restart)

pub record KeepsRestartLaws {H T : Type 0} (calls : List Call) (a : Moment H T) (turns : List (Turn (Moment H T))) : Type 0 where
  -- A GRACEFUL RESTART LEADS TO AT MOST ONE START. While no other start is ordered, one is tried at most.
  pub once : (t : Timer) → RestartPends t (job_at a) → ordered_in turns ≡ 0 → tried_in turns ≤ 1
  -- AFTER THE FORCED RESTART THE NEXT END STARTS NOTHING. Once the step at its deadline was made, none but ordered starts are tried.
  pub forced : (t : Timer) (time : ℕ) (rest : List Call) (first : Turn (Moment H T)) (later : List (Turn (Moment H T))) → RestartPends t (job_at a)
      → t.deadline ≤ time → calls ≡ Step Control time ∷ rest → turns ≡ first ∷ later → is_ok first.did.answer ≡ true → tried_in later ≤ ordered_in later
