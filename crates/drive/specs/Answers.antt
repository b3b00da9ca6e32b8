-- What a call of a run did, by its answer and the sheet after it.
use Rattle.std.specs.Prelude.{ℕ, List, take, Ok, Err, Result}
use Rattle.std.specs.Int.{from_bool}
use Rattle.host.specs.declared.journal.Record.{Record}
use Rattle.supervisor.specs.declared.errors.Refusal.{Refusal}
use Rattle.supervisor.specs.declared.answers.Stepped.{Stepped}
use Rattle.host.specs.Journal.{spawns_among}
use Rattle.drive.specs.declared.calls.Value.{Value}
use Rattle.drive.specs.declared.calls.Value.TheVariants.{Progress}
use Rattle.drive.specs.declared.calls.Done.{Done}

abbrev pub done_with : Result Value Refusal → ℕ → ℕ → ℕ → Done
done_with answer records tried ordered = record { answer = answer; records = records; tally = record { tried = tried; ordered = ordered } }

-- no records were written, and nothing counts
abbrev pub done_without : Result Value Refusal → Done
done_without answer = done_with answer 0 0 0

-- what a step did, by its answer and the sheet after it
abbrev pub step_done : Result Stepped Refusal → List Record → Done
step_done (Ok s) sheet = done_with (Ok (Progress s.progress)) s.records (spawns_among (take s.records sheet)) (from_bool s.ordered)
step_done (Err r) sheet = done_without (Err r)
