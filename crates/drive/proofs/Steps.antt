-- What a call of a run did.
use Rattle.std.proofs.Common.{◌≡◌, ◌+◌, ◌%◌, ◌^◌, List, [], ◌∷◌, arith, ℕ, ◌≤◌, true, is_ok, length, take, drop, Ok, Err, Result, refl}
use Rattle.std.proofs.lemmas.List.{take_at}
use Rattle.host.specs.Calls.{Event}
use Rattle.host.specs.Books.{HostBook, host_book_after, host_along, spawns_in}
use Rattle.host.specs.declared.process.Host as Host
use Rattle.host.specs.declared.terminal.Terminal as Terminal
use Rattle.host.specs.Interaction.{Interaction}
use Rattle.host.specs.Journal.{journal, spawns_among}
use Rattle.host.proofs.Spawns.{journal-spawns}
use Rattle.task.proofs.Sheets.{journal-length}
use Rattle.supervisor.specs.declared.answers.Stepped.{Stepped}
use Rattle.supervisor.specs.declared.errors.Refusal.{Refusal}
use Rattle.supervisor.specs.Job.{JobView, StepEnd, may_step}
use Rattle.supervisor.specs.Steps.{Moment, job_view, Steps, StepsOrRefuses}
use Rattle.drive.specs.declared.calls.Call.{Call}
use Rattle.drive.specs.declared.calls.Call.TheVariants.{Step}
use Rattle.drive.specs.declared.calls.Done.{Done}
use Rattle.drive.specs.Answers.{done_without, step_done}
use Rattle.drive.specs.Calls.{Makes, MakesStep}

-- the count of spawns of a host's book, along a trace
pub along_spawns : (b : HostBook) (p : List Event) → (host_along b p).spawns % 2 ^ 64 ≡ (b.spawns + spawns_in p) % 2 ^ 64
along_spawns b [] = omega arith
along_spawns b ((c, a) ∷ p) = grind (arith, along_spawns (host_book_after b c a) p)

-- the host's count of spawns grew by the starts tried
abbrev pub CountsSpawns : {H T : Type 0} → Host.Ghosts H → Moment H T → Done → Moment H T → Type 0
CountsSpawns by_host a d b = (by_host.book b.host).spawns % 2 ^ 64 ≡ ((by_host.book a.host).spawns + d.tally.tried) % 2 ^ 64

module _ {H T : Type 0} {by_host : Host.Ghosts H} {by_terminal : Terminal.Ghosts T} where
  -- the starts that a step tried are the spawns of its trace
  pub tried-spawns : {tree : Interaction StepEnd} {a b : Moment H T} {s : Stepped} (k : Steps by_host by_terminal tree a s b)
      → spawns_among (take s.records b.sheet) ≡ spawns_in k.conducts.trace
  tried-spawns {a = a} k =
      let p = k.conducts.trace in
      cc (take_at (journal p) (drop (length p) a.sheet) (length p) (journal-length p), journal-spawns p, k.conducts.count, k.conducts.sheet)

  -- what holds of a step: it was refused and changed nothing, or accepted
  pub step_cases : {tree : ℕ → JobView → Interaction StepEnd} {time : ℕ} {a b : Moment H T} {d : Done} (P : Done → Moment H T → Type 0)
      → ((r : Refusal) → may_step time (length a.sheet) (job_view a.job) ≡ Err r → P (done_without (Err r)) a)
      → ((s : Stepped) → may_step time (length a.sheet) (job_view a.job) ≡ Ok tt → Steps by_host by_terminal (tree time (job_view a.job)) a s b
      → P (step_done (Ok s) b.sheet) b) → MakesStep by_host by_terminal tree time a d b → P d b
  step_cases {tree} {time} {a} {b} {d} P refused accepted made = by made.answer made.step made.does
    where
      by : (r : Result Stepped Refusal) → StepsOrRefuses by_host by_terminal tree time a r b → d ≡ step_done r b.sheet → P d b
      by (Ok s) h e = rw e (accepted s h.0 h.1)
      by (Err r) h e = rw (e, h.1) (refused r h.0)

  -- a step that was granted is an accepted one
  pub accepted : {tree : ℕ → JobView → Interaction StepEnd} {time : ℕ} {a b : Moment H T} {d : Done} → MakesStep by_host by_terminal tree time a d b
      → is_ok d.answer ≡ true → (s : Stepped) × (may_step time (length a.sheet) (job_view a.job) ≡ Ok tt) × Steps by_host by_terminal
      (tree time (job_view a.job)) a s b × (d ≡ step_done (Ok s) b.sheet)
  accepted {tree} {time} {a} made k =
      step_cases (λ d b. is_ok d.answer ≡ true → (s : Stepped) × (may_step time (length a.sheet) (job_view a.job) ≡ Ok tt) × Steps by_host by_terminal
      (tree time (job_view a.job)) a s b × (d ≡ step_done (Ok s) b.sheet)) (λ r may k. cc k) (λ s may step k. (s, may, step, refl)) made k

module _ {H T : Type 0} (by_host : Host.Ghosts H) (by_terminal : Terminal.Ghosts T) (a : Moment H T) where
  -- a call tries at most one start, and takes at most one order
  pub makes_few : (c : Call) (d : Done) (b : Moment H T) → Makes by_host by_terminal c a d b → (d.tally.tried ≤ 1) × (d.tally.ordered ≤ 1)
  makes_few (Step kind time) d b r = step_cases (λ d b. (d.tally.tried ≤ 1) × (d.tally.ordered ≤ 1)) (λ r may. grind arith)
      (λ s may k. grind (arith, tried-spawns k, k.starts)) r
  makes_few c d b r = grind arith

  pub makes-spawns : (c : Call) (d : Done) (b : Moment H T) → Makes by_host by_terminal c a d b → CountsSpawns by_host a d b
  makes-spawns (Step kind time) d b r = step_cases (CountsSpawns by_host a) (λ r may. grind arith)
      (λ s may k. grind (arith, k.host_book, along_spawns (by_host.book a.host) k.conducts.trace, tried-spawns k)) r
  makes-spawns c d b r = grind arith
