-- From the run of a step's tree to its contract.
use Rattle.std.proofs.Common.{◌≡◌, ℕ, false, length, Ok, arith}
use Rattle.std.proofs.lemmas.Grind.{common_steps}
use Rattle.host.specs.declared.process.Host as Host
use Rattle.host.specs.declared.terminal.Terminal as Terminal
use Rattle.host.specs.Interaction.{IsAnswered}
use Rattle.host.proofs.Spawns.{journal-spawns}
use Rattle.task.specs.Conducts.{Conducts}
use Rattle.task.proofs.Traced.{after, fitting_host, fitting_terminal, fitting}
use Rattle.supervisor.specs.declared.answers.StepKind.{StepKind}
use Rattle.supervisor.specs.declared.answers.Stepped.{Stepped}
use Rattle.supervisor.specs.Job.{JobView, may_step, tree_of}
use Rattle.supervisor.specs.Steps.{Moment, job_view, world_at, step_end, Steps, StepsOrRefuses}
use Rattle.supervisor.proofs.Books.{HostKept, TerminalKept, host_goes, terminal_goes}
use Rattle.supervisor.proofs.Ways.{Way, step_fits, way_traced}

-- no step of a closed job is accepted
pub not_closed : (time places : ℕ) (v : JobView) → may_step time places v ≡ Ok tt → v.closed ≡ false
not_closed time places v e = grind (arith, common_steps)

module _ {H T : Type 0} {by_host : Host.Ghosts H} {by_terminal : Terminal.Ghosts T} where
  -- a step that is not refused is accepted, once its tree was run
  pub accepted : HostKept by_host → TerminalKept by_terminal → (kind : StepKind) (own time : ℕ) {a b : Moment H T} {s : Stepped}
      → may_step time (length a.sheet) (job_view a.job) ≡ Ok tt → Conducts by_host by_terminal (tree_of kind own time (job_view a.job)) (world_at a) a.sheet
      (step_end b.job s) s.records (world_at b) b.sheet → StepsOrRefuses by_host by_terminal (tree_of kind own) time a (Ok s) b
  accepted host_keeps terminal_keeps kind own time {a} {b} {s} may r =
      let v = job_view a.job in
      let tree = tree_of kind own time v in
      let way = way_traced time v (IsAnswered by_host by_terminal) kind own a.job.granted _ _ r.trace _ r.traces _ _ (fitting v.task) in
      let fits = step_fits time v kind _ _ (not_closed time (length a.sheet) v may) way in (
        may,
        record {
          conducts = r;
          host_book = host_goes by_host by_terminal host_keeps tree _ _ r.trace _ r.traces;
          terminal_book = terminal_goes by_host by_terminal terminal_keeps tree _ _ r.trace _ r.traces;
          starts = omega (arith, fits.few, journal-spawns r.trace);
        },
      )

  -- what an accepted step was
  pub way_of : (kind : StepKind) (own time : ℕ) (a b : Moment H T) (s : Stepped)
      → (k : Steps by_host by_terminal (tree_of kind own time (job_view a.job)) a s b) → let t = (job_view a.job).task in
      Way time (job_view a.job) kind (after (fitting_host t) (fitting_terminal t) k.conducts.trace) (step_end b.job s)
  way_of kind own time a b s k =
      let v = job_view a.job in
      way_traced time v (IsAnswered by_host by_terminal) kind own a.job.granted _ _ k.conducts.trace _ k.conducts.traces _ _ (fitting v.task)
