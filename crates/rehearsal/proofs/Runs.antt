-- What was done on the simulated host and the absent terminal is what the definitions run.
use Rattle.std.proofs.Common.{◌≡◌, ℕ, List, length, refl, Ok, Err, Result}
use Rattle.host.specs.Calls.{Call, to_host, to_terminal, Reply, Event}
use Rattle.host.specs.declared.process.Host as Host
use Rattle.host.specs.declared.terminal.Terminal as Terminal
use Rattle.host.specs.Interaction.{Interaction, done, ask, Traces, World, IsAnswered}
use Rattle.hosts.specs.declared.simulated.SimulatedHost.{SimulatedHost}
use Rattle.hosts.specs.Simulated as Simulated
use Rattle.foreground.specs.declared.absent.AbsentTerminal.{AbsentTerminal}
use Rattle.foreground.specs.Absent as Absent
use Rattle.task.proofs.Sheets.{records_are}
use Rattle.supervisor.specs.declared.errors.Refusal.{Refusal}
use Rattle.supervisor.specs.declared.answers.Stepped.{Stepped}
use Rattle.supervisor.specs.Job.{JobView, StepEnd, may_step, tree_of}
use Rattle.supervisor.specs.Steps.{Moment, job_view, world_at, step_end, StepsOrRefuses}
use Rattle.drive.specs.declared.calls.Call as Calls
use Rattle.drive.specs.declared.calls.Call.TheVariants.{Send, Step, Pause, Look, Collect}
use Rattle.drive.specs.declared.calls.Done.{Done}
use Rattle.drive.specs.declared.calls.Value.{Value}
use Rattle.drive.specs.Answers.{step_done}
use Rattle.drive.specs.Calls.{Makes, AnswersAlone, known_ticket, send_value, pause_value, collect_value}
use Rattle.rehearsal.specs.declared.run.Rehearsal.{Rehearsal}
use Rattle.rehearsal.specs.Trees.{Outside, reply, outside_after, run}
use Rattle.rehearsal.specs.Plays.{play_quietly, play_step, play_call}
use Rattle.rehearsal.specs.View.{play_end, state_of}

abbrev pub by_simulated : Host.Ghosts SimulatedHost
by_simulated = record { most = 16; book = λ h. Simulated.book_of (Simulated.view h); did = Simulated.Did }

abbrev pub by_absent : Terminal.Ghosts AbsentTerminal
by_absent = record { book = Absent.book_of; did = Absent.Did }

-- TREES

abbrev outside_of : World SimulatedHost AbsentTerminal → Outside
outside_of w = record { host = Simulated.view w.host; terminal = Absent.book_of w.terminal }

abbrev DidAnswer : World SimulatedHost AbsentTerminal → (c : Call) → Reply c → World SimulatedHost AbsentTerminal → Type 0
DidAnswer = IsAnswered by_simulated by_absent

-- a call is answered as the rules say, and leaves what they say
by_rules : (w w' : World SimulatedHost AbsentTerminal) (c : Call) (a : Reply c) → DidAnswer w c a w' →
    (a ≡ reply (outside_of w) c) × (outside_of w' ≡ outside_after (outside_of w) c)
by_rules w w' (to_host c) a did = (did.0.0, rw (did.0.1, did.1) refl)
by_rules w w' (to_terminal c) a did = (did.0.0, rw (did.0.1, did.1) refl)

-- a trace of a tree is the run of it
run-traced : {A : Type 0} (t : Interaction A) (w w' : World SimulatedHost AbsentTerminal) (p : List Event) (x : A) → Traces DidAnswer t w p x w' →
    run t (outside_of w) ≡ record { value = x; trace = p; outside = outside_of w' }
run-traced (done y) w w' p x h = rw (h.0, h.1, h.2) refl
run-traced (ask c k) w w' p x h =
    let rules = by_rules w h.1 c h.0 h.4 in
    let rest = run-traced (k h.0) h.1 w' h.2 x h.5 in
    rw (h.3, ← rules.0, ← rules.1, rest) refl

-- CALLS

abbrev rehearsal_at : Moment SimulatedHost AbsentTerminal → Rehearsal
rehearsal_at m = record { job = m.job; host = m.host; terminal = m.terminal; sheet = m.sheet }

module _ (a b : Moment SimulatedHost AbsentTerminal) where
  quietly : (f : JobView → JobView × Result Value Refusal) (d : Done) → AnswersAlone by_simulated by_absent f a d b →
      play_end d (rehearsal_at b) ≡ play_quietly (state_of (rehearsal_at a)) (f (job_view a.job))
  quietly f d q = rw (← q.answers.answer, q.host, q.terminal, q.does) refl

  step_made : (tree : ℕ → JobView → Interaction StepEnd) (time : ℕ) (r : Result Stepped Refusal) →
      length a.sheet ≡ 8 → StepsOrRefuses by_simulated by_absent tree time a r b →
      play_end (step_done r b.sheet) (rehearsal_at b)
      ≡ play_step (state_of (rehearsal_at a)) (tree time (job_view a.job)) (may_step time 8 (job_view a.job))
  step_made tree time (Err refusal) places h = rw (rw places at h.0, h.1) refl
  step_made tree time (Ok s) places h =
      let made = h.1.conducts in
      rw (rw places at h.0, run-traced (tree time (job_view a.job)) (world_at a) (world_at b) made.trace (step_end b.job s) made.traces, records_are made) refl

  -- a call that was made with a sheet of 8 places
  pub call_made : (c : Calls.Call) (d : Done) → length a.sheet ≡ 8 → Makes by_simulated by_absent c a d b →
      play_end d (rehearsal_at b) ≡ play_call (state_of (rehearsal_at a)) c
  call_made (Send s) d places h = quietly (send_value s) d h
  call_made (Step kind time) d places h = rw h.does (step_made (tree_of kind 1) time h.answer places h.step)
  call_made (Pause signal) d places h = quietly (pause_value signal) d h
  call_made (Look ticket) d places h = rw (h.0, h.1) refl
  call_made (Collect ticket) d places h = quietly (collect_value (known_ticket ticket)) d h
