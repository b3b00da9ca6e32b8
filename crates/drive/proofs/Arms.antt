-- The job's controls go on as the original's arms do.
use Rattle.std.proofs.Common.{◌≡◌, ℕ, ◌+◌, Bool, true, false, if◌then◌else◌, is_ok, is_some, Some, None, Ok, Err, Option, Result, List, [], ◌∷◌, ◌++◌, refl, ap, ◌∙◌}
use Rattle.std.specs.Prelude.{⊤, not, ◌&&◌, ◌||◌, ◌==◌}
use Rattle.std.specs.Result.{result_unwrap_or}
use Rattle.host.specs.declared.command.SpawnOptions.{SpawnOptions}
use Rattle.host.specs.declared.fault.Fault.{Fault}
use Rattle.host.specs.declared.state.ProcessEnd.{ProcessEnd}
use Rattle.host.specs.declared.state.CommandState.{CommandState}
use Rattle.host.specs.declared.state.CommandState.TheVariants.{Pending, Running, Finished}
use Rattle.host.specs.Calls.{Call, Reply, to_host, spawn}
use Rattle.host.specs.Calls as Calls
use Rattle.host.specs.Interaction.{Interaction, done, bind, call}
use Rattle.host.specs.Command.{wants_grant}
use Rattle.host.specs.State.{is_running}
use Rattle.task.specs.declared.messages.Control.{Control}
use Rattle.task.specs.declared.messages.Control.TheVariants.{Start, Stop, GracefulStop, TryRestart, TryGracefulRestart, ContinueTryGracefulRestart, Signal, Delete, NextEnding, Func}
use Rattle.task.specs.declared.messages.GraceEnd.{GraceEnd}
use Rattle.task.specs.declared.messages.GraceEnd.TheVariants as GraceEnds
use Rattle.task.specs.declared.task.Outcome.{Outcome}
use Rattle.task.specs.declared.task.Outcome.TheVariants.{Settled, Ended, Graced, Joined, Closes}
use Rattle.task.specs.declared.task.PollOutcome.{PollOutcome}
use Rattle.task.specs.declared.task.PollOutcome.TheVariants.{Faulted, Over, Renewed}
use Rattle.task.specs.Task as Tree
use Rattle.task.specs.Task.{TaskView, Course}
use Rattle.drive.specs.Original as Original
use Rattle.drive.specs.Original.{Amendments, StopTimer}
use Rattle.drive.proofs.Likeness.{Like, like_then, like_made, like_if}

-- an original, for what it has beside the task
abbrev pub Flags : Type 0
Flags = Original.Original

-- the original with the task t
abbrev pub with_task : TaskView → Flags → Original.Original
with_task t f =
    let run = record f { command = t.command; command_state = t.state; previous_run = t.previous } in
    let settings = record run { error_handler = t.settings.handler; spawn_hook = t.settings.hook; spawner = t.settings.way } in
    let foreground = record settings { pause_watch = t.foreground.watch; paused = t.foreground.paused; pause_rx = t.foreground.pauses } in
    record foreground { foreground_grant = t.foreground.grant }

-- the flags once the control of this flag has had that outcome
abbrev pub settled : ℕ → ℕ → Outcome → Flags → Flags
settled now flag Settled f = Original.raise flag f
settled now flag Ended f = Original.raise flag (Original.raise_on_end f)
settled now flag (Graced grace GraceEnds.Stop) f = record f { stop_timer = Some (record { until = now + grace; flag = flag; is_restart = false }) }
settled now flag (Graced grace GraceEnds.Restart) f =
    record f { stop_timer = Some (record { until = now + grace; flag = flag; is_restart = true }); on_end_restart = Some flag }
settled now flag Joined f = record f { on_end = f.on_end ++ flag ∷ [] }
settled now flag Closes f = record (Original.raise flag f) { gone = true }

-- a control's end on both sides
abbrev pub Settles : ℕ → ℕ → Flags → TaskView × Outcome → Original.Original → Type 0
Settles now flag f x o = o ≡ with_task x.0 (settled now flag x.1 f)

-- the flags once a poll has ended so
abbrev pub ended_flags : Flags → Flags
ended_flags f = record (Original.raise_on_end (Original.erase_timer f.stop_timer f)) { on_end_restart = None }

abbrev pub again : Option ℕ → Flags → Flags
again None f = f
again (Some flag) f = Original.raise flag f

abbrev pub seen : PollOutcome → Flags → Flags
seen Over f = ended_flags f
seen Renewed f = again f.on_end_restart (ended_flags f)
seen o f = f

-- a poll's end on both sides
abbrev pub Seen : Flags → TaskView × PollOutcome → Original.Original → Type 0
Seen f x o = o ≡ with_task x.0 (seen x.1 f)

-- a pause step's end on both sides
abbrev pub Paused : Flags → TaskView × Option ℕ → Original.Original → Type 0
Paused f x o = o ≡ with_task x.0 f

-- PAUSES

module _ (P : (c : Call) → Reply c → Type 0) (f : Flags) where
  -- the same task on both sides
  abbrev Is : TaskView → Original.Original → Type 0
  Is t o = o ≡ with_task t f

  grant_like : (wanted : Bool) (own child : ℕ) (t : TaskView) → Like P Is (Tree.try_grant_if wanted own child t)
      (Original.grant_if wanted own child (with_task t f))
  grant_like false own child t = (_, refl, refl)
  grant_like true own child t = (_, refl, λ group p. tries (Tree.is_ours own child group))
    where
      acquires : (a : Result ⊤ Fault) → Is (Tree.after_acquire t a) (record (with_task t f) { foreground_grant = is_ok a || t.foreground.grant })
      acquires (Ok u) = refl
      acquires (Err fault) = refl

      tries : (is : Bool) → Like P Is (Tree.acquire_if is child t) (Original.acquire_if is child (with_task t f))
      tries true = (_, refl, λ a p. (_, refl, acquires a))
      tries false = (_, refl, refl)

  use_like : (wanted : Bool) (own child signal : ℕ) (t : TaskView) → Like P Is (Tree.on_terminal_use wanted own child signal t)
      (Original.tty_denied wanted own child signal (with_task t f))
  use_like false own child signal t = (_, refl, refl)
  use_like true own child signal t =
      like_then P Is Is (Tree.try_grant_if (not t.foreground.grant) own child t) (Original.grant_if (not t.foreground.grant) own child (with_task t f))
      (Tree.continue_child child signal) (Original.continue_group child signal) (grant_like (not t.foreground.grant) own child t)
      (λ x y e. rw e (_, refl, λ a p. (_, refl, ends x a)))
    where
      ends : (x : TaskView) (a : Result ⊤ Fault) → Is (Tree.after_cont signal x a) (record (with_task x f) { paused = if is_ok a then None else Some signal })
      ends x (Ok u) = refl
      ends x (Err fault) = refl

  stop_like : (held : Bool) (signal : ℕ) (t : TaskView) → Like P Is (Tree.on_stop held signal t) (bind (Original.release_if held (with_task t f))
      (λ o. done (record o { paused = Some signal })))
  stop_like false signal t = (_, refl, refl)
  stop_like true signal t = (_, refl, λ a p. (_, refl, refl))

  take_like : (own child signal : ℕ) (t : TaskView)
      → Like P Is (Tree.take_pause own child signal t) (Original.handle_pause_event own child signal (with_task t f))
  take_like own child signal t =
      like_if P Is (signal == 18) _ _ _ _ (grant_like (wants_grant t.command && not t.foreground.grant) own child (Tree.forget_pause t))
      (like_if P Is (signal == 21 || signal == 22) _ _ _ _ (use_like (wants_grant t.command) own child signal t) (stop_like t.foreground.grant signal t))

  -- a pause step's work; the pauses that wait behind the one that is taken stay
  pub pause_like : (own : ℕ) (t : TaskView) → Like P (Paused f) (Tree.pause own t) (Original.pause_branch t.state t.foreground.pauses own (with_task t f))
  pause_like own t = by t.state t.foreground.pauses
    where
      by : (s : CommandState) (signals : List ℕ) → Like P (Paused f) (Tree.pause_in s signals own t) (Original.pause_branch s signals own (with_task t f))
      by (Running child began) (signal ∷ rest) =
          let t₁ = Tree.with_pauses rest t in
          like_made P Is (Paused f) (Tree.take_pause own child signal t₁) (Original.handle_pause_event own child signal (with_task t₁ f))
          (λ x. (x, Some signal)) (take_like own child signal t₁) (λ x y h. h)
      by s signals = (_, refl, refl)

-- where NextEnding meets Pending, it is raised at once
abbrev pub AtOnce : Amendments → Control → CommandState → Type 0
AtOnce am NextEnding Pending = am.at_once ≡ true
AtOnce am c s = ⊤

-- how the original goes on
abbrev Rest : Type 0
Rest = Original.Original → Interaction Original.Original

-- Where the original keeps the pauses `ps` that wait, P speaks of no granted spawn unless none wait.
module _ (am : Amendments) (ps : List ℕ) (P : (c : Call) → Reply c → Type 0) (drops : (program : ℕ) (options : SpawnOptions) (way time child : ℕ)
    → P (to_host (spawn program options way time)) (Ok child) → (if am.drops then [] else ps) ≡ []) where
  abbrev Kept : TaskView → Type 0
  Kept t = t.foreground.pauses ≡ ps

  -- the same task on both sides, with the pauses that waited
  abbrev Same : Flags → TaskView → Original.Original → Type 0
  Same f t o = (o ≡ with_task t f) × Kept t

  resume_like : (p : Option ℕ) (s : CommandState) (t : TaskView) (f : Flags) → Kept t
      → Like P (Same f) (Tree.resume_by p s t) (Original.resume_in p s (with_task t f))
  resume_like None s t f e = (_, refl, (refl, e))
  resume_like (Some p) (Running child started) t f e = (_, refl, λ a k. (_, refl, (refl, e)))
  resume_like (Some p) s t f e = (_, refl, (refl, e))

  reclaim_like : (held : Bool) (t : TaskView) (f : Flags) → t.foreground.grant ≡ held → Kept t → Like P (Same f) (Tree.yield_if held t)
      (Original.release_if held (record (with_task t f) { pause_watch = false }))
  reclaim_like false t f g e = (_, refl, (rw g refl, e))
  reclaim_like true t f g e = (_, refl, λ a k. (_, refl, (refl, e)))

  -- what is the same, and then goes on alike
  then_like : {C D : Type 0} (R : C → D → Type 0) (f : Flags) (t : Interaction TaskView) (u : Interaction Original.Original) (g : TaskView → Interaction C)
      (h : Original.Original → Interaction D) → Like P (Same f) t u → ((x : TaskView) → Kept x → Like P R (g x) (h (with_task x f)))
      → Like P R (bind t g) (bind u h)
  then_like R f t u g h k rest = like_then P (Same f) R t u g h k (λ x y s. rw s.0 (rest x s.1))

  way_like : {C D : Type 0} (R : C → D → Type 0) (f : Flags) (t : TaskView) (g : TaskView → Interaction C) (h : Original.Original → Interaction D) → Kept t
      → ((x : TaskView) → Kept x → Like P R (g x) (h (with_task x f))) → Like P R (bind (Tree.make_way t) g) (bind (Original.resume_and_reclaim
      (with_task t f)) h)
  way_like R f t g h e rest =
      let resume = resume_like t.foreground.paused t.state t f e in
      let way = then_like (Same f) f (Tree.resume t) (Original.resume_paused_command (with_task t f)) Tree.yield Original.reclaim resume
      (λ x d. reclaim_like x.foreground.grant x f refl d) in
      then_like R f (Tree.make_way t) (Original.resume_and_reclaim (with_task t f)) g h way rest

  -- a fault is told on both sides
  told_like : {X C D : Type 0} (R : C → D → Type 0) (handler : Option ℕ) (fault : Fault) (x : X) (g : X → Interaction C) (h : Interaction D) → Like P R (g x) h
      → Like P R (bind (bind (Tree.tell_fault handler (Err fault)) (λ _. done x)) g) (bind (Original.handle handler fault) (λ _. h))
  told_like R (Some n) fault x g h k = (_, refl, λ a p. k)
  told_like R None fault x g h k = k

  -- WITH THE CONTROL'S FLAG, at the time of the step

  module _ (now flag : ℕ) where
    -- an end by force, and what follows it on both sides
    force_like : {O : Type 0} (R : TaskView × O → Original.Original → Type 0) (child began : ℕ) (t : TaskView) (f : Flags)
        (g : TaskView × Result ⊤ Fault → Course O) (h : Rest) → ((fault : Fault) → Like P R (g (t, Err fault)) (done (with_task t (Original.raise flag f))))
        → ((end : ProcessEnd) → let x = Tree.in_state (Finished end began now) t in Like P R (g (x, Ok tt)) (h (with_task x (Original.raise_on_end f))))
        → Like P R (bind (Tree.report (Tree.end_by_force child began now t)) g) (Original.stop_child child began now flag (with_task t f) h)
    force_like R child began t f g h faulted ended = (_, refl, λ a p. kills a)
      where
        over : ProcessEnd → Rest
        over status o = h (Original.raise_on_end (record o { command_state = Finished status began now }))

        waits : (b : Result ProcessEnd Fault) → Like P R (bind (Tree.report (done (Tree.after_wait began now t b))) g)
            (Original.try_with_handler flag (with_task t f, b) over)
        waits (Ok end) = ended end
        waits (Err fault) = told_like R t.settings.handler fault _ _ _ (faulted fault)

        kills : (a : Result ⊤ Fault) → Like P R (bind (Tree.report (Tree.after_kill child began now t a)) g) (Original.try_with_handler flag (with_task t f, a)
            (λ _ o. bind (call (to_host (Calls.wait child))) (λ b. Original.try_with_handler flag (o, b) over)))
        kills (Ok u) = (_, refl, λ b p. waits b)
        kills (Err fault) = told_like R t.settings.handler fault _ _ _ (faulted fault)

    -- a launch, and what follows it on both sides
    launch_like : {X D : Type 0} (R : X → D → Type 0) (t : TaskView) (f : Flags) (g : TaskView × Result ⊤ Fault → Interaction X)
        (h : Original.Original × Result ⊤ Fault → Interaction D) → Kept t → ((x : TaskView) (r : Result ⊤ Fault) → Like P R (bind (Tree.report (done (x, r))) g)
        (h (with_task x f, r))) → Like P R (bind (Tree.report (Tree.launch now t)) g) (bind (Original.launch am now (with_task t f)) h)
    launch_like R t f g h e rest = hooks t.settings.hook
      where
        fresh : TaskView
        fresh = Tree.reset now t

        spawns : (options : SpawnOptions) (a : Result ℕ Fault) → P (to_host (spawn t.command.program options t.settings.way now)) a
            → Like P R (bind (Tree.report (done (Tree.after_spawn now fresh a))) g) (h (Original.after_spawn am now (with_task fresh f) a))
        spawns options (Ok child) p =
            let empty : (if am.drops then [] else t.foreground.pauses) ≡ [] = rw e (drops t.command.program options t.settings.way now child p) in
            rw empty (rest (Tree.run_child child now fresh) (Ok tt))
        spawns options (Err fault) p = rest fresh (Err fault)

        hooks : (n : Option ℕ) → Like P R (bind (Tree.report (bind (Tree.ask_hook n fresh) (Tree.spawn now fresh))) g)
            (bind (bind (Original.ask_hook n (with_task fresh f)) (λ options. bind (call (to_host (Calls.spawn t.command.program options t.settings.way now)))
            (λ a. done (Original.after_spawn am now (with_task fresh f) a)))) h)
        hooks None = (_, refl, λ a p. spawns t.command.options a p)
        hooks (Some n) = (_, refl, λ o q. (_, refl, λ a p. spawns (result_unwrap_or o t.command.options) a p))

    -- THE ARMS

    -- the control's ticket, or the arm's flag, and all else
    abbrev Ends : Flags → TaskView × Outcome → Original.Original → Type 0
    Ends f x o = Settles now flag f x o

    -- the child is started, and then the control has this outcome
    launched_like : (f₀ f : Flags) (o : Outcome) (t : TaskView) → settled now flag o f₀ ≡ Original.raise flag f → Kept t → Like P (Ends f₀) (Tree.begin now o t)
        (Original.start_again am now flag (with_task t f))
    launched_like f₀ f o t e d = launch_like (Ends f₀) t f _ _ d by
      where
        by : (x : TaskView) (r : Result ⊤ Fault) → Like P (Ends f₀) (bind (Tree.report (done (x, r))) (λ x. done (x.0, o)))
            (Original.try_with_handler flag (with_task x f, r) (λ _ o₁. Original.finish flag o₁))
        by x (Ok u) = (_, refl, rw e refl)
        by x (Err fault) = told_like (Ends f₀) x.settings.handler fault _ _ _ (_, refl, rw e refl)

    module _ (f : Flags) where
      abbrev Arm : Course Outcome → Interaction Original.Original → Type 0
      Arm t u = Like P (Ends f) t u

      stopped_like : (s : CommandState) (t : TaskView) → Arm (Tree.stop_in s now t) (Original.stop s now flag (with_task t f))
      stopped_like (Running child began) t = force_like (Ends f) child began t f _ (Original.finish flag) (λ fault. (_, refl, refl)) (λ end. (_, refl, refl))
      stopped_like s t = (_, refl, refl)

      replace_like : (child began : ℕ) (t : TaskView) → Kept t → Arm (Tree.replace child began now t) (Original.stop_child child began now flag (with_task t f)
          (Original.start_again am now flag))
      replace_like child began t d = force_like (Ends f) child began t f _ (Original.start_again am now flag) (λ fault. (_, refl, refl))
          (λ end. launched_like f (Original.raise_on_end f) Ended (Tree.in_state (Finished end began now) t) refl d)

      restart_like : (s : CommandState) (t : TaskView) → Kept t → Arm (Tree.restart_in s now t) (Original.try_restart am s now flag (with_task t f))
      restart_like (Running child began) t d = replace_like child began t d
      restart_like s t d = (_, refl, refl)

      continue_like : (s : CommandState) (t : TaskView) → Kept t → Arm (Tree.continue_in s now t) (Original.continue_restart am s now flag (with_task t f))
      continue_like (Running child began) t d = replace_like child began t d
      continue_like s t d = launched_like f f Settled t refl d

      -- a signal to the child, and what follows where the host takes it
      signal_like : (s : CommandState) (n : ℕ) (o : Outcome) (t : TaskView) (h : Rest) → Arm (done (t, o)) (h (with_task t f))
          → Arm (Tree.signal_in s n o t) (Original.signal_child s n flag (with_task t f) h)
      signal_like (Running child began) n o t h k = (_, refl, λ a p. by a)
        where
          by : (a : Result ⊤ Fault) → Arm (bind (Tree.report (done (t, a))) (λ x. done (x.0, Tree.unless_faulted o x.1)))
              (Original.try_with_handler flag (with_task t f, a) (λ _ o₁. h o₁))
          by (Ok u) = k
          by (Err fault) = told_like (Ends f) t.settings.handler fault _ _ _ (_, refl, refl)
      signal_like s n o t h k = (_, refl, refl)

      -- the child is asked to end, and the original begins a grace so
      grace_like : (n grace : ℕ) (end : GraceEnd) (t : TaskView) (h : Rest) → Kept t → ((x : TaskView) → Arm (done (x, Graced grace end)) (h (with_task x f)))
          → Arm (Tree.end_gracefully n grace end t) (bind (Original.resume_paused_command (with_task t f))
          (λ o. Original.signal_child o.command_state n flag o h))
      grace_like n grace end t h d k = then_like (Ends f) f (Tree.resume t) (Original.resume_paused_command (with_task t f)) _ _
          (resume_like t.foreground.paused t.state t f d) (λ x _. signal_like x.state n (Graced grace end) x h (k x))

      delete_like : (s : CommandState) (t : TaskView) → Arm (Tree.delete_in s t) (done (record (Original.raise flag (with_task t f)) { gone = true }))
      delete_like (Running child began) t = (_, refl, refl)
      delete_like s t = (_, refl, refl)

      start_like : (s : CommandState) (t : TaskView) → Kept t → Arm (Tree.start_unless (is_running s) now t) (Original.start am s now flag (with_task t f))
      start_like (Running child began) t d = (_, refl, refl)
      start_like Pending t d = launched_like f f Settled t refl d
      start_like (Finished end began finished) t d = launched_like f f Settled t refl d

      ending_like : (s : CommandState) (t : TaskView) → AtOnce am NextEnding s
          → Arm (done (t, Tree.joins s)) (done (Original.next_ending am s flag (with_task t f)))
      ending_like Pending t e = (_, refl, rw e refl)
      ending_like (Running child began) t e = (_, refl, refl)
      ending_like (Finished end began finished) t e = (_, refl, refl)

      pub control_like : (c : Control) (t : TaskView) → AtOnce am c t.state → Kept t → Arm (Tree.control c now t) (Original.arm am c now flag (with_task t f))
      control_like Start t e d = start_like t.state t d
      control_like Stop t e d = way_like (Ends f) f t _ _ d (λ x k. stopped_like x.state x)
      control_like (GracefulStop n grace) t e d = grace_like n grace GraceEnds.Stop t _ d (λ x. (_, refl, refl))
      control_like TryRestart t e d = way_like (Ends f) f t _ _ d (λ x k. restart_like x.state x k)
      control_like (TryGracefulRestart n grace) t e d = grace_like n grace GraceEnds.Restart t _ d (λ x. (_, refl, refl))
      control_like ContinueTryGracefulRestart t e d = way_like (Ends f) f t _ _ d (λ x k. continue_like x.state x k)
      control_like (Signal n) t e d = signal_like t.state n Settled t _ (_, refl, refl)
      control_like Delete t e d = then_like (Ends f) f (Tree.yield t) (Original.reclaim (with_task t f)) _ _ (reclaim_like t.foreground.grant t f refl d)
          (λ x k. delete_like x.state x)
      control_like NextEnding t e d = ending_like t.state t e
      control_like (Func n) t e d = (_, refl, λ a p. (_, refl, refl))
      control_like c t e d = (_, refl, refl)

    -- THE WAIT FOR THE CHILD

    abbrev Wait : Flags → Course PollOutcome → Interaction Original.Original → Type 0
    Wait f t u = Like P (Seen f) t u

    -- what follows an end, where g are the flags after it
    follow_like : (f : Flags) (r : Option ℕ) (t : TaskView) (g : Flags) → g.on_end_restart ≡ r → Kept t → record g { on_end_restart = None } ≡ ended_flags f
        → again r (record g { on_end_restart = None }) ≡ seen Renewed f → Wait f (Tree.follow (is_some r) now t)
        (Original.continue_on_end am now r (with_task t g))
    follow_like f None t g e d over renewed =
        let same : with_task t g ≡ with_task t (record g { on_end_restart = None }) = rw e refl in
        (_, refl, same ∙ ap (λ g. with_task t g) over)
    follow_like f (Some n) t g e d over renewed = launch_like (Seen f) t (record g { on_end_restart = None }) _ _ d by
      where
        by : (x : TaskView) (r : Result ⊤ Fault) → Wait f (bind (Tree.report (done (x, r))) (λ x. done (x.0, if is_ok x.1 then Renewed else Over)))
            (Original.after_restart n (with_task x (record g { on_end_restart = None }), r))
        by x (Ok u) = (_, refl, ap (λ g. with_task x g) renewed)
        by x (Err fault) = told_like (Seen f) x.settings.handler fault _ _ _ (_, refl, ap (λ g. with_task x g) over)

    pub poll_like : (t : TaskView) (f : Flags) → Kept t → Wait f (Tree.poll_child (is_some f.on_end_restart) now t)
        (Original.wait_branch am t.state now (with_task t f))
    poll_like t f d = by t.state
      where
        follows : (x : TaskView) → Kept x → Wait f (Tree.follow (is_some f.on_end_restart) now x) (Original.end_wait am now (with_task x f))
        follows x e = by f.stop_timer refl
          where
            by : (k : Option StopTimer) → f.stop_timer ≡ k → Wait f (Tree.follow (is_some f.on_end_restart) now x)
                (let o = Original.raise_on_end (Original.erase_timer k (with_task x f)) in Original.continue_on_end am now o.on_end_restart o)
            by None s = follow_like f f.on_end_restart x (Original.raise_on_end f) refl e (rw s refl) (rw s refl)
            by (Some k) s = follow_like f f.on_end_restart x (Original.raise_on_end (Original.erase_timer (Some k) f)) refl e (rw s refl) (rw s refl)

        polls : (began : ℕ) (a : Result (Option ProcessEnd) Fault) → Wait f (Tree.after_poll (is_some f.on_end_restart) began now t a)
            (Original.after_wait am began now (with_task t f) a)
        polls began (Ok None) = (_, refl, refl)
        polls began (Ok (Some end)) =
            let t₁ = Tree.in_state (Finished end began now) t in
            then_like (Seen f) f (Tree.yield t₁) (Original.reclaim (with_task t₁ f)) _ _ (reclaim_like t.foreground.grant t₁ f refl d) follows
        polls began (Err fault) = told t.settings.handler
          where
            told : (n : Option ℕ) → Wait f (bind (Tree.tell_fault n (Err fault)) (λ _. done (t, Faulted)))
                (bind (Original.handle n fault) (λ _. done (with_task t f)))
            told (Some n) = (_, refl, λ a p. (_, refl, refl))
            told None = (_, refl, refl)

        by : (s : CommandState) → Wait f (Tree.poll_in s (is_some f.on_end_restart) now t) (Original.wait_branch am s now (with_task t f))
        by (Running child began) = (_, refl, λ a p. polls began a)
        by s = (_, refl, refl)
