-- The trees of a control, of a poll and of a pause: books that fit the task fit it at the end, whatever host and terminal answer,
-- and what was done to the child is tallied.
use Rattle.std.proofs.Common.{◌≡◌, ℕ, ◌+◌, ◌≤◌, Bool, true, false, if◌then◌else◌, is_ok, Some, None, Ok, Err, Option, Result, List, [], ◌∷◌, ◌++◌, refl, sym, ap, ◌∙◌, arith}
use Rattle.std.specs.Prelude.{⊤, not, ◌&&◌, ◌||◌, ◌==◌}
use Rattle.std.specs.Int.{from_bool}
use Rattle.std.specs.Result.{result_unwrap_or}
use Rattle.host.specs.declared.command.SpawnOptions.{SpawnOptions}
use Rattle.host.specs.declared.fault.Fault.{Fault}
use Rattle.host.specs.declared.journal.CallKind.TheVariants.{Spawn, Wait, Kill}
use Rattle.host.specs.declared.state.ProcessEnd.{ProcessEnd}
use Rattle.host.specs.declared.state.CommandState.{CommandState}
use Rattle.host.specs.declared.state.CommandState.TheVariants.{Pending, Running, Finished}
use Rattle.host.specs.Books.{no_child}
use Rattle.host.specs.Calls.{to_host, to_terminal, poll, kill, wait, spawn, hook, cont, let_go, acquire}
use Rattle.host.specs.Command.{wants_grant}
use Rattle.host.specs.Interaction.{Interaction, done, bind}
use Rattle.host.specs.State.{is_running, kept_run}
use Rattle.host.proofs.Rosters.{strike-one_child}
use Rattle.task.specs.declared.messages.Control.{Control}
use Rattle.task.specs.declared.messages.Control.TheVariants.{Start, Stop, GracefulStop, TryRestart, TryGracefulRestart, ContinueTryGracefulRestart, Signal, Delete, NextEnding, Func}
use Rattle.task.specs.declared.messages.GraceEnd.{GraceEnd}
use Rattle.task.specs.declared.messages.GraceEnd.TheVariants as GraceEnds
use Rattle.task.specs.declared.task.Outcome.{Outcome}
use Rattle.task.specs.declared.task.Outcome.TheVariants.{Settled, Ended, Graced, Joined, Closes}
use Rattle.task.specs.declared.task.PollOutcome.{PollOutcome}
use Rattle.task.specs.declared.task.PollOutcome.TheVariants.{Idle, Faulted, Over, Renewed}
use Rattle.task.specs.Messages.{orders}
use Rattle.task.specs.Task as Tree
use Rattle.task.specs.Task.{TaskView, Part, Course, children, closes, is_graced, MaySetTimer}
use Rattle.task.proofs.Always as Every
use Rattle.task.proofs.Always.{always_then}
use Rattle.task.proofs.Books.{Books, Tally, no_calls, moved}

-- the books fit a task in the state s that holds a grant or none, after the calls that m tallies
abbrev pub Fits : Tally → CommandState → Bool → Books → Type 0
Fits m s grant b = (grant ≡ true → is_running s ≡ true) × (b.roster ≡ children s) × (b.grants ≡ from_bool grant) × (b.tally ≡ m)

abbrev pub FitsTask : Tally → TaskView → Books → Type 0
FitsTask m t b = Fits m t.state t.foreground.grant b

-- and no grant is held
abbrev Free : Tally → TaskView → Books → Type 0
Free m t b = FitsTask m t b × (t.foreground.grant ≡ false)

abbrev Always : {A : Type 0} → (Books → A → Type 0) → Books → Interaction A → Type 0
Always R b t = Every.Always moved R b t

-- PARTS

-- telling a fault changes nothing that is tallied
tell_keeps : (P : Books → Type 0) (b : Books) (handler : Option ℕ) (r : Result ⊤ Fault) → P b → Always (λ u _. P u) b (Tree.tell_fault handler r)
tell_keeps P b (Some k) (Err fault) h = λ a. h
tell_keeps P b None (Err fault) h = h
tell_keeps P b handler (Ok u) h = h

-- what holds at the end of a part holds once its fault was told
report_keeps : (R : Books → TaskView × Result ⊤ Fault → Type 0) (b : Books) (part : Part) → Always R b part → Always R b (Tree.report part)
report_keeps R b part h = always_then moved R R b part _ h (λ u x r.
    always_then moved (λ w _. R w x) R u (Tree.tell_fault x.0.settings.handler x.1) _ (tell_keeps (λ w. R w x) u x.0.settings.handler x.1 r) (λ _ _ q. q))

resume_fits : (b : Books) (p : Option ℕ) (s : CommandState) (t : TaskView) → FitsTask no_calls t b → Always (λ u x. FitsTask no_calls x u × (x.state ≡ t.state))
    b (Tree.resume_by p s t)
resume_fits b None s t h = (h, refl)
resume_fits b (Some p) (Running child began) t h = λ a. (h, refl)
resume_fits b (Some p) s t h = (h, refl)

unheld : (s : CommandState) → false ≡ true → is_running s ≡ true
unheld s e = cc

-- whatever the state is and was
yield_fits : (m : Tally) (held : Bool) (s : CommandState) (t : TaskView) (b : Books) → t.state ≡ s → b.roster ≡ children t.state → b.grants ≡ from_bool held
    → b.tally ≡ m → Always (λ u x. Free m x u × (x.state ≡ s)) b (Tree.yield_if held t)
yield_fits m false s t b e r g l = (((unheld t.state, r, g, l), refl), e)
yield_fits m true s t b e r g l = λ a. (((unheld t.state, r, refl, l), refl), e)

way_fits : (t : TaskView) (b : Books) → FitsTask no_calls t b → Always (λ u x. Free no_calls x u × (x.state ≡ t.state)) b (Tree.make_way t)
way_fits t b h = always_then moved (λ u x. FitsTask no_calls x u × (x.state ≡ t.state)) _ b (Tree.resume t) Tree.yield
    (resume_fits b t.foreground.paused t.state t h)
    (λ u x f. yield_fits no_calls x.foreground.grant t.state x u f.1 f.0.1 f.0.2 f.0.3)

-- a child that was killed and waited for
abbrev pub forced : Tally
forced = record { kinds = Kill ∷ Wait ∷ []; starts = 0; failures = 0; ends = 0 }

-- no child is left by an end by force that was done; in one that faulted, a kill or a wait has failed
abbrev Forced : TaskView → Result ⊤ Fault → Books → Type 0
Forced t (Ok u) b = Free forced t b × (children t.state ≡ no_child)
Forced t (Err fault) b = (m : Tally) × Free m t b × (m.starts ≡ 0) × (m.failures ≡ 1)

force_fits : (child began time : ℕ) (t : TaskView) (b : Books) → t.state ≡ Running child began → Free no_calls t b → Always (λ u x. Forced x.0 x.1 u) b
    (Tree.report (Tree.end_by_force child began time t))
force_fits child began time t b e f = report_keeps (λ u x. Forced x.0 x.1 u) b (Tree.end_by_force child began time t) (λ a. kills a)
  where
    waits : (a : Result ProcessEnd Fault) → let c = moved (moved b (to_host (kill child)) (Ok tt)) (to_host (wait child)) a in let x =
        Tree.after_wait began time t a in Forced x.0 x.1 c
    waits (Ok end) = (((λ g. cc (g, f.1), rw (f.0.1, e) (strike-one_child child), f.0.2, ap kill_and_wait f.0.3), f.1), refl)
      where
        kill_and_wait : Tally → Tally
        kill_and_wait m = record { kinds = (m.kinds ++ Kill ∷ []) ++ Wait ∷ []; starts = m.starts; failures = m.failures; ends = m.ends }
    waits (Err fault) = (_, ((f.0.0, f.0.1, f.0.2, refl), f.1), ap (λ m. m.starts) f.0.3, ap (λ m. m.failures + 1) f.0.3)

    kills : (a : Result ⊤ Fault) → Always (λ u x. Forced x.0 x.1 u) (moved b (to_host (kill child)) a) (Tree.after_kill child began time t a)
    kills (Ok u) = λ a. waits a
    kills (Err fault) = (_, ((f.0.0, f.0.1, f.0.2, refl), f.1), ap (λ m. m.starts) f.0.3, ap (λ m. m.failures + 1) f.0.3)

-- with one start more
abbrev pub started : Tally → Tally
started m = record { kinds = m.kinds ++ Spawn ∷ []; starts = m.starts + 1; failures = m.failures; ends = m.ends }

launch_fits : (m : Tally) (time : ℕ) (t : TaskView) (b : Books) → children t.state ≡ no_child → Free m t b → Always (λ u x. Free (started m) x.0 u) b
    (Tree.report (Tree.launch time t))
launch_fits m time t b e f = report_keeps (λ u x. Free (started m) x.0 u) b (Tree.launch time t) (hooks t.settings.hook)
  where
    spawns : (c : Books) (options : SpawnOptions) (a : Result ℕ Fault) → c.roster ≡ no_child → c.grants ≡ b.grants → c.tally ≡ m
        → Free (started m) (Tree.after_spawn time (Tree.reset time t) a).0 (moved c (to_host (spawn t.command.program options t.settings.way time)) a)
    spawns c options (Ok child) r g l = ((λ h. refl, rw r refl, g ∙ f.0.2, ap started l), f.1)
    spawns c options (Err fault) r g l = ((λ h. cc (h, f.1), r, g ∙ f.0.2, ap started l), f.1)

    hooks : (k : Option ℕ) → Always (λ u x. Free (started m) x.0 u) b (bind (Tree.ask_hook k (Tree.reset time t)) (Tree.spawn time (Tree.reset time t)))
    hooks None = λ a. spawns b t.command.options a (rw e at f.0.1) refl f.0.3
    hooks (Some k) = λ o. λ a. spawns (moved b (to_host (hook k Pending (Some (kept_run time t.state)))) o) (result_unwrap_or o t.command.options) a
        (rw e at f.0.1) refl f.0.3

-- CONTROLS

-- the starts that an outcome leaves to be tried: that of a restart whose grace runs
abbrev pub owes : Outcome → ℕ
owes (Graced grace GraceEnds.Restart) = 1
owes o = 0

-- A continued restart tries one start, unless a kill or a wait has failed. Where a child ran, kill, wait and spawn come in this order.
abbrev Continued : Control → Bool → Tally → Type 0
Continued ContinueTryGracefulRestart ran m = (m.starts + m.failures ≡ 1) × (ran ≡ true → m.failures ≡ 0 → m.kinds ≡ Kill ∷ Wait ∷ Spawn ∷ [])
Continued c ran m = ⊤

-- At the end of the control c, before which a child ran or not, the books fit the task, and no child and no grant is left of a job
-- that it closes; with what is owed, no start is tried that c does not order; and it leaves its ticket to a timer only if it sets one.
pub record Carried (c : Control) (ran : Bool) (b : Books) (x : TaskView × Outcome) : Type 0 where
  pub holder : x.0.foreground.grant ≡ true → is_running x.0.state ≡ true
  pub roster : b.roster ≡ (if closes x.1 then no_child else children x.0.state)
  pub grants : b.grants ≡ from_bool x.0.foreground.grant
  pub starts : b.tally.starts + owes x.1 ≤ from_bool (orders c)
  pub timed : MaySetTimer c x.1
  pub closed : closes x.1 ≡ true → x.0.foreground.grant ≡ false
  pub continued : Continued c ran b.tally

-- an outcome after which the job is open, no start is owed and no timer is set
abbrev Plain : Outcome → Type 0
Plain o = (closes o ≡ false) × (owes o ≡ 0) × (is_graced o ≡ false)

-- where a kill or a wait has failed, where a child was replaced, and where one was started though none ran
failed : (c : Control) (ran : Bool) (m : Tally) → m.starts ≡ 0 → m.failures ≡ 1 → Continued c ran m
failed ContinueTryGracefulRestart ran m s f = (omega (arith, s, f), λ _ z. absurd (omega (arith, f, z)))
failed c ran m s f = tt

replaced : (c : Control) (ran : Bool) → Continued c ran (started forced)
replaced ContinueTryGracefulRestart ran = (refl, λ _ _. refl)
replaced c ran = tt

started_alone : (c : Control) (ran : Bool) → ran ≡ false → Continued c ran (started no_calls)
started_alone ContinueTryGracefulRestart ran e = (refl, λ r _. cc (e, r))
started_alone c ran e = tt

childless : (s : CommandState) → is_running s ≡ false → children s ≡ no_child
childless (Running child began) e = cc e
childless s e = refl

module _ (c : Control) (t : TaskView) (time : ℕ) where
  abbrev Ends : Books → TaskView × Outcome → Type 0
  Ends b x = Carried c (is_running t.state) b x

  -- it ends with a plain outcome
  ends : (m : Tally) (b : Books) (x : TaskView) (o : Outcome) → m.starts ≤ from_bool (orders c) → Plain o → Continued c (is_running t.state) m → FitsTask m x b
      → Ends b (x, o)
  ends m b x o l p k h = record {
    holder = h.0;
    roster = rw p.0 h.1;
    grants = h.2;
    starts = omega (arith, ap (λ m. m.starts) h.3, p.1, l);
    timed = λ g. cc
        (g, p.2);
    closed = λ g. cc (g, p.0);
    continued = rw h.3 k;
  }

  way_first : (b : Books) (g : TaskView → Course Outcome) → FitsTask no_calls t b → ((u : Books) (x : TaskView) → Free no_calls x u → x.state ≡ t.state
      → Always Ends u (g x)) → Always Ends b (bind (Tree.make_way t) g)
  way_first b g h k = always_then moved (λ u x. Free no_calls x u × (x.state ≡ t.state)) Ends b (Tree.make_way t) g (way_fits t b h) (λ u x f. k u x f.0 f.1)

  forces : (child began : ℕ) (b : Books) (x : TaskView) (g : TaskView × Result ⊤ Fault → Course Outcome) → x.state ≡ Running child began → Free no_calls x b
      → ((u : Books) (y : TaskView) → Free forced y u → children y.state ≡ no_child → Always Ends u (g (y, Ok tt)))
      → ((u : Books) (y : TaskView) (fault : Fault) → Ends u (y, Settled) → Always Ends u (g (y, Err fault)))
      → Always Ends b (bind (Tree.report (Tree.end_by_force child began time x)) g)
  forces child began b x g e f k fails = always_then moved (λ u y. Forced y.0 y.1 u) Ends b (Tree.report (Tree.end_by_force child began time x)) g
      (force_fits child began time x b e f) (λ u y h. by u y.0 y.1 h)
    where
      by : (u : Books) (y : TaskView) (r : Result ⊤ Fault) → Forced y r u → Always Ends u (g (y, r))
      by u y (Ok v) h = k u y h.0 h.1
      by u y (Err fault) h = fails u y fault (ends h.0 u y Settled (omega (arith, h.2)) (refl, refl, refl) (failed c (is_running t.state) h.0 h.2 h.3) h.1.0)

  module _ (ordered : orders c ≡ true) where
    begins : (m : Tally) (b : Books) (x : TaskView) (o : Outcome) → m.starts ≡ 0 → Plain o → Continued c (is_running t.state) (started m)
        → children x.state ≡ no_child → Free m x b → Always Ends b (Tree.begin time o x)
    begins m b x o s p k e f = always_then moved (λ u y. Free (started m) y.0 u) Ends b (Tree.report (Tree.launch time x)) _ (launch_fits m time x b e f)
        (λ u y g. ends (started m) u y.0 o (rw ordered (omega (arith, s))) p k g.0)

    replaces : (child began : ℕ) (b : Books) (x : TaskView) → x.state ≡ Running child began → Free no_calls x b
        → Always Ends b (Tree.replace child began time x)
    replaces child began b x e f = forces child began b x (Tree.replace_after time) e f (λ u y g n. begins forced u y Ended refl (refl, refl, refl)
        (replaced c (is_running t.state)) n g) (λ u y fault h. h)

  module _ (none : Continued c (is_running t.state) no_calls) where
    settles : (b : Books) (x : TaskView) → FitsTask no_calls x b → Ends b (x, Settled)
    settles b x h = ends no_calls b x Settled (omega arith) (refl, refl, refl) none h

    signals : (s : CommandState) (signal : ℕ) (o : Outcome) (b : Books) (x : TaskView) → closes o ≡ false → owes o ≤ from_bool (orders c) → MaySetTimer c o
        → FitsTask no_calls x b → Always Ends b (Tree.signal_in s signal o x)
    signals (Running child began) signal o b x e l timed h = always_then moved (λ u y. FitsTask no_calls y.0 u) Ends b
        (Tree.report (Tree.send_signal child (Tree.number_sent signal) x)) _ (report_keeps (λ u y. FitsTask no_calls y.0 u) b
        (Tree.send_signal child (Tree.number_sent signal) x) (λ a. h)) (λ u y f. by u y.0 y.1 f)
      where
        by : (u : Books) (y : TaskView) (r : Result ⊤ Fault) → FitsTask no_calls y u → Ends u (y, Tree.unless_faulted o r)
        by u y (Ok v) f = record {
          holder = f.0;
          roster = rw e f.1;
          grants = f.2;
          starts = omega (arith, ap (λ m. m.starts) f.3, l);
          timed = timed;
          closed = λ g. cc (g, e);
          continued = rw f.3 none;
        }
        by u y (Err fault) f = settles u y f
    signals s signal o b x e l timed h = settles b x h

    gracefully : (signal grace : ℕ) (end : GraceEnd) (b : Books) → owes (Graced grace end) ≤ from_bool (orders c) → MaySetTimer c (Graced grace end)
        → FitsTask no_calls t b → Always Ends b (Tree.end_gracefully signal grace end t)
    gracefully signal grace end b l timed h = always_then moved (λ u x. FitsTask no_calls x u × (x.state ≡ t.state)) Ends b (Tree.resume t) _
        (resume_fits b t.foreground.paused t.state t h) (λ u x f. signals x.state signal (Graced grace end) u x refl l timed f.0)

-- no grant is held where no child runs
only_running : (grant running : Bool) → (grant ≡ true → running ≡ true) → running ≡ false → grant ≡ false
only_running true running h e = cc (h refl, e)
only_running false running h e = refl

pub control_fits : (c : Control) (time : ℕ) (t : TaskView) (b : Books) → FitsTask no_calls t b → Always (Carried c (is_running t.state)) b
    (Tree.control c time t)
control_fits Start time t b h = by (is_running t.state) refl
  where
    by : (running : Bool) → is_running t.state ≡ running → Always (Carried Start (is_running t.state)) b (Tree.start_unless running time t)
    by true e = settles Start t time tt b t h
    by false e = begins Start t time refl no_calls b t Settled refl (refl, refl, refl) tt (childless t.state e)
        (h, only_running t.foreground.grant (is_running t.state) h.0 e)
control_fits Stop time t b h = way_first Stop t time b (λ x. Tree.stop_in x.state time x) h (λ u x f e. by x.state u x refl f)
  where
    by : (s : CommandState) (u : Books) (x : TaskView) → x.state ≡ s → Free no_calls x u → Always (Carried Stop (is_running t.state)) u (Tree.stop_in s time x)
    by (Running child began) u x e f = forces Stop t time child began u x (λ y. done (y.0, Tree.unless_faulted Ended y.1)) e f
        (λ w y g n. ends Stop t time forced w y Ended (omega arith) (refl, refl, refl) tt g.0) (λ w y fault k. k)
    by s u x e f = settles Stop t time tt u x f.0
control_fits (GracefulStop signal grace) time t b h = gracefully (GracefulStop signal grace) t time tt signal grace GraceEnds.Stop b (omega arith) (λ _. refl) h
control_fits TryRestart time t b h = way_first TryRestart t time b (λ x. Tree.restart_in x.state time x) h (λ u x f e. by x.state u x refl f)
  where
    by : (s : CommandState) (u : Books) (x : TaskView) → x.state ≡ s → Free no_calls x u → Always (Carried TryRestart (is_running t.state)) u
        (Tree.restart_in s time x)
    by (Running child began) u x e f = replaces TryRestart t time refl child began u x e f
    by s u x e f = settles TryRestart t time tt u x f.0
control_fits (TryGracefulRestart signal grace) time t b h = gracefully (TryGracefulRestart signal grace) t time tt signal grace GraceEnds.Restart b
    (omega arith) (λ _. refl) h
control_fits ContinueTryGracefulRestart time t b h = way_first ContinueTryGracefulRestart t time b (λ x. Tree.continue_in x.state time x) h
    (λ u x f e. by x.state u x refl (ap is_running e) f)
  where
    by : (s : CommandState) (u : Books) (x : TaskView) → x.state ≡ s → is_running x.state ≡ is_running t.state → Free no_calls x u
        → Always (Carried ContinueTryGracefulRestart (is_running t.state)) u (Tree.continue_in s time x)
    by (Running child began) u x e r f = replaces ContinueTryGracefulRestart t time refl child began u x e f
    by s u x e r f = begins ContinueTryGracefulRestart t time refl no_calls u x Settled refl (refl, refl, refl) (started_alone ContinueTryGracefulRestart
        (is_running t.state) (sym (rw e at r))) (rw e refl) f
control_fits (Signal signal) time t b h = signals (Signal signal) t time tt t.state signal Settled b t refl (omega arith) (λ g. cc) h
control_fits Delete time t b h = always_then moved (λ u x. Free no_calls x u × (x.state ≡ t.state)) (Carried Delete (is_running t.state)) b (Tree.yield t)
    (λ x. Tree.delete_in x.state x) (yield_fits no_calls t.foreground.grant t.state t b refl h.1 h.2 h.3) (λ u x f. by x.state u x refl f.0)
  where
    goes : (u : Books) (x : TaskView) → u.roster ≡ no_child → u.grants ≡ from_bool x.foreground.grant → u.tally ≡ no_calls → (x.foreground.grant ≡ false)
        → Carried Delete (is_running t.state) u (x, Closes)
    goes u x r g l e = record {
      holder = λ k. cc (k, e);
      roster = r;
      grants = g;
      starts = omega (arith, ap (λ m. m.starts) l);
      timed = λ k. cc;
      closed = λ _. e;
      continued = tt;
    }

    by : (s : CommandState) (u : Books) (x : TaskView) → x.state ≡ s → Free no_calls x u → Always (Carried Delete (is_running t.state)) u (Tree.delete_in s x)
    by (Running child began) u x e f = λ a. goes (moved u (to_host (let_go child)) a) x (rw (f.0.1, e) (strike-one_child child)) f.0.2 f.0.3 f.1
    by s u x e f = goes u x (rw e at f.0.1) f.0.2 f.0.3 f.1
control_fits NextEnding time t b h = by (is_running t.state)
  where
    by : (running : Bool) → Carried NextEnding (is_running t.state) b (t, if running then Joined else Settled)
    by true = ends NextEnding t time no_calls b t Joined (omega arith) (refl, refl, refl) tt h
    by false = settles NextEnding t time tt b t h
control_fits (Func n) time t b h = λ a. settles (Func n) t time tt b t h
control_fits c time t b h = settles c t time tt b _ h

-- THE POLL

-- whether it found the child's end
abbrev pub found_end : PollOutcome → Bool
found_end Over = true
found_end Renewed = true
found_end o = false

-- At the end of a poll the books fit the task; a start is tried exactly if a restart was remembered and the child has ended.
pub record Polled (restart : Bool) (b : Books) (x : TaskView × PollOutcome) : Type 0 where
  pub fits : FitsTask b.tally x.0 b
  pub starts : b.tally.starts ≡ from_bool (restart && found_end x.1)
  pub ends : b.tally.ends ≡ from_bool (found_end x.1)

module _ (restart : Bool) (time : ℕ) where
  polled : (m : Tally) (b : Books) (x : TaskView) (o : PollOutcome) → m.starts ≡ from_bool (restart && found_end o) → m.ends ≡ from_bool (found_end o)
      → FitsTask m x b → Polled restart b (x, o)
  polled m b x o s e h = record { fits = (h.0, h.1, h.2, refl); starts = ap (λ m. m.starts) h.3 ∙ s; ends = ap (λ m. m.ends) h.3 ∙ e }

  -- one end was reported
  abbrev one_end : Tally
  one_end = record { kinds = []; starts = 0; failures = 0; ends = 1 }

  follow_fits : (r : Bool) → restart ≡ r → (t : TaskView) (b : Books) → children t.state ≡ no_child → Free one_end t b
      → Always (Polled restart) b (Tree.follow r time t)
  follow_fits false e t b n f = polled one_end b t Over (rw e refl) refl f.0
  follow_fits true e t b n f = always_then moved (λ u x. Free (started one_end) x.0 u) (Polled restart) b (Tree.report (Tree.launch time t)) _
      (launch_fits one_end time t b n f) (λ u x g. by u x.0 x.1 g.0)
    where
      by : (u : Books) (x : TaskView) (r : Result ⊤ Fault) → FitsTask (started one_end) x u → Polled restart u (x, if is_ok r then Renewed else Over)
      by u x (Ok k) g = polled (started one_end) u x Renewed (rw e refl) refl g
      by u x (Err fault) g = polled (started one_end) u x Over (rw e refl) refl g

  pub poll_fits : (t : TaskView) (b : Books) → FitsTask no_calls t b → Always (Polled restart) b (Tree.poll_child restart time t)
  poll_fits t b h = by t.state refl
    where
      none : (o : PollOutcome) → found_end o ≡ false → (u : Books) → FitsTask no_calls t u → Polled restart u (t, o)
      none o e u f = polled no_calls u t o (rw e (no_start restart)) (rw e refl) f
        where
          no_start : (r : Bool) → 0 ≡ from_bool (r && false)
          no_start true = refl
          no_start false = refl

      polls : (child began : ℕ) → t.state ≡ Running child began → (a : Result (Option ProcessEnd) Fault)
          → Always (Polled restart) (moved b (to_host (poll child)) a) (Tree.after_poll restart began time t a)
      polls child began e (Ok None) = none Idle refl b h
      polls child began e (Ok (Some end)) =
          let x = Tree.in_state (Finished end began time) t in
          let u = moved b (to_host (poll child)) (Ok (Some end)) in
          always_then moved (λ w y. Free one_end y w × (y.state ≡ Finished end began time)) (Polled restart) u (Tree.yield x) (Tree.follow restart time)
          (yield_fits one_end t.foreground.grant (Finished end began time) x u refl (rw (h.1, e) (strike-one_child child)) h.2 (ap ended h.3))
          (λ w y f. follow_fits restart refl y w (ap children f.1) f.0)
        where
          ended : Tally → Tally
          ended m = record { kinds = m.kinds; starts = m.starts; failures = m.failures; ends = m.ends + 1 }
      polls child began e (Err fault) = always_then moved (λ u _. FitsTask no_calls t u) (Polled restart) b (Tree.tell_fault t.settings.handler (Err fault))
          (λ _. done (t, Faulted)) (tell_keeps (λ u. FitsTask no_calls t u) b t.settings.handler (Err fault) h) (λ u _ f. none Faulted refl u f)

      by : (s : CommandState) → t.state ≡ s → Always (Polled restart) b (Tree.poll_in s restart time t)
      by (Running child began) e = λ a. polls child began e a
      by s e = none Idle refl b h

-- PAUSES

-- they fit while the child runs, and nothing was done to it
abbrev FitsRunning : Books → TaskView → Type 0
FitsRunning b t = FitsTask no_calls t b × (is_running t.state ≡ true)

try_fits : (wanted : Bool) (own child : ℕ) (t : TaskView) (b : Books) → (wanted ≡ true → t.foreground.grant ≡ false) → FitsRunning b t
    → Always FitsRunning b (Tree.try_grant_if wanted own child t)
try_fits false own child t b g h = h
try_fits true own child t b g h = λ group. tries (Tree.is_ours own child group)
  where
    acquires : (a : Result ⊤ Fault) → FitsRunning (moved b (to_terminal (acquire child)) a) (Tree.after_acquire t a)
    acquires (Ok u) = ((λ _. h.1, h.0.1, refl, h.0.3), h.1)
    acquires (Err fault) = h

    tries : (ours : Bool) → Always FitsRunning b (Tree.acquire_if ours child t)
    tries true = λ a. acquires a
    tries false = h

take_fits : (own child signal : ℕ) (t : TaskView) (b : Books) → FitsRunning b t → Always FitsRunning b (Tree.take_pause own child signal t)
take_fits own child signal t b h = by (signal == 18) (signal == 21 || signal == 22)
  where
    wants : (wanted held : Bool) → wanted && not held ≡ true → held ≡ false
    wants true true e = cc e
    wants false true e = cc e
    wants wanted false e = refl

    conts : (u : Books) (x : TaskView) (a : Result ⊤ Fault) → FitsRunning u x → FitsRunning (moved u (to_host (cont child)) a) (Tree.after_cont signal x a)
    conts u x (Ok k) f = f
    conts u x (Err fault) f = f

    continues : (wanted : Bool) → Always FitsRunning b (Tree.on_terminal_use wanted own child signal t)
    continues false = h
    continues true = always_then moved FitsRunning FitsRunning b (Tree.try_grant_if (not t.foreground.grant) own child t) _
        (try_fits (not t.foreground.grant) own child t b (wants true t.foreground.grant) h) (λ u x f a. conts u x a f)

    begins_pause : (held : Bool) → Always FitsRunning b (Tree.on_stop held signal t)
    begins_pause false = h
    begins_pause true = λ a. ((unheld t.state, h.0.1, refl, h.0.3), h.1)

    by : (goes wants_terminal : Bool) → Always FitsRunning b (if goes then Tree.on_continue own child t else if wants_terminal then Tree.on_terminal_use
        (wants_grant t.command) own child signal t else Tree.on_stop t.foreground.grant signal t)
    by true w = try_fits (wants_grant t.command && not t.foreground.grant) own child (Tree.forget_pause t) b (wants (wants_grant t.command) t.foreground.grant)
        h
    by false true = continues (wants_grant t.command)
    by false false = begins_pause t.foreground.grant

-- books that fit the task fit it at the end of a pause step, and nothing was done to the child
pub pause_fits : (own : ℕ) (t : TaskView) (b : Books) → FitsTask no_calls t b → Always (λ u x. FitsTask no_calls x.0 u) b (Tree.pause own t)
pause_fits own t b h = by t.state t.foreground.pauses refl
  where
    by : (s : CommandState) (signals : List ℕ) → t.state ≡ s → Always (λ u x. FitsTask no_calls x.0 u) b (Tree.pause_in s signals own t)
    by (Running child began) (signal ∷ rest) e = always_then moved FitsRunning (λ u x. FitsTask no_calls x.0 u) b
        (Tree.take_pause own child signal (Tree.with_pauses rest t)) _ (take_fits own child signal (Tree.with_pauses rest t) b (h, rw e refl)) (λ u x f. f.0)
    by s signals e = h
