-- How runs of interaction trees in a step are put together.
use Rattle.std.proofs.Common.{◌≡◌, ℕ, ◌+◌, ◌≤◌, [], ◌∷◌, ◌++◌, refl, ap, ◌∙◌, arith}
use Rattle.host.specs.declared.process.Host as Host
use Rattle.host.specs.declared.terminal.Terminal as Terminal
use Rattle.host.specs.declared.state.ProcessEnd.{ProcessEnd}
use Rattle.host.specs.declared.state.CommandState.{CommandState}
use Rattle.host.specs.declared.state.CommandState.TheVariants.{Pending, Running, Finished}
use Rattle.host.specs.Calls.{Call, Reply}
use Rattle.host.specs.Interaction.{Interaction, done, bind, call}
use Rattle.task.specs.declared.step.Step.{Step}
use Rattle.task.specs.declared.task.Task.{Task}
use Rattle.task.specs.Performs.{Performs, Asks, LendsSame, IsRecorded, step_world}
use Rattle.task.proofs.Running.{traces-bind}

module _ {H T : Type 0} where
  same_then : {s m s' : Step H T} → LendsSame s m → LendsSame m s' → LendsSame s s'
  same_then a b = record {
    task = b.task ∙ a.task;
    host = b.host ∙ a.host;
    terminal = b.terminal ∙ a.terminal;
    sheet = b.sheet ∙ a.sheet;
    time = b.time
        ∙ a.time;
  }

module _ {H T : Type 0} {by_host : Host.Ghosts H} {by_terminal : Terminal.Ghosts T} where
  -- nothing was asked; only the task may have another value
  pub still_at : {A : Type 0} {x y : A} {s : Step H T} {k : Task} → x ≡ y → Performs by_host by_terminal 0 (done y) s x
      (record s { task = record s.task { now = k } })
  still_at e =
      record {
        trace = [];
        traces = (refl, e, refl);
        used = omega arith;
        same = record { task = refl; host = refl; terminal = refl; sheet = refl; time = refl };
      }

  -- the same run from a step whose task had another value
  pub from_change : {A : Type 0} {t : Interaction A} {n : ℕ} {s s' : Step H T} {x : A} {k : Task} → Performs by_host by_terminal n t
      (record s { task = record s.task { now = k } }) x s' → Performs by_host by_terminal n t s x s'
  from_change u =
      let same = u.same in
      record {
        trace = u.trace;
        traces = u.traces;
        used = u.used;
        same = record {
          task = same.task;
          host = same.host;
          terminal = same.terminal;
          sheet = same.sheet;
          time = same.time;
        };
      }

  -- the same run, with the tree at an equal value
  pub at_value : {A V : Type 0} (f : V → Interaction A) {v w : V} {n : ℕ} {s s' : Step H T} {x : A} → v ≡ w → Performs by_host by_terminal n (f v) s x s'
      → Performs by_host by_terminal n (f w) s x s'
  at_value f e k = rw (← e) k

  -- the same run, with the tree at a state in which no child runs and which does as Pending does
  pub where_idle : {A : Type 0} (f : CommandState → Interaction A) (state : CommandState) {n : ℕ} {s s' : Step H T} {x : A}
      → ((child began : ℕ) → state ≡ Running child began → ⊥) → ((end : ProcessEnd) (began finished : ℕ) → f (Finished end began finished) ≡ f Pending)
      → Performs by_host by_terminal n (f Pending) s x s' → Performs by_host by_terminal n (f state) s x s'
  where_idle f Pending idle same k = k
  where_idle f (Running child began) idle same k = absurd (idle child began refl)
  where_idle f (Finished end began finished) idle same k = rw (same end began finished) k

  -- one call
  pub one_call : {c : Call} {a : Reply c} {s s' : Step H T} → Asks by_host by_terminal c s a s' → Performs by_host by_terminal 1 (call c) s a s'
  one_call {c} {a} {s} {s'} k = record {
    trace = (c, a) ∷ [];
    traces = (a, step_world s', [], refl, k.recorded, (refl, refl, refl));
    used = omega
        (arith, k.recorded.2);
    same = k.same;
  }

  -- where a tree is done, no call was made
  pub none_made : {A : Type 0} {x y : A} {n : ℕ} {s s' : Step H T} → Performs by_host by_terminal n (done y) s x s' → Performs by_host by_terminal 0 (done y) s x s'
  none_made u = record { trace = u.trace; traces = u.traces; used = omega (arith, ap (λ w. w.used) u.traces.2); same = u.same }

  -- one tree, and the one that follows from its value
  pub and_then : {A B : Type 0} (t : Interaction A) (f : A → Interaction B) {a b : ℕ} {s m s' : Step H T} {x : A} {y : B}
      → Performs by_host by_terminal a t s x m → Performs by_host by_terminal b (f x) m y s' → Performs by_host by_terminal (a + b) (bind t f) s y s'
  and_then t f {s = s} {m = m} {s' = s'} {x = x} {y = y} u v =
      record {
        trace = u.trace ++ v.trace;
        traces = traces-bind (IsRecorded by_host by_terminal) t f (step_world s) (step_world m) (step_world s') u.trace
            v.trace x y u.traces v.traces;
        used = omega (arith, u.used, v.used);
        same = same_then u.same v.same;
      }

  -- fewer calls than allowed
  pub at_most : {A : Type 0} {t : Interaction A} {a : ℕ} {s s' : Step H T} {x : A} (b : ℕ) → a ≤ b → Performs by_host by_terminal a t s x s'
      → Performs by_host by_terminal b t s x s'
  at_most b l u = record { trace = u.trace; traces = u.traces; used = omega (arith, u.used); same = u.same }
