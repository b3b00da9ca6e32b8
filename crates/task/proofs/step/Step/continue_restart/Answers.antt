use Rattle.std.proofs.Common.{ℕ, arith, refl, sym}
use Rattle.host.specs.declared.state.CommandState.{CommandState}
use Rattle.task.specs.declared.task.Outcome.TheVariants.{Settled}
use Rattle.task.specs.Performs.{task_of}
use Rattle.task.specs.Task as Tree
use Rattle.task.proofs.Performing.{at_value, where_idle, at_most, and_then}
use Rattle.task.proofs.step.Step.continue_restart.Goals as goal

pub returns-in_default : goal.returns-in_default
returns-in_default g c =
    let s = c.args.self.now in
    let t = task_of c.make_way.new.self in
    at_most 7 (omega arith)
    (and_then (Tree.make_way (task_of s)) _ c.make_way.ensures
    (where_idle (λ (state : CommandState). Tree.continue_in state s.time t) t.state c.in_default.not-Running (λ _ _ _. refl)
    (at_value (λ (time : ℕ). Tree.begin time Settled t) c.make_way.ensures.same.time c.begin.ensures)))

pub returns : goal.returns
returns g c =
    let s = c.args.self.now in
    let t = task_of c.make_way.new.self in
    and_then (Tree.make_way (task_of s)) _ c.make_way.ensures
    (at_value (λ (state : CommandState). Tree.continue_in state s.time t) (sym c.in-Running.is)
    (at_value (λ (time : ℕ). Tree.replace c.in-Running.child c.in-Running.started time t) c.make_way.ensures.same.time c.replace.ensures))
