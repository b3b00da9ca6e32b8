use Rattle.std.proofs.Common.{◌≡◌, ℕ, List, [], ◌∷◌, Some, refl}
use Rattle.ring.specs.Queue.{items_of}
use Rattle.ring.specs.Ring.{first, rest}
use Rattle.host.specs.declared.state.CommandState.{CommandState}
use Rattle.host.specs.declared.state.CommandState.TheVariants.{Running}
use Rattle.host.specs.Interaction.{done, bind}
use Rattle.task.specs.Performs.{task_of}
use Rattle.task.specs.Task as Tree
use Rattle.task.specs.Task.{TaskView}
use Rattle.task.proofs.Performing.{still_at, from_change, and_then}
use Rattle.task.proofs.step.Step.pause.Goals as goal

-- the tree where a pause waits while a child runs
takes : (state : CommandState) (pauses left : List ℕ) (own child began signal : ℕ) (t : TaskView) → state ≡ Running child began → Some signal ≡ first pauses
    → left ≡ rest pauses → Tree.pause_in state pauses own t ≡ bind (Tree.take_pause own child signal (Tree.with_pauses left t)) (λ t₁. done (t₁, Some signal))
takes state [] left own child began signal t e f g = cc
takes state (x ∷ xs) left own child began signal t e f g =
    let oldest : x ≡ signal = cc in
    rw (e, g, ← oldest) refl

pub returns : goal.returns
returns g c =
    let t = task_of c.args.self.now in
    let signal = c.in_ok-signal.signal in
    let left = items_of c.pop.new.self in
    rw (takes t.state t.foreground.pauses left c.args.own c.in-Running.child c.in-Running.started signal t c.in-Running.is c.in_ok-signal.ensures.answer
    c.pop.ensures.after)
    (from_change (and_then (Tree.take_pause c.args.own c.in-Running.child signal (Tree.with_pauses left t)) (λ t₁. done (t₁, Some signal)) c.take_pause.ensures
    (still_at refl)))
