-- A part whose fault is told.
use Rattle.std.proofs.Common.{ℕ, ◌+◌, Result, refl}
use Rattle.std.specs.Prelude.{⊤}
use Rattle.host.specs.declared.fault.Fault.{Fault}
use Rattle.host.specs.declared.process.Host as Host
use Rattle.host.specs.declared.terminal.Terminal as Terminal
use Rattle.task.specs.declared.step.Step.{Step}
use Rattle.task.specs.Performs.{Performs}
use Rattle.task.specs.Task as Tree
use Rattle.task.proofs.Performing.{still_at, and_then}

pub telling : {H T : Type 0} {by_host : Host.Ghosts H} {by_terminal : Terminal.Ghosts T} (part : Tree.Part) {a b : ℕ} {s m s' : Step H T} {t : Tree.TaskView}
    {r : Result ⊤ Fault} → Performs by_host by_terminal a part s (t, r) m → Performs by_host by_terminal b (Tree.tell_fault t.settings.handler r) m tt s'
    → Performs by_host by_terminal (a + (b + 0)) (Tree.report part) s (t, r) s'
telling part {t = t} {r = r} p q = and_then part _ p (and_then (Tree.tell_fault t.settings.handler r) _ q (still_at refl))
