-- The loop over the calls keeps the run so far.
use Rattle.supervisor.specs.Steps.{moment}
use Rattle.drive.proofs.Histories.{SoFar}
use Rattle.drive.proofs.runs.drive.Given as goal

abbrev pub invariant-loop-i : goal.invariant-loop-i
invariant-loop-i g l =
    SoFar g.H.Host g.T.Terminal l.calls l.i (moment l.initial.job l.initial.host l.initial.terminal l.initial.sheet) l.initial.answers l.tally.tried
    l.tally.ordered (moment l.job l.host l.terminal l.sheet) l.answers
