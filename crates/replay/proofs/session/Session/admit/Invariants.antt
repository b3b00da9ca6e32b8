-- Whatever was spawned, only the groups of the session have changed.
use Rattle.replay.specs.Terminals.{OnlyGroups}
use Rattle.replay.proofs.session.Session.admit.Given as goal

abbrev pub invariant-loop-record : goal.invariant-loop-record
invariant-loop-record l = OnlyGroups l.initial.self l.self
