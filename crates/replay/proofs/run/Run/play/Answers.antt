-- A call is made, and then groups join the session.
use Rattle.std.proofs.Common.{refl}
use Rattle.replay.proofs.run.Run.play.Goals as goal

pub returns-in-Call : goal.returns-in-Call
returns-in-Call c = rw c.in-Call.is (c.call-done.result, c.call-done.new.self, refl, c.call-done.ensures, c.admit.ensures, refl)
