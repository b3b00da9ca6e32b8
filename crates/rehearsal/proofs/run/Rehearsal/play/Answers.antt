-- A call is made as it is defined.
use Rattle.std.proofs.Common.{◌≡◌, length, rules}
use Rattle.rehearsal.proofs.Runs.{call_made}
use Rattle.rehearsal.proofs.run.Rehearsal.play.Goals as goal

pub returns-in-Call : goal.returns-in-Call
returns-in-Call c =
    let places : length c.args.self.now.sheet ≡ 8 = search rules in
    rw c.in-Call.is (call_made _ _ c.in-Call.call _ places c.make-in-Call.ensures)
