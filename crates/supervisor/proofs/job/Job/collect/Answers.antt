-- What a look calls done is raised, so that its place may be freed.
use Rattle.std.proofs.Common.{arith}
use Rattle.tickets.proofs.Tables.{change-length}
use Rattle.supervisor.proofs.Mailboxes.{vacate_in}
use Rattle.supervisor.proofs.job.Job.collect.Goals as goal

pub invariant_of-self-clause-in_order : goal.invariant_of-self-clause-in_order
invariant_of-self-clause-in_order c e = rw c.vacate.ensures (vacate_in _ _ (c.args.self.now.in_order e) (grind arith))

pub invariant_of-self-clause-full : goal.invariant_of-self-clause-full
invariant_of-self-clause-full c = grind (arith, change-length)
