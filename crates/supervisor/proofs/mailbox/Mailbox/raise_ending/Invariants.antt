-- The tickets that were gone over are raised.
use Rattle.std.proofs.Common.{◌≡◌, map}
use Rattle.tickets.specs.Tickets.{raise_each}
use Rattle.supervisor.proofs.mailbox.Mailbox.raise_ending.Given as goal

abbrev pub invariant-loop-ticket : goal.invariant-loop-ticket
invariant-loop-ticket l = l.tickets ≡ record l.initial.tickets { table = raise_each (map (λ ticket. ticket.now) l.yielded) l.initial.tickets.table }
