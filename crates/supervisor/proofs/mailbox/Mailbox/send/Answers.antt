-- Room for two controls leaves room for the second once the first was admitted.
use Rattle.std.proofs.Common.{◌≡◌, true, false, subst, sym, ap, arith}
use Rattle.std.proofs.lemmas.Grind.{common_steps}
use Rattle.tickets.proofs.Tables.{room_rest}
use Rattle.tickets.specs.Tickets.{new_mark}
use Rattle.supervisor.specs.declared.queues.Priority.{Priority}
use Rattle.supervisor.specs.Mailbox.{QueuesView, MailboxView, enqueue, queue_room, serial_room}
use Rattle.supervisor.specs.View.{mailbox_view}
use Rattle.task.specs.declared.messages.ControlMessage.{ControlMessage}
use Rattle.supervisor.proofs.mailbox.Mailbox.send.Goals as goal

queue_rest : (p : Priority) (c : ControlMessage) (q : QueuesView) → queue_room p 2 q ≡ true → queue_room p 1 (enqueue p c q) ≡ true
queue_rest p c q e = grind (arith, common_steps)

pub admit-requires-3-clause-queue : goal.admit-requires-3-clause-queue
admit-requires-3-clause-queue c = rw (ap (λ m. m.queues) c.admit-2.ensures.after) (queue_rest c.args.priority _ (mailbox_view c.args.self.now).queues
    (grind (arith, c.in-Some.is)))

pub admit-requires-3-clause-ticket : goal.admit-requires-3-clause-ticket
admit-requires-3-clause-ticket c = subst (λ (m : MailboxView). serial_room 1 m ≡ true) (sym c.admit-2.ensures.after) (let m = mailbox_view c.args.self.now in
    room_rest 1 m.tickets.issued (new_mark false) m.tickets.table (grind (arith, c.in-Some.is)))
