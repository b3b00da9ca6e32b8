-- What a job's parts hold, as the definitions speak of it.
use Rattle.ring.specs.Queue.{items_of}
use Rattle.supervisor.specs.declared.queues.Queues.{Queues}
use Rattle.supervisor.specs.declared.mailbox.Mailbox.{Mailbox}
use Rattle.supervisor.specs.Mailbox.{QueuesView, MailboxView}

abbrev pub queues_view : Queues → QueuesView
queues_view q = record { normal = items_of q.normal; high = items_of q.high; urgent = items_of q.urgent }

abbrev pub mailbox_view : Mailbox → MailboxView
mailbox_view m = record { queues = queues_view m.queues; timer = m.timer; ending = items_of m.ending; tickets = m.tickets }
