-- The mailbox of a job: how messages are sent and taken, and what becomes of tickets.
use Rattle.std.specs.Prelude.{ℕ, ◌+◌, ◌-◌, Bool, true, false, if◌then◌else◌, not, ◌&&◌, List, [], ◌∷◌, ◌++◌, length, is_some, Some, None, Ok, Err, Option, Result, nat_le, ⊤}
use Rattle.std.specs.Option.{option_map}
use Rattle.std.specs.Result.{result_and}
use Rattle.tickets.specs.Tickets.{TicketsView, Table, fresh_tickets, give, raise, raise_each, ticket_room, vacate}
use Rattle.supervisor.specs.declared.errors.Refusal.{Refusal}
use Rattle.supervisor.specs.declared.errors.Refusal.TheVariants as Refusals
use Rattle.task.specs.Messages.{orders}
use Rattle.task.specs.declared.messages.Control.{Control}
use Rattle.task.specs.declared.messages.ControlMessage.{ControlMessage}
use Rattle.supervisor.specs.declared.queues.Priority.{Priority}
use Rattle.supervisor.specs.declared.queues.Priority.TheVariants.{Normal, High, Urgent}
use Rattle.supervisor.specs.declared.timer.Timer.{Timer}
use Rattle.supervisor.specs.declared.mailbox.Received.{Received}
use Rattle.supervisor.specs.declared.mailbox.Source.{Source}
use Rattle.supervisor.specs.declared.mailbox.Source.TheVariants as Sources
use Rattle.supervisor.specs.Sends.{all_fit}
use Rattle.supervisor.specs.Timers.{due_message, memory}
use Rattle.task.specs.declared.task.Outcome.{Outcome}
use Rattle.task.specs.declared.task.Outcome.TheVariants.{Settled, Ended, Graced, Joined, Closes}
use Rattle.task.specs.declared.task.PollOutcome.{PollOutcome}
use Rattle.task.specs.declared.task.PollOutcome.TheVariants.{Over, Renewed}

-- the messages that wait, oldest first
pub record QueuesView : Type 0 where
  pub normal : List ControlMessage
  pub high : List ControlMessage
  pub urgent : List ControlMessage

pub record MailboxView : Type 0 where
  pub queues : QueuesView
  -- the timer that is pending
  pub timer : Option Timer
  -- the tickets that wait for the child's end
  pub ending : List ℕ
  pub tickets : TicketsView

abbrev pub with_queues : QueuesView → MailboxView → MailboxView
with_queues q m = record m { queues = q }

abbrev pub with_timer : Option Timer → MailboxView → MailboxView
with_timer t m = record m { timer = t }

abbrev pub with_table : Table → MailboxView → MailboxView
with_table t m = record m { tickets = record m.tickets { table = t } }

-- SENDING

abbrev pub queue_of : Priority → QueuesView → List ControlMessage
queue_of Normal q = q.normal
queue_of High q = q.high
queue_of Urgent q = q.urgent

abbrev pub capacity : Priority → ℕ
capacity Normal = 128
capacity High = 64
capacity Urgent = 16

abbrev pub enqueue : Priority → ControlMessage → QueuesView → QueuesView
enqueue Normal c q = record q { normal = q.normal ++ c ∷ [] }
enqueue High c q = record q { high = q.high ++ c ∷ [] }
enqueue Urgent c q = record q { urgent = q.urgent ++ c ∷ [] }

-- a queue has room for n messages more
abbrev pub queue_room : Priority → ℕ → QueuesView → Bool
queue_room p n q = nat_le n (capacity p - length (queue_of p q))

-- n tickets more can be given
abbrev pub serial_room : ℕ → MailboxView → Bool
serial_room n m = ticket_room n m.tickets.issued m.tickets.table

abbrev pub message : Control → ℕ → ControlMessage
message control ticket = record { control = control; ticket = ticket }

-- the control gets the next ticket, held or not, and waits in its queue
abbrev pub admit : Priority → Control → Bool → MailboxView → MailboxView
admit p c held m = record m {
  queues = enqueue p (message c (m.tickets.issued + 1)) m.queues;
  tickets = give (m.tickets.issued + 1) held m.tickets;
}

-- each control gets a ticket, and the last one's is held
abbrev pub admit_all : Priority → List Control → MailboxView → MailboxView
admit_all p [] m = m
admit_all p (c ∷ []) m = admit p c true m
admit_all p (c ∷ d ∷ cs) m = admit_all p (d ∷ cs) (admit p c false m)

-- a queue and the ticket table have room for n controls more, or what lacks it
abbrev pub has_room : Priority → ℕ → MailboxView → Result ⊤ Refusal
has_room p n m = if not (queue_room p n m.queues) then Err Refusals.Queue else if serial_room n m then Ok tt else Err Refusals.Tickets

-- a send may be made, or is refused: for what its controls carry, or for want of room
abbrev pub may_send : Priority → List Control → MailboxView → Result ⊤ Refusal
may_send p cs m = result_and (all_fit cs) (has_room p (length cs) m)

abbrev pub send_if : Result ⊤ Refusal → Priority → List Control → MailboxView → MailboxView × Result ℕ Refusal
send_if (Err r) p cs m = (m, Err r)
send_if (Ok u) p cs m = (admit_all p cs m, Ok (m.tickets.issued + length cs))

-- a send is refused and changes nothing, or all its controls are admitted and the last one's ticket answered
abbrev pub send : Priority → List Control → MailboxView → MailboxView × Result ℕ Refusal
send p cs m = send_if (may_send p cs m) p cs m

-- TAKING

-- what is taken from the queues: nothing, or a message, with the queues that it leaves
abbrev pub NextResult : Type 0
NextResult = Option (ControlMessage × QueuesView)

abbrev pub take_normal : Bool → List ControlMessage → QueuesView → NextResult
take_normal true cs q = None
take_normal false [] q = None
take_normal false (c ∷ cs) q = Some (c, record q { normal = cs })

abbrev pub take_high : Bool → List ControlMessage → QueuesView → NextResult
take_high graced [] q = take_normal graced q.normal q
take_high graced (c ∷ cs) q = Some (c, record q { high = cs })

abbrev pub take_urgent : Bool → List ControlMessage → QueuesView → NextResult
take_urgent graced [] q = take_high graced q.high q
take_urgent graced (c ∷ cs) q = Some (c, record q { urgent = cs })

-- the oldest urgent message, else the oldest high one, else, unless a grace runs, the oldest normal one
abbrev pub next : Bool → QueuesView → NextResult
next graced q = take_urgent graced q.urgent q

-- what a control step takes: nothing, or a message with its source, and the mailbox that it leaves
abbrev pub TakeResult : Type 0
TakeResult = Option (Received × MailboxView)

abbrev pub message_from : ControlMessage → Source → Received
message_from c source = record { message = c; source = source }

abbrev pub take_from_queues : MailboxView → TakeResult
take_from_queues m = option_map (λ x. (message_from x.0 Sources.Queue, with_queues x.1 m)) (next (is_some m.timer) m.queues)

abbrev pub take_due : Option ControlMessage → MailboxView → TakeResult
take_due None m = take_from_queues m
take_due (Some c) m = Some (message_from c Sources.Timer, with_timer None m)

-- the timer's message if its deadline has come, with which the timer is gone; else the next of the queues
abbrev pub take : ℕ → MailboxView → TakeResult
take time m = take_due (due_message time m.timer) m

abbrev pub is_queue : Source → Bool
is_queue Sources.Queue = true
is_queue Sources.Timer = false

-- a control that orders a start was taken from a queue
abbrev pub orders_start : Received → Bool
orders_start r = is_queue r.source && orders r.message.control

-- RAISING

abbrev pub raise_ticket : ℕ → MailboxView → MailboxView
raise_ticket ticket m = with_table (raise ticket m.tickets.table) m

-- each ticket of the ending list is raised, and the list is empty
abbrev pub raise_endings : MailboxView → MailboxView
raise_endings m = record m { ending = []; tickets = record m.tickets { table = raise_each m.ending m.tickets.table } }

-- what an outcome at this time makes of the ticket of a control
abbrev pub settle : ℕ → Outcome → ℕ → MailboxView → MailboxView
settle time Settled ticket m = raise_ticket ticket m
settle time Ended ticket m = raise_ticket ticket (raise_endings m)
settle time (Graced grace end) ticket m = with_timer (Some (record { deadline = time + grace; ticket = ticket; end = end })) m
settle time Joined ticket m = record m { ending = m.ending ++ ticket ∷ [] }
settle time Closes ticket m = raise_ticket ticket m

-- the timer is gone, and its ticket is raised
abbrev pub raise_timer : Option Timer → MailboxView → MailboxView
raise_timer None m = m
raise_timer (Some t) m = raise_ticket t.ticket (with_timer None m)

-- the child has ended: the timer's ticket is raised, and then the ending list
abbrev pub raise_at_end : MailboxView → MailboxView
raise_at_end m = raise_endings (raise_timer m.timer m)

-- the ticket that was remembered is raised again
abbrev pub raise_again : Option ℕ → MailboxView → MailboxView
raise_again None m = m
raise_again (Some ticket) m = raise_ticket ticket m

-- what a poll makes of the tickets that wait for the child's end
abbrev pub settle_poll : PollOutcome → MailboxView → MailboxView
settle_poll Over m = raise_at_end m
settle_poll Renewed m = raise_again (memory m.timer) (raise_at_end m)
settle_poll outcome m = m

-- the place of a ticket is freed
abbrev pub vacate_ticket : ℕ → MailboxView → MailboxView
vacate_ticket ticket m = with_table (vacate ticket m.tickets.table) m

-- an empty mailbox
abbrev pub empty_mailbox : MailboxView
empty_mailbox = record { queues = record { normal = []; high = []; urgent = [] }; timer = None; ending = []; tickets = fresh_tickets }
