-- What holds of every job that exists, whatever host and terminal it was lent.
use Rattle.std.specs.Prelude.{◌≡◌, ℕ, ◌+◌, ◌<◌, ◌≤◌, Bool, false, List, length, map, Some, None, Option}
use Rattle.std.specs.List.{list_any}
use Rattle.tickets.specs.Tickets.{is_waiting, is_taken}
use Rattle.tickets.specs.Weights.{weight, weigh, one_at}
use Rattle.task.specs.Messages.{sets_timer}
use Rattle.task.specs.declared.messages.ControlMessage.{ControlMessage}
use Rattle.supervisor.specs.declared.timer.Timer.{Timer}
use Rattle.supervisor.specs.Mailbox.{QueuesView, MailboxView}

-- the weight of the tickets of messages, where a ticket t weighs w t
abbrev pub weigh_messages : (ℕ → ℕ) → List ControlMessage → ℕ
weigh_messages w cs = weigh w (map (λ c. c.ticket) cs)

abbrev pub weigh_queues : (ℕ → ℕ) → QueuesView → ℕ
weigh_queues w q = weigh_messages w q.normal + weigh_messages w q.high + weigh_messages w q.urgent

abbrev pub weigh_timer : (ℕ → ℕ) → Option Timer → ℕ
weigh_timer w None = 0
weigh_timer w (Some t) = w t.ticket

-- of all tickets that wait in a queue, the timer or the ending list
abbrev pub weigh_waiting : (ℕ → ℕ) → MailboxView → ℕ
weigh_waiting w m = weigh_queues w m.queues + weigh_timer w m.timer + weigh w m.ending

-- the tickets in hand, and those that wait in a queue, the timer or the ending list, are those that wait in the table, each as
-- often: their weights are equal, whatever a ticket weighs
abbrev pub IsBalanced : List ℕ → MailboxView → Type 0
IsBalanced hand m = (w : ℕ → ℕ) → weigh w hand + weigh_waiting w m ≡ weight is_waiting w m.tickets.table

-- a ticket has at most one place in the table
abbrev pub HasOnePlace : MailboxView → Type 0
HasOnePlace m = (s : ℕ) → weight is_taken (one_at s) m.tickets.table ≤ 1

-- and none before it is issued
abbrev pub HasNoneLater : MailboxView → Type 0
HasNoneLater m = (s : ℕ) → m.tickets.issued < s → weight is_taken (one_at s) m.tickets.table ≡ 0

-- the table has its 256 places
abbrev pub HasAllPlaces : MailboxView → Type 0
HasAllPlaces m = length m.tickets.table ≡ 256

-- what is taken during a grace sets no timer: no message of the high and the urgent queue does
abbrev pub any_timed : List ControlMessage → Bool
any_timed cs = list_any (λ c. sets_timer c.control) cs

pub record IsCalm (q : QueuesView) : Type 0 where
  pub high : any_timed q.high ≡ false
  pub urgent : any_timed q.urgent ≡ false

-- the mailbox is in order while the tickets `hand` are in hand
pub record IsInOrder (hand : List ℕ) (m : MailboxView) : Type 0 where
  pub balance : IsBalanced hand m
  pub once : HasOnePlace m
  pub later : HasNoneLater m
  pub calm : IsCalm m.queues
  pub full : HasAllPlaces m
