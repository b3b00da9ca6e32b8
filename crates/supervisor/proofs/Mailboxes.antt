-- The mailbox stays in order: sending, taking, raising and collecting keep its tickets in balance.
use Rattle.std.proofs.Common.{◌≡◌, ℕ, ◌+◌, ◌<◌, Bool, true, false, not, Some, None, Ok, Err, Option, Result, List, [], ◌∷◌, ◌++◌, length, refl, sym, ◌∙◌, arith}
use Rattle.std.specs.List.{list_all}
use Rattle.std.proofs.lemmas.Grind.{common_steps}
use Rattle.std.proofs.lemmas.List.Folds.{list_any-append}
use Rattle.tickets.specs.declared.flag.Mark.TheVariants.{Raised}
use Rattle.tickets.specs.Tickets.{is_waiting, new_mark, raise_each, ticket_room, mark_of}
use Rattle.tickets.specs.Weights.{weight, one_at, unit_weight}
use Rattle.tickets.proofs.Tables.{weigh-append, weigh-each, one_at-same, taken_parts, raise_waiting, raise-taken, raise_none, put-weight, room_first, room_rest, vacate_waiting, vacate-taken, waiting_few, change-length}
use Rattle.task.specs.Messages.{sets_timer}
use Rattle.task.specs.Task.{is_graced}
use Rattle.task.specs.declared.messages.Control.{Control}
use Rattle.task.specs.declared.messages.ControlMessage.{ControlMessage}
use Rattle.task.specs.declared.messages.GraceEnd.{GraceEnd}
use Rattle.task.specs.declared.messages.GraceEnd.TheVariants.{Stop, Restart}
use Rattle.supervisor.specs.declared.queues.Priority.{Priority}
use Rattle.supervisor.specs.declared.queues.Priority.TheVariants.{Normal}
use Rattle.supervisor.specs.declared.mailbox.Received.{Received}
use Rattle.supervisor.specs.declared.timer.Timer.{Timer}
use Rattle.std.specs.Prelude.{⊤}
use Rattle.supervisor.specs.declared.errors.Refusal.{Refusal}
use Rattle.supervisor.specs.declared.sends.Send.{Send}
use Rattle.supervisor.specs.Sends.{priority_of, controls_of}
use Rattle.task.specs.declared.task.Outcome.{Outcome}
use Rattle.task.specs.declared.task.Outcome.TheVariants.{Settled, Ended, Graced, Joined, Closes}
use Rattle.task.specs.declared.task.PollOutcome.{PollOutcome}
use Rattle.task.specs.declared.task.PollOutcome.TheVariants.{Over, Renewed}
use Rattle.supervisor.specs.Mailbox.{QueuesView, MailboxView, with_table, with_timer, serial_room, message, enqueue, admit, may_send, send_if, send, admit_all, next, take, raise_ticket, raise_endings, raise_timer, raise_at_end, raise_again, settle, settle_poll, vacate_ticket}
use Rattle.supervisor.specs.Timers.{memory_of, memory}
use Rattle.supervisor.specs.Sound.{weigh_queues, IsBalanced, IsCalm, IsInOrder}

-- RAISING

-- the ticket in hand is raised
raise_in : (t : ℕ) (hand : List ℕ) (m : MailboxView) → IsInOrder (t ∷ hand) m → IsInOrder hand (raise_ticket t m)
raise_in t hand m h = grind (arith, h.balance (one_at t), raise_waiting, raise-taken t m.tickets.table, change-length)

raise_each_in : (ts hand : List ℕ) (m : MailboxView) → IsInOrder (ts ++ hand) m → IsInOrder hand (with_table (raise_each ts m.tickets.table) m)
raise_each_in [] hand m h = h
raise_each_in (t ∷ ts) hand m h = raise_each_in ts hand (raise_ticket t m) (raise_in t (ts ++ hand) m h)

-- the ending list is raised
endings_in : (hand : List ℕ) (m : MailboxView) → IsInOrder hand m → IsInOrder hand (raise_endings m)
endings_in hand m h = grind (arith, weigh-append, raise_each_in m.ending hand (record m { ending = [] }))

-- TAKING

-- a message was taken: its ticket is in hand, and where its control sets a timer, none is pending
pub record InHand (r : Received) (m : MailboxView) : Type 0 where
  pub order : IsInOrder (r.message.ticket ∷ []) m
  pub free : sets_timer r.message.control ≡ true → m.timer ≡ None

-- what the queues q are once c was taken from them
record Less (graced : Bool) (q : QueuesView) (c : ControlMessage) (q' : QueuesView) : Type 0 where
  weight : (w : ℕ → ℕ) → w c.ticket + weigh_queues w q' ≡ weigh_queues w q
  calm : IsCalm q'
  free : sets_timer c.control ≡ true → graced ≡ false

less : (graced : Bool) (q : QueuesView) (c : ControlMessage) (q' : QueuesView) → IsCalm q → next graced q ≡ Some (c, q') → Less graced q c q'
less graced q c q' h e = grind (arith, common_steps)

pub take_in : (time : ℕ) (m : MailboxView) (r : Received) (n : MailboxView) → IsInOrder [] m → take time m ≡ Some (r, n) → InHand r n
take_in time m r n h e = grind (arith, common_steps, less)

-- OUTCOMES

pub settle_in : (time : ℕ) (o : Outcome) (t : ℕ) (m : MailboxView) → IsInOrder (t ∷ []) m → (is_graced o ≡ true → m.timer ≡ None)
    → IsInOrder [] (settle time o t m)
settle_in time Settled t m h f = raise_in t [] m h
settle_in time Ended t m h f = raise_in t [] (raise_endings m) (endings_in (t ∷ []) m h)
settle_in time (Graced grace end) t m h f = grind (arith, f refl)
settle_in time Joined t m h f = grind (arith, weigh-append)
settle_in time Closes t m h f = raise_in t [] m h

-- the timer's ticket is raised, and it is gone
timer_in : (o : Option Timer) (m : MailboxView) → m.timer ≡ o → IsInOrder [] m → IsInOrder [] (raise_timer o m)
timer_in None m e h = h
timer_in (Some t) m e h = raise_in t.ticket [] (with_timer None m) (grind (arith, e))

ended_in : (m : MailboxView) → IsInOrder [] m → IsInOrder [] (raise_at_end m)
ended_in m h = endings_in [] (raise_timer m.timer m) (timer_in m.timer m refl h)

-- the timer's ticket waits no more, so raising it again changes nothing
raised_once : (t : Timer) (m : MailboxView) → m.timer ≡ Some t → IsInOrder [] m → weight is_waiting (one_at t.ticket) (raise_at_end m).tickets.table ≡ 0
raised_once t m e h =
    let before = h.balance (one_at t.ticket) in
    let after = (ended_in m h).balance (one_at t.ticket) in
    grind (arith, e, before, after, h.once t.ticket, taken_parts (one_at t.ticket) m.tickets.table, one_at-same)

again_in : (o : Option Timer) (m : MailboxView) → m.timer ≡ o → IsInOrder [] m → IsInOrder [] (raise_again (memory o) (raise_at_end m))
again_in None m e h = ended_in m h
again_in (Some t) m e h = by t.end
  where
    by : (end : GraceEnd) → IsInOrder [] (raise_again (memory_of end t.ticket) (raise_at_end m))
    by Stop = ended_in m h
    by Restart = rw (raise_none t.ticket (raise_at_end m).tickets.table (raised_once t m e h)) (ended_in m h)

pub settle_poll_in : (o : PollOutcome) (m : MailboxView) → IsInOrder [] m → IsInOrder [] (settle_poll o m)
settle_poll_in Over m h = ended_in m h
settle_poll_in Renewed m h = again_in m.timer m refl h
settle_poll_in o m h = h

-- a ticket in hand finds a place in the ending list
pub ending_room : (t : ℕ) (m : MailboxView) → IsInOrder (t ∷ []) m → length m.ending < 256
ending_room t m h = grind (arith, h.balance unit_weight, weigh-each, waiting_few)

-- SENDING

weigh_enqueued : (p : Priority) (w : ℕ → ℕ) (c : ControlMessage) (q : QueuesView) → weigh_queues w (enqueue p c q) ≡ weigh_queues w q + w c.ticket
weigh_enqueued p w c q = grind (arith, common_steps, weigh-append)

-- no control that sets a timer goes to a queue that is read during a grace
abbrev safe : Priority → Control → Bool
safe Normal c = true
safe p c = not (sets_timer c)

calm_enqueued : (p : Priority) (c : ControlMessage) (q : QueuesView) → safe p c.control ≡ true → IsCalm q → IsCalm (enqueue p c q)
calm_enqueued p c q f h = grind (arith, common_steps, list_any-append)

admit_in : (p : Priority) (c : Control) (held : Bool) (m : MailboxView) → serial_room 1 m ≡ true → safe p c ≡ true → IsInOrder [] m
    → IsInOrder [] (admit p c held m)
admit_in p c held m room f h =
    let calm : IsCalm (admit p c held m).queues = calm_enqueued p (message c (m.tickets.issued + 1)) m.queues f h.calm in
    grind (arith, weigh_enqueued, put-weight, change-length, calm)

admit_all_in : (p : Priority) (cs : List Control) (m : MailboxView) → serial_room (length cs) m ≡ true → list_all (safe p) cs ≡ true → IsInOrder [] m
    → IsInOrder [] (admit_all p cs m)
admit_all_in p [] m room f h = h
admit_all_in p (c ∷ []) m room f h = admit_in p c true m room (grind arith) h
admit_all_in p (c ∷ d ∷ cs) m room f h =
    let more : ticket_room (length (d ∷ cs) + 1) m.tickets.issued m.tickets.table ≡ true = grind (arith, room) in
    admit_all_in p (d ∷ cs) (admit p c false m) (room_rest (length (d ∷ cs)) m.tickets.issued (new_mark false) m.tickets.table more) (grind arith)
    (admit_in p c false m (room_first (length (d ∷ cs)) m.tickets.issued m.tickets.table more) (grind arith) h)

-- no send puts a control that sets a timer into a queue that is read during a grace
safe_send : (s : Send) → list_all (safe (priority_of s)) (controls_of s) ≡ true
safe_send s = grind (arith, common_steps)

-- a send leaves the mailbox in order
pub send_in : (s : Send) (m : MailboxView) → IsInOrder [] m → IsInOrder [] (send (priority_of s) (controls_of s) m).0
send_in s m h = by (may_send (priority_of s) (controls_of s) m) refl
  where
    by : (r : Result ⊤ Refusal) → may_send (priority_of s) (controls_of s) m ≡ r → IsInOrder [] (send_if r (priority_of s) (controls_of s) m).0
    by (Err r) e = h
    by (Ok u) e = admit_all_in (priority_of s) (controls_of s) m (grind (arith, e)) (safe_send s) h

-- COLLECTING

-- a raised ticket is collected
pub vacate_in : (t : ℕ) (m : MailboxView) → IsInOrder [] m → mark_of t m.tickets.table ≡ Some Raised → IsInOrder [] (vacate_ticket t m)
vacate_in t m h r =
    let balance : IsBalanced [] (vacate_ticket t m) = λ w. h.balance w ∙ sym (vacate_waiting t m.tickets.table r w) in
    grind (arith, vacate-taken t m.tickets.table, change-length)
