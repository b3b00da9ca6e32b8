-- What each call makes of a mailbox: which tickets are given, which orders wait, and that no ticket is lost.
use Rattle.std.proofs.Common.{◌≡◌, ℕ, ◌+◌, ◌≤◌, Bool, true, false, cond, Some, None, Option, List, [], ◌∷◌, ◌++◌, length, refl, arith}
use Rattle.std.specs.Prelude.{◌==◌, not}
use Rattle.std.specs.Int.{from_bool}
use Rattle.std.specs.List.{count_by}
use Rattle.std.proofs.lemmas.Bool.Decides.{nat_tests}
use Rattle.std.proofs.lemmas.Grind.{common_steps}
use Rattle.tickets.specs.Tickets.{mark_of, goes_on, new_mark}
use Rattle.tickets.proofs.Tables.{found-put, found-vacate, goes_again, goes_further, raise-goes, raise_each-goes}
use Rattle.task.specs.Messages.{orders}
use Rattle.task.specs.declared.messages.ControlMessage.{ControlMessage}
use Rattle.std.proofs.lemmas.List.Sums.{sum_by-cons}
use Rattle.task.specs.declared.messages.Control.{Control}
use Rattle.task.specs.declared.task.Outcome.{Outcome}
use Rattle.task.specs.declared.task.Outcome.TheVariants.{Settled, Ended, Closes}
use Rattle.task.specs.declared.task.PollOutcome.{PollOutcome}
use Rattle.task.specs.declared.task.PollOutcome.TheVariants.{Over, Renewed}
use Rattle.supervisor.specs.declared.mailbox.Received.{Received}
use Rattle.supervisor.specs.declared.queues.Priority.{Priority}
use Rattle.supervisor.specs.declared.timer.Timer.{Timer}
use Rattle.supervisor.specs.Mailbox.{MailboxView, QueuesView, message, enqueue, admit, admit_all, raise_ticket, raise_endings, next, take_urgent, take, orders_start, settle, raise_timer, raise_at_end, raise_again, settle_poll, vacate_ticket}
use Rattle.supervisor.specs.Timers.{memory}
use Rattle.drive.specs.Laws.{orders_in, waiting_orders}

-- From the mailbox m to the mailbox n: so many more tickets were given, the orders that wait and those that were taken are those
-- that waited and those that came, and each ticket that p picks goes on.
pub record Moves (given came taken : ℕ) (p : ℕ → Bool) (m n : MailboxView) : Type 0 where
  pub issued : n.tickets.issued ≡ m.tickets.issued + given
  pub orders : waiting_orders n.queues + taken ≡ waiting_orders m.queues + came
  pub tickets : (s : ℕ) → s ≤ m.tickets.issued → p s ≡ true → goes_on (mark_of s m.tickets.table) (mark_of s n.tickets.table) ≡ true

abbrev pub any : ℕ → Bool
any s = true

-- the queues stay, and each ticket that p picks goes on
stays : {p : ℕ → Bool} {m n : MailboxView} → n.queues ≡ m.queues → n.tickets.issued ≡ m.tickets.issued
    → ((s : ℕ) → p s ≡ true → goes_on (mark_of s m.tickets.table) (mark_of s n.tickets.table) ≡ true) → Moves 0 0 0 p m n
stays q i g = record { issued = omega (arith, i); orders = rw q (omega arith); tickets = λ s l e. g s e }

-- all stays
pub still_moves : {p : ℕ → Bool} {m n : MailboxView} → n.queues ≡ m.queues → n.tickets ≡ m.tickets → Moves 0 0 0 p m n
still_moves {m = m} q t = stays q (rw t refl) (λ s e. rw t (goes_again (mark_of s m.tickets.table)))

raise_moves : (t : ℕ) (m : MailboxView) → Moves 0 0 0 any m (raise_ticket t m)
raise_moves t m = stays refl refl (λ s e. raise-goes s t m.tickets.table)

endings_moves : (m : MailboxView) → Moves 0 0 0 any m (raise_endings m)
endings_moves m = stays refl refl (λ s e. raise_each-goes s m.ending m.tickets.table)

-- one after the other
then_moves : {i j c d : ℕ} {l m n : MailboxView} → Moves i c 0 any l m → Moves j d 0 any m n → Moves (i + j) (c + d) 0 any l n
then_moves {l = l} {m = m} {n = n} g h = record {
  issued = omega (arith, g.issued, h.issued);
  orders = omega (arith, g.orders, h.orders);
  tickets = λ s i e.
      goes_further (mark_of s l.tickets.table) (mark_of s m.tickets.table) (mark_of s n.tickets.table) (g.tickets s i refl)
      (h.tickets s (omega (arith, i, g.issued)) refl);
}

settle_moves : (time : ℕ) (o : Outcome) (t : ℕ) (m : MailboxView) → Moves 0 0 0 any m (settle time o t m)
settle_moves time Settled t m = raise_moves t m
settle_moves time Ended t m = then_moves (endings_moves m) (raise_moves t (raise_endings m))
settle_moves time Closes t m = raise_moves t m
settle_moves time o t m = still_moves refl refl

ended_moves : (m : MailboxView) → Moves 0 0 0 any m (raise_at_end m)
ended_moves m = then_moves (by m.timer) (endings_moves (raise_timer m.timer m))
  where
    by : (t : Option Timer) → Moves 0 0 0 any m (raise_timer t m)
    by None = still_moves refl refl
    by (Some t) = stays refl refl (λ s e. raise-goes s t.ticket m.tickets.table)

again_moves : (o : Option ℕ) (m : MailboxView) → Moves 0 0 0 any m (raise_again o m)
again_moves None m = still_moves refl refl
again_moves (Some t) m = raise_moves t m

pub settle_poll_moves : (o : PollOutcome) (m : MailboxView) → Moves 0 0 0 any m (settle_poll o m)
settle_poll_moves Over m = ended_moves m
settle_poll_moves Renewed m = then_moves (ended_moves m) (again_moves (memory m.timer) (raise_at_end m))
settle_poll_moves o m = still_moves refl refl

orders_in-cons : (c : ControlMessage) (cs : List ControlMessage) → orders_in (c ∷ cs) ≡ from_bool (orders c.control) + orders_in cs
orders_in-cons c cs = grind (arith, sum_by-cons (λ (m : ControlMessage). cond (orders m.control) 1 0) c cs)

next_orders : (graced : Bool) (q : QueuesView) (c : ControlMessage) (q' : QueuesView) → next graced q ≡ Some (c, q')
    → waiting_orders q' + from_bool (orders c.control) ≡ waiting_orders q
next_orders graced q c q' e = by q.urgent q.high q.normal graced refl refl refl e
  where
    by : (us hs ns : List ControlMessage) (g : Bool) → q.urgent ≡ us → q.high ≡ hs → q.normal ≡ ns → take_urgent g us q ≡ Some (c, q')
        → waiting_orders q' + from_bool (orders c.control) ≡ waiting_orders q
    by (u ∷ us) hs ns g a b d e = grind (arith, orders_in-cons u us)
    by [] (h ∷ hs) ns g a b d e = grind (arith, orders_in-cons h hs)
    by [] [] (n ∷ ns) false a b d e = grind (arith, orders_in-cons n ns)
    by [] [] ns g a b d e = absurd (grind (arith, common_steps))

-- a message that is taken leaves the tickets, and the orders but for its own
pub take_moves : (time : ℕ) (m : MailboxView) (r : Received) (n : MailboxView) → take time m ≡ Some (r, n)
    → (n.tickets ≡ m.tickets) × (waiting_orders n.queues + from_bool (orders_start r) ≡ waiting_orders m.queues)
take_moves time m r n e = grind (arith, common_steps, nat_tests, next_orders)

-- and is carried out
pub carried_moves : (time : ℕ) (m : MailboxView) (r : Received) (n : MailboxView) (o : Outcome) → take time m ≡ Some (r, n)
    → Moves 0 0 (from_bool (orders_start r)) any m (settle time o r.message.ticket n)
carried_moves time m r n o e =
    let t = take_moves time m r n e in
    let h = settle_moves time o r.message.ticket n in
    record { issued = rw (← t.0) h.issued; orders = omega (arith, t.1, h.orders); tickets = λ s l q. rw (← t.0) (h.tickets s (rw t.0 l) q) }

-- SENDING AND COLLECTING

orders_in-append : (cs : List ControlMessage) (c : ControlMessage) → orders_in (cs ++ c ∷ []) ≡ orders_in cs + from_bool (orders c.control)
orders_in-append [] c = grind (arith, orders_in-cons c [])
orders_in-append (d ∷ cs) c = grind (arith, orders_in-cons d (cs ++ c ∷ []), orders_in-cons d cs, orders_in-append cs c)

enqueued_orders : (p : Priority) (c : ControlMessage) (q : QueuesView) → waiting_orders (enqueue p c q) ≡ waiting_orders q + from_bool (orders c.control)
enqueued_orders p c q = grind (arith, common_steps, orders_in-append)

-- a control that is admitted gets the next ticket, and no other is touched
admit_moves : (p : Priority) (c : Control) (held : Bool) (m : MailboxView) → Moves 1 (from_bool (orders c)) 0 any m (admit p c held m)
admit_moves p c held m =
    record {
      issued = refl;
      orders = omega (arith, enqueued_orders p (message c (m.tickets.issued + 1)) m.queues);
      tickets = λ s l e. rw (found-put s (m.tickets.issued + 1) (new_mark held) m.tickets.table (grind (arith, nat_tests)))
          (goes_again (mark_of s m.tickets.table));
    }

orders-cons : (c : Control) (cs : List Control) → count_by orders (c ∷ cs) ≡ from_bool (orders c) + count_by orders cs
orders-cons c cs = grind (arith, sum_by-cons (λ (d : Control). cond (orders d) 1 0) c cs)

pub admit_all_moves : (p : Priority) (cs : List Control) (m : MailboxView) → Moves (length cs) (count_by orders cs) 0 any m (admit_all p cs m)
admit_all_moves p [] m = still_moves refl refl
admit_all_moves p (c ∷ []) m = rw (orders-cons c []) (then_moves (admit_moves p c true m) (still_moves refl refl))
admit_all_moves p (c ∷ d ∷ cs) m =
    let count : length (c ∷ d ∷ cs) ≡ 1 + length (d ∷ cs) = omega arith in
    rw (count, orders-cons c (d ∷ cs)) (then_moves (admit_moves p c false m) (admit_all_moves p (d ∷ cs) (admit p c false m)))

pub vacate_moves : (t : ℕ) (m : MailboxView) → Moves 0 0 0 (λ s. not (t == s)) m (vacate_ticket t m)
vacate_moves t m = stays refl refl (λ s e. rw (found-vacate s t m.tickets.table (grind (arith, nat_tests, e))) (goes_again (mark_of s m.tickets.table)))
