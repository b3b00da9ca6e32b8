-- The mailbox of a job and the flags of the original, from one step to the next.
use Rattle.std.proofs.Common.{◌≡◌, ℕ, ◌+◌, ◌<◌, ◌≤◌, Bool, true, false, if◌then◌else◌, Some, None, Option, List, [], ◌∷◌, ◌++◌, refl, arith}
use Rattle.std.specs.Prelude.{◌==◌, map}
use Rattle.std.specs.Int.{from_bool}
use Rattle.std.specs.Option.{option_map}
use Rattle.std.proofs.lemmas.Bool.Decides.{nat_tests}
use Rattle.std.proofs.lemmas.Grind.{common_steps}
use Rattle.std.proofs.lemmas.List.Folds.{list_any-append}
use Rattle.tickets.specs.Tickets.{Table, TicketsView, mark_of, done_count, is_taken, raise, raise_each}
use Rattle.tickets.specs.Weights.{weight, weigh, one_at}
use Rattle.tickets.proofs.Tables.{raise-taken, taken_parts, one_standing}
use Rattle.task.specs.Task.{TaskView, is_graced}
use Rattle.task.specs.declared.messages.GraceEnd.{GraceEnd}
use Rattle.task.specs.declared.messages.GraceEnd.TheVariants.{Stop, Restart}
use Rattle.task.specs.declared.task.Outcome.{Outcome}
use Rattle.task.specs.declared.task.Outcome.TheVariants.{Settled, Ended, Graced, Joined, Closes}
use Rattle.task.specs.declared.task.PollOutcome.{PollOutcome}
use Rattle.task.specs.declared.task.PollOutcome.TheVariants.{Over, Renewed}
use Rattle.supervisor.specs.declared.mailbox.Received.{Received}
use Rattle.supervisor.specs.declared.timer.Timer.{Timer}
use Rattle.supervisor.specs.Job.{JobView, control_end, poll_end}
use Rattle.supervisor.specs.Mailbox.{MailboxView, TakeResult, raise_at_end, with_timer, take}
use Rattle.supervisor.specs.Timers.{memory}
use Rattle.supervisor.specs.Sound.{IsInOrder, weigh_waiting}
use Rattle.drive.specs.Follows.{message_of, timer_of, is_raised, Agrees}
use Rattle.drive.specs.Original as Original
use Rattle.drive.specs.Original.{Amendments}
use Rattle.drive.proofs.Arms as Arms
use Rattle.drive.proofs.Arms.{with_task}

-- RAISED

-- of a table with one place for it at most: a ticket that is raised is settled, and any other as it was
raise-settled : (s t : ℕ) (es : Table) → weight is_taken (one_at s) es ≤ 1 → done_count (mark_of s (raise t es))
    ≡ (if s == t then 1 else done_count (mark_of s es))
raise-settled s t [] h = grind (arith, common_steps)
raise-settled s t (e ∷ es) h = grind (arith, common_steps, nat_tests, raise-settled s t es, taken_parts (one_at s) es, one_standing s es)

abbrev OnceIn : Table → Type 0
OnceIn es = (s : ℕ) → weight is_taken (one_at s) es ≤ 1

-- no flag is raised before its ticket is issued, and while the job is open the tickets that are settled are the raised ones
pub record MatchesTickets (closed : Bool) (k : TicketsView) (raised : List ℕ) : Type 0 where
  pub later : (s : ℕ) → k.issued < s → is_raised s raised ≡ false
  pub same : closed ≡ false → (s : ℕ) → 1 ≤ s → s ≤ k.issued → done_count (mark_of s k.table) ≡ from_bool (is_raised s raised)

-- no ticket of a list is to be issued yet
abbrev Made : ℕ → List ℕ → Type 0
Made issued ts = (s : ℕ) → issued < s → is_raised s ts ≡ false

once_each : (ts : List ℕ) (es : Table) → OnceIn es → OnceIn (raise_each ts es)
once_each [] es once = once
once_each (t ∷ ts) es once = once_each ts (raise t es) (λ s. omega (arith, raise-taken t es (one_at s), once s))

each_matches : (ts : List ℕ) (k : TicketsView) {closed : Bool} {raised : List ℕ} → OnceIn k.table → Made k.issued ts → MatchesTickets closed k raised
    → MatchesTickets closed (record k { table = raise_each ts k.table }) (ts ++ raised)
each_matches [] k once made h = h
each_matches (t ∷ ts) k {closed} {raised} once made h =
    let one = record k { table = raise t k.table } in
    let first : MatchesTickets closed one (t ∷ raised) = record {
      later = λ s l. grind (arith, common_steps, made s l, h.later s l);
      same = λ e s i j. grind (arith, common_steps, raise-settled s t k.table (once s), h.same e s i j);
    } in
    let rest = each_matches ts one (once_each (t ∷ []) k.table once) (λ s l. grind (arith, common_steps, made s l)) first in
    record {
      later = λ s l. grind (arith, common_steps, list_any-append, rest.later s l);
      same = λ e s i j. grind (arith, common_steps, list_any-append, rest.same e s i j);
    }

-- a ticket that weighs nothing in a list is not in it
none_weighs : (s : ℕ) (ts : List ℕ) → weigh (one_at s) ts ≡ 0 → is_raised s ts ≡ false
none_weighs s [] h = refl
none_weighs s (t ∷ ts) h = grind (arith, common_steps, nat_tests, none_weighs s ts)

-- so it is of those in hand, in the ending list and in the timer
none_later : (hand : List ℕ) (m : MailboxView) → IsInOrder hand m → (s : ℕ) → m.tickets.issued < s → weigh (one_at s) hand + weigh_waiting (one_at s) m ≡ 0
none_later hand m h s l = omega (arith, h.balance (one_at s), h.later s l, taken_parts (one_at s) m.tickets.table)

hand_made : {hand : List ℕ} {m : MailboxView} → IsInOrder hand m → Made m.tickets.issued hand
hand_made {hand} {m} h s l = none_weighs s hand (omega (arith, none_later hand m h s l))

ending_made : {hand : List ℕ} {m : MailboxView} → IsInOrder hand m → Made m.tickets.issued m.ending
ending_made {hand} {m} h s l = none_weighs s m.ending (omega (arith, none_later hand m h s l))

timer_made : (m : MailboxView) (t : Timer) → m.timer ≡ Some t → IsInOrder [] m → Made m.tickets.issued (t.ticket ∷ [])
timer_made m t e h s l = none_weighs s (t.ticket ∷ []) (grind (arith, none_later [] m h s l, e))

-- THE SAME STATE

-- the original with a task, a mailbox, the raised flags, and whether the job is closed
abbrev pub state_of : TaskView → MailboxView → List ℕ → Bool → Original.Original
state_of t m raised gone =
    let queues = record (Original.fresh_original t.command) { normal = map message_of m.queues.normal; high = map message_of m.queues.high } in
    let timer = record queues { urgent = map message_of m.queues.urgent; stop_timer = option_map timer_of m.timer; on_end_restart = memory m.timer } in
    with_task t (record timer { on_end = m.ending; flags = m.tickets.issued; raised = raised; gone = gone })

abbrev pub original_of : JobView → List ℕ → Original.Original
original_of v raised = state_of v.task v.mailbox raised v.closed

pub same_original : {v : JobView} {o : Original.Original} → Agrees v o → o ≡ original_of v o.raised
same_original a =
    rw (← a.command, ← a.state, ← a.previous, ← a.handler, ← a.hook, ← a.way, ← a.paused, ← a.pauses, ← a.watch, ← a.grant)
    (rw (← a.normal, ← a.high, ← a.urgent, ← a.timer, ← a.memory, ← a.ending, ← a.issued, ← a.closed) refl)

pub tickets_match : {v : JobView} {o : Original.Original} → Agrees v o → MatchesTickets v.closed v.mailbox.tickets o.raised
tickets_match a = record { later = a.later; same = a.raised }

pub agree : {v : JobView} {raised : List ℕ} → MatchesTickets v.closed v.mailbox.tickets raised → Agrees v (original_of v raised)
agree h = search (h.later, h.same)

-- OUTCOMES

-- a control that has had an outcome
pub settle_agrees : (now : ℕ) (before : TaskView) (r : Received) (m : MailboxView) (x : TaskView × Outcome) {raised : List ℕ}
    → IsInOrder (r.message.ticket ∷ []) m → (is_graced x.1 ≡ true → m.timer ≡ None) → MatchesTickets false m.tickets raised
    → Agrees (control_end now r m x).view (with_task x.0 (Arms.settled now r.message.ticket x.1 (state_of before m raised false)))
settle_agrees now before r m (t, Settled) order free h = agree (each_matches (r.message.ticket ∷ []) m.tickets order.once (hand_made order) h)
settle_agrees now before r m (t, Ended) order free h =
    let ended = each_matches m.ending m.tickets order.once (ending_made order) h in
    agree (each_matches (r.message.ticket ∷ []) (record m.tickets { table = raise_each m.ending m.tickets.table })
    (once_each m.ending m.tickets.table order.once) (hand_made order) ended)
settle_agrees now before r m (t, Graced grace Stop) order free h = rw (free refl) (agree h)
settle_agrees now before r m (t, Graced grace Restart) order free h = agree h
settle_agrees now before r m (t, Joined) order free h = agree h
settle_agrees now before r m (t, Closes) order free h =
    let closed = each_matches (r.message.ticket ∷ []) m.tickets order.once (hand_made order) h in
    agree (record { later = closed.later; same = λ _. closed.same refl })

-- a poll of the child
pub poll_agrees : (now : ℕ) (v : JobView) (x : TaskView × PollOutcome) {raised : List ℕ} → IsInOrder [] v.mailbox
    → MatchesTickets v.closed v.mailbox.tickets raised → Agrees (poll_end now v x).view (with_task x.0 (Arms.seen x.1 (original_of v raised)))
poll_agrees now v x {raised} order h = by v.mailbox.timer x.1 order
  where
    -- the timer's ticket, and those of the ending list
    ended : (t : Timer) → IsInOrder [] (with_timer (Some t) v.mailbox) → MatchesTickets v.closed (raise_at_end (with_timer (Some t) v.mailbox)).tickets
        (v.mailbox.ending ++ t.ticket ∷ raised)
    ended t order =
        let m = with_timer (Some t) v.mailbox in
        let one = each_matches (t.ticket ∷ []) m.tickets order.once (timer_made m t refl order) h in
        each_matches m.ending (record m.tickets { table = raise t.ticket m.tickets.table }) (once_each (t.ticket ∷ []) m.tickets.table order.once)
        (ending_made order) one

    by : (k : Option Timer) (o : PollOutcome) → IsInOrder [] (with_timer k v.mailbox)
        → Agrees (poll_end now (record v { mailbox = with_timer k v.mailbox }) (x.0, o)).view
        (with_task x.0 (Arms.seen o (state_of v.task (with_timer k v.mailbox) raised v.closed)))
    by None Over order = agree (each_matches v.mailbox.ending v.mailbox.tickets order.once (ending_made order) h)
    by None Renewed order = agree (each_matches v.mailbox.ending v.mailbox.tickets order.once (ending_made order) h)
    by (Some t) Over order = agree (ended t order)
    by (Some t) Renewed order = again t.end order
      where
        again : (e : GraceEnd) → IsInOrder [] (with_timer (Some (record t { end = e })) v.mailbox)
            → Agrees (poll_end now (record v { mailbox = with_timer (Some (record t { end = e })) v.mailbox }) (x.0, Renewed)).view
            (with_task x.0 (Arms.seen Renewed (state_of v.task (with_timer (Some (record t { end = e })) v.mailbox) raised v.closed)))
        again Stop order = agree (ended (record t { end = Stop }) order)
        again Restart order =
            let u = record t { end = Restart } in
            let m = with_timer (Some u) v.mailbox in
            let once = once_each v.mailbox.ending (raise t.ticket v.mailbox.tickets.table) (once_each (t.ticket ∷ []) v.mailbox.tickets.table order.once) in
            agree (each_matches (t.ticket ∷ []) (raise_at_end m).tickets once (timer_made m u refl order) (ended u order))
    by k o order = agree h

-- WHAT IS RECEIVED

-- the original that forgets a restart as its timer's message is taken, or a time at which no such message is
abbrev pub Forgets : Amendments → ℕ → MailboxView → Type 0
Forgets am now m = (t : Timer) → m.timer ≡ Some t → t.deadline ≤ now → t.end ≡ Restart → am.forgets ≡ true

-- what is taken from a mailbox, as the original receives it
abbrev pub as_received : TaskView → List ℕ → Bool → TakeResult → Original.RecvResult
as_received t raised gone k = option_map (λ x. (message_of x.0.message, state_of t x.1 raised gone)) k

pub recv-received : (t : TaskView) (m : MailboxView) (raised : List ℕ) (gone : Bool) (am : Amendments) (now : ℕ) → Forgets am now m
    → Original.recv am now (state_of t m raised gone) ≡ as_received t raised gone (take now m)
recv-received t m raised gone am now forgets = grind (arith, common_steps, nat_tests, forgets)
