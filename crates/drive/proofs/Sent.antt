-- The calls that ask nothing outside, on the job and on the original.
use Rattle.std.proofs.Common.{◌≡◌, ℕ, ◌+◌, ◌≤◌, Bool, true, false, if◌then◌else◌, is_ok, Some, Ok, Err, Option, Result, List, [], ◌∷◌, length, refl, sym, ap, ◌∙◌, arith}
use Rattle.std.specs.Prelude.{◌==◌, ⊤}
use Rattle.std.specs.Int.{from_bool}
use Rattle.std.proofs.lemmas.Bool.Decides.{nat_tests}
use Rattle.std.proofs.lemmas.Grind.{common_steps}
use Rattle.std.proofs.lemmas.List.{map-append}
use Rattle.tickets.specs.Tickets.{Table, TicketsView, mark_of, done_count, is_waiting, is_taken, new_mark, put, free_places, ticket_room, give, vacate}
use Rattle.tickets.specs.declared.flag.Mark.{Mark}
use Rattle.tickets.specs.declared.flag.Mark.TheVariants.{Raised}
use Rattle.tickets.specs.Weights.{weight, one_at}
use Rattle.tickets.proofs.Tables.{found-put, put-weight, one_standing, one_at-same, taken_parts, room_rest, found-vacate, vacate-taken, vacate_waiting}
use Rattle.task.specs.declared.messages.Control.{Control}
use Rattle.supervisor.specs.declared.errors.Refusal.{Refusal}
use Rattle.supervisor.specs.declared.queues.Priority.{Priority}
use Rattle.supervisor.specs.declared.sends.Send.{Send}
use Rattle.supervisor.specs.Job as Job
use Rattle.supervisor.specs.Job.{JobView, with_mailbox}
use Rattle.supervisor.specs.Mailbox as Mail
use Rattle.supervisor.specs.Mailbox.{MailboxView, admit, admit_all, may_send}
use Rattle.supervisor.specs.Sends.{priority_of, controls_of}
use Rattle.supervisor.specs.Sound.{HasNoneLater}
use Rattle.drive.specs.Follows.{is_raised, Agrees}
use Rattle.drive.specs.Values.{ticket_value}
use Rattle.drive.specs.Calls.{as_value, with_nothing, known_ticket, send_value, pause_value, collect_value}
use Rattle.drive.specs.Original as Original
use Rattle.drive.proofs.Flagged.{MatchesTickets, original_of, same_original, tickets_match, agree}

-- SENDS

one_place : (n last : ℕ) (es : Table) → ticket_room (n + 1) last es ≡ true → 1 ≤ free_places es
one_place n last es h = grind (arith, nat_tests, h)

-- a new ticket is not settled
put_waits : (t : ℕ) (held : Bool) (es : Table) → 1 ≤ free_places es → weight is_taken (one_at t) es ≡ 0 → done_count (mark_of t (put t (new_mark held) es)) ≡ 0
put_waits t held es room none =
    let taken = put-weight is_taken t (new_mark held) es room (one_at t) in
    let waiting = put-weight is_waiting t (new_mark held) es room (one_at t) in
    grind (arith, common_steps, one_standing t (put t (new_mark held) es), taken, waiting, one_at-same t, taken_parts (one_at t) es)

give_matches : (held : Bool) (k : TicketsView) {closed : Bool} {raised : List ℕ} → 1 ≤ free_places k.table → weight is_taken (one_at (k.issued + 1)) k.table ≡ 0
    → MatchesTickets closed k raised → MatchesTickets closed (give (k.issued + 1) held k) raised
give_matches held k {closed} {raised} room none h =
    record { later = λ s l. h.later s (omega (arith, l)); same = λ e s i j. by (s == k.issued + 1) e s refl i j }
  where
    by : (new : Bool) → closed ≡ false → (s : ℕ) → (s == k.issued + 1) ≡ new → 1 ≤ s → s ≤ k.issued + 1
        → done_count (mark_of s (put (k.issued + 1) (new_mark held) k.table)) ≡ from_bool (is_raised s raised)
    by true e s z i j =
        let same : s ≡ k.issued + 1 = grind (arith, nat_tests, z) in
        rw same (put_waits (k.issued + 1) held k.table room none ∙ sym (ap from_bool (h.later (k.issued + 1) (omega arith))))
    by false e s z i j = ap done_count (found-put s (k.issued + 1) (new_mark held) k.table z) ∙ h.same e s i (grind (arith, nat_tests, z))

admitted_later : (p : Priority) (c : Control) (held : Bool) (m : MailboxView) → 1 ≤ free_places m.tickets.table → HasNoneLater m
    → HasNoneLater (admit p c held m)
admitted_later p c held m room none s l =
    let more = put-weight is_taken (m.tickets.issued + 1) (new_mark held) m.tickets.table room (one_at s) in
    grind (arith, nat_tests, more, none s (omega arith))

admit_all_matches : (p : Priority) (cs : List Control) (m : MailboxView) {closed : Bool} {raised : List ℕ}
    → ticket_room (length cs) m.tickets.issued m.tickets.table ≡ true → HasNoneLater m → MatchesTickets closed m.tickets raised
    → MatchesTickets closed (admit_all p cs m).tickets raised
admit_all_matches p [] m room none h = h
admit_all_matches p (c ∷ []) m room none h = give_matches true m.tickets (one_place 0 m.tickets.issued m.tickets.table room)
    (none (m.tickets.issued + 1) (omega arith)) h
admit_all_matches p (c ∷ d ∷ cs) m room none h =
    let n = length (d ∷ cs) in
    let more : ticket_room (length (d ∷ cs) + 1) m.tickets.issued m.tickets.table ≡ true = grind (arith, room) in
    let place = one_place n m.tickets.issued m.tickets.table more in
    let one = give_matches false m.tickets place (none (m.tickets.issued + 1) (omega arith)) h in
    admit_all_matches p (d ∷ cs) (admit p c false m) (room_rest n m.tickets.issued (new_mark false) m.tickets.table more)
    (admitted_later p c false m place none) one

-- the original prepares a message as the mailbox admits it
prepare_same : (p : Priority) (c : Control) (held : Bool) (v : JobView) (raised : List ℕ)
    → Original.prepare p c (original_of v raised) ≡ original_of (with_mailbox (admit p c held v.mailbox) v) raised
prepare_same p c held v raised = grind (arith, common_steps, map-append)

send_all_same : (p : Priority) (cs : List Control) (v : JobView) (raised : List ℕ)
    → Original.send_all p cs (original_of v raised) ≡ original_of (with_mailbox (admit_all p cs v.mailbox) v) raised
send_all_same p [] v raised = refl
send_all_same p (c ∷ []) v raised = prepare_same p c true v raised
send_all_same p (c ∷ d ∷ cs) v raised = rw (prepare_same p c false v raised) (send_all_same p (d ∷ cs) (with_mailbox (admit p c false v.mailbox) v) raised)

-- the original sends the same controls to the same queue
same_send : (s : Send) (o : Original.Original) → Original.send s o ≡ Original.send_controls (priority_of s) (controls_of s) o
same_send s o = grind (arith, common_steps)

pub send_agrees : (s : Send) {v : JobView} {o : Original.Original} → (v.closed ≡ false → HasNoneLater v.mailbox) → Agrees v o → is_ok (send_value s v).1 ≡ true
    → Agrees (send_value s v).0 (Original.send s o)
send_agrees s {v} {o} none a k = rw (same_send s o, same_original a) (by v.closed refl k)
  where
    admits : (r : Result ⊤ Refusal) → may_send (priority_of s) (controls_of s) v.mailbox ≡ r → v.closed ≡ false
        → is_ok (as_value ticket_value (Mail.send_if r (priority_of s) (controls_of s) v.mailbox).1) ≡ true
        → Agrees (Job.after_send (Mail.send_if r (priority_of s) (controls_of s) v.mailbox) v).0
        (Original.send_all (priority_of s) (controls_of s) (original_of v o.raised))
    admits (Ok u) l e k = rw (send_all_same (priority_of s) (controls_of s) v o.raised)
        (agree (admit_all_matches (priority_of s) (controls_of s) v.mailbox (grind (arith, l)) (none e) (tickets_match a)))
    admits (Err r) l e k = cc k

    by : (closed : Bool) → v.closed ≡ closed
        → is_ok (as_value ticket_value (if closed then (v, Ok 0) else Job.after_send (Mail.send (priority_of s) (controls_of s) v.mailbox) v).1) ≡ true
        → Agrees (if closed then (v, Ok 0) else Job.after_send (Mail.send (priority_of s) (controls_of s) v.mailbox) v).0
        (if closed then original_of v o.raised else Original.send_all (priority_of s) (controls_of s) (original_of v o.raised))
    by true e k = agree (tickets_match a)
    by false e k = admits (may_send (priority_of s) (controls_of s) v.mailbox) refl e k

-- PAUSES, LOOKS AND COLLECTS

pub pause_agrees : (signal : ℕ) {v : JobView} {o : Original.Original} → Agrees v o → is_ok (pause_value signal v).1 ≡ true
    → Agrees (pause_value signal v).0 (Original.notice signal o)
pause_agrees signal {v} {o} a k = rw (same_original a) (by (Job.may_pause signal v) k)
  where
    by : (r : Result ⊤ Refusal) → is_ok (with_nothing (Job.pause_if r signal v)).1 ≡ true
        → Agrees (Job.pause_if r signal v).0 (Original.notice signal (original_of v o.raised))
    by (Ok u) k = agree (tickets_match a)
    by (Err r) k = cc k

-- a raised ticket that leaves its place is settled all the same
vacated_settled : (s t : ℕ) (es : Table) → weight is_taken (one_at s) es ≤ 1 → mark_of t es ≡ Some Raised
    → done_count (mark_of s (vacate t es)) ≡ done_count (mark_of s es)
vacated_settled s t es once h =
    let standing = one_standing s (vacate t es) in
    grind (arith, nat_tests, found-vacate s t es, one_standing s es, standing, vacate-taken t es (one_at s), vacate_waiting t es h (one_at s), h)

pub collect_agrees : (ticket : ℕ) {v : JobView} {o : Original.Original} → (v.closed ≡ false → (s : ℕ) → weight is_taken (one_at s) v.mailbox.tickets.table ≤ 1)
    → Agrees v o → Agrees (collect_value (known_ticket ticket) v).0 o
collect_agrees ticket {v} {o} once a = by (known_ticket ticket)
  where
    gone : (t : ℕ) → (v.closed ≡ false → mark_of t v.mailbox.tickets.table ≡ Some Raised) → Agrees (with_mailbox (Mail.vacate_ticket t v.mailbox) v) o
    gone t h =
        let k = tickets_match a in
        rw (same_original a)
        (agree (record { later = k.later; same = λ e s l j. vacated_settled s t v.mailbox.tickets.table (once e s) (h e) ∙ k.same e s l j }))

    given : (t : ℕ) (x : Result Bool Refusal) → Job.is_done v.closed (mark_of t v.mailbox.tickets.table) ≡ x → Agrees (Job.collect_if x t v).0 o
    given t (Ok true) e = gone t (λ f. raised_if (mark_of t v.mailbox.tickets.table) (rw f at e))
      where
        raised_if : (k : Option Mark) → Job.is_done false k ≡ Ok true → k ≡ Some Raised
        raised_if k z = grind (arith, common_steps, z)
    given t (Ok false) e = a
    given t (Err r) e = a

    whether : (zero : Bool) (t : ℕ) → Agrees (if zero then (v, Ok tt) else Job.collect_if (Job.is_done v.closed (mark_of t v.mailbox.tickets.table)) t v).0 o
    whether true t = a
    whether false t = given t (Job.is_done v.closed (mark_of t v.mailbox.tickets.table)) refl

    by : (k : Result ℕ Refusal) → Agrees (collect_value k v).0 o
    by (Ok t) = whether (t == 0) t
    by (Err r) = a
