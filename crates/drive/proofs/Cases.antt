-- The eight worked cases.
use Rattle.std.proofs.Common.{◌≡◌, ℕ, ◌+◌, ◌^◌, ◌<◌, ◌≤◌, Bool, true, false, if◌then◌else◌, is_ok, is_some, None, Some, Ok, Err, Result, List, [], ◌∷◌, ◌++◌, length, refl, sym, ap, subst, ◌∙◌, arith}
use Rattle.std.specs.Prelude.{not, map, ⊤, ◌&&◌}
use Rattle.std.specs.Int.{from_bool}
use Rattle.std.specs.List.{count_by, filter}
use Rattle.std.proofs.lemmas.Bool.Decides.{nat_tests}
use Rattle.std.proofs.lemmas.Grind.{common_steps}
use Rattle.host.specs.declared.process.Host as Host
use Rattle.host.specs.declared.terminal.Terminal as Terminal
use Rattle.host.specs.Calls.{Call, Reply, Event}
use Rattle.host.specs.Interaction.{Interaction, Traces, IsAnswered}
use Rattle.host.specs.Journal.{journal, is_decisive, is_failure, reports_end, spawns_among}
use Rattle.host.specs.State.{is_running}
use Rattle.tickets.specs.declared.flag.Mark.TheVariants.{Held}
use Rattle.tickets.specs.Tickets.{mark_of, free_places, is_taken, give}
use Rattle.tickets.specs.Weights.{weight, one_at}
use Rattle.tickets.proofs.Tables.{found-new, raise-held}
use Rattle.task.specs.declared.messages.Control.TheVariants.{NextEnding}
use Rattle.task.specs.declared.messages.ControlMessage.{ControlMessage}
use Rattle.task.specs.Task as Tree
use Rattle.task.proofs.Courses.{found_end}
use Rattle.task.proofs.Sheets.{records_are}
use Rattle.supervisor.specs.declared.answers.StepKind.TheVariants as Kinds
use Rattle.supervisor.specs.declared.errors.Refusal.{Refusal}
use Rattle.supervisor.specs.declared.errors.Refusal.TheVariants.{Sheet, Clock, Queue}
use Rattle.supervisor.specs.declared.mailbox.Received.{Received}
use Rattle.supervisor.specs.declared.mailbox.Source.TheVariants as Sources
use Rattle.supervisor.specs.declared.queues.Priority.TheVariants.{High}
use Rattle.supervisor.specs.declared.sends.Send.TheVariants as Sends
use Rattle.supervisor.specs.declared.timer.Timer.{Timer}
use Rattle.supervisor.specs.Job as Job
use Rattle.supervisor.specs.Job.{JobView, StepEnd, look, may_step, control_step, control_end, carry_out}
use Rattle.supervisor.specs.Mailbox as Mail
use Rattle.supervisor.specs.Mailbox.{MailboxView, may_send, message_from, with_queues}
use Rattle.supervisor.specs.Steps.{Moment, step_end}
use Rattle.supervisor.specs.Timers.{memory_of, memory, owed_starts}
use Rattle.supervisor.proofs.Graces.{continue_way}
use Rattle.supervisor.proofs.Steps.{way_of}
use Rattle.drive.specs.declared.calls.Call.TheVariants as Calls
use Rattle.drive.specs.declared.calls.Done.{Done}
use Rattle.drive.specs.declared.calls.Value.{Value}
use Rattle.drive.specs.Values.{value_number, ticket_value}
use Rattle.drive.specs.Calls.{Makes, MakesStep, as_value, send_value}
use Rattle.drive.specs.Cases.{records, MeetsCases}
use Rattle.drive.specs.Laws.{job_at}
use Rattle.drive.specs.Restarts.{RestartPends}
use Rattle.drive.proofs.Laws.{goes, control_taken}
use Rattle.drive.proofs.Steps.{accepted, step_cases}

-- the only message that waits is taken
take_only : (now : ℕ) (m : MailboxView) (c : ControlMessage) → m.timer ≡ None → m.queues.urgent ≡ [] → m.queues.high ≡ c ∷ []
    → Mail.take now m ≡ Some (message_from c Sources.Queue, with_queues (record m.queues { high = [] }) m)
take_only now m c none urgent high = grind (arith, common_steps)

-- a ticket that was just issued, after the step that takes its NextEnding
waited_look : (now : ℕ) (v : JobView) → 1 ≤ free_places v.mailbox.tickets.table → weight is_taken (one_at (v.mailbox.tickets.issued + 1))
    v.mailbox.tickets.table ≡ 0 → (r : Received) (n : MailboxView) → n.tickets ≡ give (v.mailbox.tickets.issued + 1) true v.mailbox.tickets
    → r.message.ticket ≡ v.mailbox.tickets.issued + 1 → look (v.mailbox.tickets.issued + 1) (control_end now r n (v.task, Tree.joins v.task.state)).view
    ≡ Ok (not (is_running v.task.state))
waited_look now v room later r n e t =
    let s = v.mailbox.tickets.issued + 1 in
    let held : mark_of s n.tickets.table ≡ Some Held = ap (λ k. mark_of s k.table) e ∙ found-new s Held v.mailbox.tickets.table room later in
    grind (arith, nat_tests, common_steps, held, t, raise-held s n.tickets.table held)

abbrev number_of : Result Value Refusal → ℕ
number_of (Ok value) = value_number value
number_of (Err refusal) = 0

-- a `to_wait`, and the step that takes its control
waited : {W : Type 0} (did : W → (c : Call) → Reply c → W → Type 0) (now ticket : ℕ) (v m : JobView) (answer : Result Value Refusal) → v.closed ≡ false
    → ((s : ℕ) → v.mailbox.tickets.issued < s → weight is_taken (one_at s) v.mailbox.tickets.table ≡ 0) → v.mailbox.timer ≡ None → v.mailbox.queues.urgent ≡ []
    → v.mailbox.queues.high ≡ [] → (m, answer) ≡ send_value Sends.ToWait v → answer ≡ Ok (ticket_value ticket) → (w w' : W) (p : List Event) (s : StepEnd)
    → Traces did (control_step now m) w p s w' → look ticket s.view ≡ Ok (not (is_running v.task.state))
waited did now ticket v m answer free later none urgent high sent ok w w' p s run = whether v.closed free sent
  where
    valued : JobView × Result ℕ Refusal → JobView × Result Value Refusal
    valued x = (x.0, as_value ticket_value x.1)

    steps : 1 ≤ free_places v.mailbox.tickets.table → m ≡ Job.with_mailbox (Mail.admit High NextEnding true v.mailbox) v → ticket ≡ v.mailbox.tickets.issued + 1
        → look ticket s.view ≡ Ok (not (is_running v.task.state))
    steps room z e =
        let w₁ = Job.with_mailbox (Mail.admit High NextEnding true v.mailbox) v in
        let r = message_from (Mail.message NextEnding (v.mailbox.tickets.issued + 1)) Sources.Queue in
        let n = with_queues (record (Mail.admit High NextEnding true v.mailbox).queues { high = [] }) (Mail.admit High NextEnding true v.mailbox) in
        let taken : Mail.take now w₁.mailbox ≡ Some (r, n) = take_only now (Mail.admit High NextEnding true v.mailbox)
        (Mail.message NextEnding (v.mailbox.tickets.issued + 1)) none urgent (ap (λ cs. cs ++ Mail.message NextEnding (v.mailbox.tickets.issued + 1) ∷ [])
        high) in
        let sent : Traces did (control_step now w₁) w p s w' = subst (λ (u : JobView). Traces did (control_step now u) w p s w') z run in
        let ended = subst (λ (k : Mail.TakeResult). Traces did (carry_out k now w₁) w p s w') taken sent in
        subst (λ (t : ℕ). look t s.view ≡ Ok (not (is_running v.task.state))) (sym e)
        (subst (λ (u : StepEnd). look (v.mailbox.tickets.issued + 1) u.view ≡ Ok (not (is_running v.task.state))) (sym ended.1)
        (waited_look now v room (later (v.mailbox.tickets.issued + 1) (omega arith)) r n refl refl))

    sends : (r : Result ⊤ Refusal) → may_send High (NextEnding ∷ []) v.mailbox ≡ r
        → (m, answer) ≡ valued (Job.after_send (Mail.send_if r High (NextEnding ∷ []) v.mailbox) v) → look ticket s.view ≡ Ok (not (is_running v.task.state))
    sends (Err r) l q = absurd (cc (ok, ap (λ x. x.1) q))
    sends (Ok u) l q = steps (grind (arith, nat_tests, l)) (ap (λ x. x.0) q) (ap number_of (sym ok ∙ ap (λ x. x.1) q))

    whether : (closed : Bool) → closed ≡ false → (m, answer) ≡ valued (if closed then (v, Ok 0) else Job.after_send (Mail.send High (NextEnding ∷ []) v.mailbox)
        v) → look ticket s.view ≡ Ok (not (is_running v.task.state))
    whether true e q = cc e
    whether false e q = sends (may_send High (NextEnding ∷ []) v.mailbox) refl q

both_count : (r f : Bool) → r ≡ true → 1 ≤ from_bool f → from_bool (r && f) ≡ 1
both_count r f e k = grind (arith, common_steps)

module _ {H T : Type 0} {by_host : Host.Ghosts H} {by_terminal : Terminal.Ghosts T} {tree : ℕ → JobView → Interaction StepEnd} {now : ℕ} {a b : Moment H T}
    {d : Done} where
  -- a step is refused as `may_step` says, and else accepted
  step_refused : (x : Refusal) → may_step now (length a.sheet) (job_at a) ≡ Err x → MakesStep by_host by_terminal tree now a d b → d.answer ≡ Err x
  step_refused x e made = step_cases (λ d b. d.answer ≡ Err x) (λ r may. cc (may, e)) (λ s may step. absurd (cc (may, e))) made

  step_passes : may_step now (length a.sheet) (job_at a) ≡ Ok tt → MakesStep by_host by_terminal tree now a d b → is_ok d.answer ≡ true
  step_passes e made = step_cases (λ d b. is_ok d.answer ≡ true) (λ r may. absurd (cc (may, e))) (λ s may step. refl) made

module _ {H T : Type 0} (by_host : Host.Ghosts H) (by_terminal : Terminal.Ghosts T) where
  -- the clock is at most the latest time
  may_at_clock : (now : ℕ) (a : Moment H T) → (job_at a).closed ≡ false → 8 ≤ length a.sheet → now ≡ (job_at a).clock → may_step now (length a.sheet) (job_at a)
      ≡ Ok tt
  may_at_clock now a free l e =
      let timely : (job_at a).clock ≤ 2 ^ 62 = a.job.timely in
      grind (arith, nat_tests, common_steps, free, l, e, timely)

  -- a child that ends within a grace
  within : (t : Timer) (now : ℕ) (a : Moment H T) (d : Done) (b : Moment H T) → RestartPends t (job_at a) → 1 ≤ count_by reports_end (records d b)
      → Makes by_host by_terminal (Calls.Step Kinds.Child now) a d b → d.tally.tried ≡ 1
  within t now a d b p l made =
      step_cases (λ d b. 1 ≤ count_by reports_end (records d b) → d.tally.tried ≡ 1) (λ r may l. absurd (grind (arith, common_steps, l)))
      (λ s may step l.
      let way = way_of Kinds.Child 0 now a b s step in
      let wrote = records_are step.conducts in
      ap spawns_among wrote ∙ way.1.starts ∙ both_count _ (found_end way.0.1) restart (omega (arith, way.1.ends, rw wrote at l)))
      made l
    where
      restart : is_some (memory (job_at a).mailbox.timer) ≡ true
      restart = ap (λ k. is_some (memory k)) p.0 ∙ ap (λ end. is_some (memory_of end t.ticket)) p.1

  -- a child step takes no order
  child_orders : (now : ℕ) (a : Moment H T) (d : Done) (b : Moment H T) → Makes by_host by_terminal (Calls.Step Kinds.Child now) a d b → d.tally.ordered ≡ 0
  child_orders now a d b made = step_cases (λ d b. d.tally.ordered ≡ 0) (λ r may. refl) (λ s may step. ap (λ x. from_bool x.ordered)
      (way_of Kinds.Child 0 now a b s step).2) made

pub cases : {H T : Type 0} (by_host : Host.Ghosts H) (by_terminal : Terminal.Ghosts T) → MeetsCases by_host by_terminal
cases by_host by_terminal =
    record {
      grace = λ signal a d b free l made. ap (λ x. x.1) made.answers.answer ∙ grind (arith, nat_tests, free);
      day = λ signal a d b l room made. ap (λ x. is_ok x.1) made.answers.answer ∙ grind (arith, nat_tests, room);
      seven = λ kind now a d b free l made. step_refused Sheet (grind (arith, nat_tests, free, l)) made;
      eight = λ kind now a d b free l e made. step_passes (may_at_clock by_host by_terminal now a free (omega (arith, l)) e) made;
      earlier = λ kind now a d b free l e made. step_refused Clock (grind (arith, nat_tests, free, l, e)) made;
      equal = λ kind now a d b free l e made. step_passes (may_at_clock by_host by_terminal now a free l e) made;
      full = λ a d b free l made.
          let full : d.answer ≡ Err Queue = ap (λ x. x.1) made.answers.answer ∙ grind (arith, nat_tests, free, l) in
          (full, rw full at (goes by_host by_terminal (Calls.Send Sends.Restart) a d b made).fair.refused);
      not_yet = λ t a d b p e k made. (control_taken by_host by_terminal 519 a d b k made).early t p (omega (arith, e));
      now_due = λ t a d b p e k made.
          let due = (control_taken by_host by_terminal 520 a d b k made).due t p (omega (arith, e)) in
          (due.0, ap (λ q. q.urgent) due.1);
      waits = λ ticket now a d m e b free none urgent high sent answer made k.
          let step = accepted made k in
          waited (IsAnswered by_host by_terminal) now ticket (job_at a) (job_at m) d.answer free (a.job.in_order free).later none urgent high
          sent.answers.answer answer _ _ step.2.conducts.trace (step_end b.job step.0) step.2.conducts.traces;
      within = within by_host by_terminal;
      past = λ t now a d b p l running k none made.
          let step = accepted made k in
          let wrote : records d b ≡ journal step.2.conducts.trace = ap (λ x. records x b) step.3 ∙ records_are step.2.conducts in
          let way = continue_way now t (job_at a) _ (step_end b.job step.0) p.0 p.1 l (way_of Kinds.Control 0 now a b step.0 step.2) in
          ap (λ rs. map (λ r. r.call) (filter is_decisive rs)) wrote ∙ way.1.continued.1 running (ap (λ rs. count_by is_failure rs) (sym wrote) ∙ none);
      next_end = λ t now later a d m e b p l k made ends.
          let none = ap (λ u. owed_starts u) ((control_taken by_host by_terminal now a d m k made).due t p.0 l).0 in
          omega (arith, none, (goes by_host by_terminal (Calls.Step Kinds.Child later) m e b ends).starts, child_orders by_host by_terminal later m e b ends);
    }
