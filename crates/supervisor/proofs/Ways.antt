-- What an accepted step of a job was, whatever host and terminal answered, and that books which fit the job fit it afterwards.
use Rattle.std.proofs.Common.{◌≡◌, ℕ, ◌+◌, ◌≤◌, Bool, true, false, is_some, Some, None, Option, List, refl, ap, arith}
use Rattle.std.specs.Prelude.{◌&&◌}
use Rattle.std.specs.Int.{from_bool}
use Rattle.std.proofs.lemmas.Grind.{common_steps}
use Rattle.host.specs.Calls.{Call, Reply, Event}
use Rattle.host.specs.Books.{HostBook, TerminalBook}
use Rattle.host.specs.Interaction.{Traces}
use Rattle.host.specs.State.{is_running}
use Rattle.task.specs.Messages.{orders}
use Rattle.task.specs.declared.task.Outcome.{Outcome}
use Rattle.task.specs.declared.task.PollOutcome.{PollOutcome}
use Rattle.task.specs.Task as Tree
use Rattle.task.specs.Task.{TaskView, GrantMeansRunning}
use Rattle.task.proofs.Always.{Always, always_then}
use Rattle.task.proofs.Books.{Books, no_calls, moved}
use Rattle.task.proofs.Courses.{FitsTask, Carried, Polled, owes, found_end, control_fits, poll_fits, pause_fits}
use Rattle.task.proofs.Traced.{Fitting, after, traced}
use Rattle.supervisor.specs.declared.answers.StepKind.{StepKind}
use Rattle.supervisor.specs.declared.answers.StepKind.TheVariants.{Control, Child, Pause}
use Rattle.supervisor.specs.declared.mailbox.Received.{Received}
use Rattle.supervisor.specs.declared.answers.Progress.TheVariants.{Idle}
use Rattle.supervisor.specs.Job.{JobView, StepEnd, children_of, control_end, carry_out, poll_end, pause_end, tree_of}
use Rattle.supervisor.specs.Mailbox.{MailboxView, TakeResult, take, orders_start, settle, settle_poll}
use Rattle.supervisor.specs.Timers.{memory, owed_starts}

module _ (time : ℕ) (v : JobView) where
  -- nothing was done
  abbrev pub idle_end : StepEnd
  idle_end = record { view = record v { clock = time }; progress = Idle; ordered = false }

  -- a control step took k: nothing, or a message whose control was carried out
  abbrev pub ControlWay : TakeResult → Books → StepEnd → Type 0
  ControlWay None b s = FitsTask no_calls v.task b × (s ≡ idle_end)
  ControlWay (Some (r, n)) b s = (x : TaskView × Outcome) × Carried r.message.control (is_running v.task.state) b x × (s ≡ control_end time r n x)

  -- what a step of this kind was, that ended with s and moved the books to b
  abbrev pub Way : StepKind → Books → StepEnd → Type 0
  Way Control b s = (k : TakeResult) × (take time v.mailbox ≡ k) × ControlWay k b s
  Way Child b s = (x : TaskView × PollOutcome) × Polled (is_some (memory v.mailbox.timer)) b x × (s ≡ poll_end time v x)
  Way Pause b s = (x : TaskView × Option ℕ) × FitsTask no_calls x.0 b × (s ≡ pause_end time v x)

  step_way : (kind : StepKind) (own : ℕ) (b : Books) → FitsTask no_calls v.task b → Always moved (Way kind) b (tree_of kind own time v)
  step_way Control own b h = by (take time v.mailbox) refl
    where
      by : (k : TakeResult) → take time v.mailbox ≡ k → Always moved (Way Control) b (carry_out k time v)
      by None e = (None, e, (h, refl))
      by (Some (r, n)) e = always_then moved (Carried r.message.control (is_running v.task.state)) (Way Control) b (Tree.control r.message.control time v.task)
          _ (control_fits r.message.control time v.task b h) (λ u x f. (Some (r, n), e, (x, f, refl)))
  step_way Child own b h =
      let restart = is_some (memory v.mailbox.timer) in
      always_then moved (Polled restart) (Way Child) b (Tree.poll_child restart time v.task) _ (poll_fits restart time v.task b h) (λ u x f. (x, f, refl))
  step_way Pause own b h = always_then moved (λ u x. FitsTask no_calls x.0 u) (Way Pause) b (Tree.pause own v.task) _ (pause_fits own v.task b h)
      (λ u x f. (x, f, refl))

  -- so it was after each trace of a step
  pub way_traced : {W : Type 0} (did : W → (c : Call) → Reply c → W → Type 0) (kind : StepKind) (own : ℕ) → GrantMeansRunning v.task
      → (w w' : W) (p : List Event) (s : StepEnd) → Traces did (tree_of kind own time v) w p s w' → (h : HostBook) (u : TerminalBook) → Fitting v.task h u
      → Way kind (after h u p) s
  way_traced did kind own g w w' p s r = traced did v.task g (Way kind) (tree_of kind own time v) w w' p s (step_way kind own) r

-- THE BOOKS

-- a step of the job v ended with s, over the books b
pub record StepFits (v : JobView) (b : Books) (s : StepEnd) : Type 0 where
  pub granted : GrantMeansRunning s.view.task
  pub roster : b.roster ≡ children_of s.view
  pub grants : b.grants ≡ from_bool s.view.task.foreground.grant
  pub starts : b.tally.starts + owed_starts s.view.mailbox.timer ≤ owed_starts v.mailbox.timer + from_bool s.ordered
  pub few : b.tally.starts ≤ 1
  pub yielded : s.view.closed ≡ true → s.view.task.foreground.grant ≡ false

pub one_at_most : (o : Bool) → from_bool o ≤ 1
one_at_most true = omega arith
one_at_most false = omega arith

-- what is taken takes a start that is owed, or one that is ordered
take_owed : (time : ℕ) (m : MailboxView) (r : Received) (n : MailboxView) → take time m ≡ Some (r, n) → from_bool (orders r.message.control) + owed_starts
    n.timer ≤ owed_starts m.timer + from_bool (orders_start r)
take_owed time m r n e = grind (arith, common_steps)

-- and an outcome leaves what it owes
settle_owed : (time : ℕ) (o : Outcome) (ticket : ℕ) (m : MailboxView) → owed_starts (settle time o ticket m).timer ≤ owes o + owed_starts m.timer
settle_owed time o ticket m = grind (arith, common_steps)

-- a start that is owed is tried once the child has ended, and owed no more
poll_owed : (o : PollOutcome) (m : MailboxView) → from_bool (is_some (memory m.timer) && found_end o) + owed_starts (settle_poll o m).timer ≤ owed_starts
    m.timer
poll_owed o m = grind (arith, common_steps)

pub step_fits : (time : ℕ) (v : JobView) (kind : StepKind) (b : Books) (s : StepEnd) → v.closed ≡ false → Way time v kind b s → StepFits v b s
step_fits time v Control b s o (None, e, (h, f)) =
    rw f (record {
      granted = h.0;
      roster = rw o h.1;
      grants = h.2;
      starts = omega (arith, ap (λ m. m.starts) h.3);
      few = omega (arith, ap (λ m. m.starts) h.3);
      yielded = λ g. cc (g, o);
    })
step_fits time v Control b s o (Some (r, n), e, (x, h, f)) =
    rw f (record {
      granted = h.holder;
      roster = h.roster;
      grants = h.grants;
      starts = omega (
        arith,
        h.starts,
        take_owed time v.mailbox r n e,
        settle_owed time x.1 r.message.ticket n,
      );
      few = omega (arith, h.starts, one_at_most (orders r.message.control));
      yielded = h.closed;
    })
step_fits time v Child b s o (x, h, f) =
    let owed = poll_owed x.1 v.mailbox in
    rw f (record {
      granted = h.fits.0;
      roster = rw o h.fits.1;
      grants = h.fits.2;
      starts = omega (arith, h.starts, owed);
      few = omega
          (arith, h.starts, one_at_most (is_some (memory v.mailbox.timer) && found_end x.1));
      yielded = λ g. cc (g, o);
    })
step_fits time v Pause b s o (x, h, f) =
    rw f (record {
      granted = h.0;
      roster = rw o h.1;
      grants = h.2;
      starts = omega (arith, ap (λ m. m.starts) h.3);
      few = omega (arith, ap (λ m. m.starts) h.3);
      yielded = λ g. cc (g, o);
    })
