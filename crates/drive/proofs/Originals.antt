-- A run of the job is the original's.
use Rattle.std.proofs.Common.{◌≡◌, ℕ, true, false, if◌then◌else◌, Some, None, List, [], ◌∷◌, refl, sym, subst, arith}
use Rattle.std.specs.Prelude.{⊤}
use Rattle.std.specs.List.{list_any}
use Rattle.std.proofs.lemmas.Grind.{common_steps}
use Rattle.host.specs.declared.state.CommandState.{CommandState}
use Rattle.host.specs.declared.state.CommandState.TheVariants.{Pending}
use Rattle.host.specs.Calls.{Call, Reply, Event}
use Rattle.host.specs.Interaction.{Interaction, done, ask, bind, Traces}
use Rattle.host.specs.Journal.{record_of, journal}
use Rattle.task.specs.declared.messages.Control.{Control}
use Rattle.task.specs.declared.messages.Control.TheVariants.{NextEnding}
use Rattle.task.specs.Task as Tree
use Rattle.task.specs.Task.{GrantMeansRunning}
use Rattle.host.specs.State.{is_running}
use Rattle.task.proofs.Courses.{Carried, control_fits}
use Rattle.task.proofs.Traced.{traced, fitting}
use Rattle.supervisor.specs.declared.answers.StepKind.{StepKind}
use Rattle.supervisor.specs.declared.answers.StepKind.TheVariants as Kinds
use Rattle.supervisor.specs.declared.mailbox.Received as Message
use Rattle.supervisor.specs.Job.{JobView, StepEnd, control_end, carry_out, poll_end, pause_end, tree_of}
use Rattle.supervisor.specs.Mailbox as Mail
use Rattle.supervisor.specs.Mailbox.{MailboxView, TakeResult, settle}
use Rattle.supervisor.specs.Sound.{IsInOrder}
use Rattle.supervisor.proofs.Mailboxes.{take_in}
use Rattle.drive.specs.Original as Original
use Rattle.drive.specs.Original.{Amendments}
use Rattle.drive.specs.Follows.{heard_calls, Follows, Agrees, is_launch, IsApart}
use Rattle.drive.proofs.Likeness.{Like, Spoken, like_follows}
use Rattle.drive.proofs.Arms.{Settles, Seen, Paused, AtOnce, control_like, poll_like, pause_like}
use Rattle.drive.proofs.Mailboxes.{take_moves}
use Rattle.drive.proofs.Flagged.{MatchesTickets, state_of, original_of, same_original, tickets_match, agree, settle_agrees, poll_agrees, as_received, recv-received}

-- ONE STEP

-- a trace of a tree whose value something is made of
traces_made : {S A B : Type 0} (did : S → (c : Call) → Reply c → S → Type 0) (t : Interaction A) (g : A → B) (s s' : S) (p : List Event) (y : B)
    → Traces did (bind t (λ x. done (g x))) s p y s' → (x : A) × Traces did t s p x s' × (y ≡ g x)
traces_made did (done x) g s s' p y h = (x, (h.0, refl, h.2), h.1)
traces_made did (ask c k) g s s' p y h =
    let rest = traces_made did (k h.0) g h.1 s' h.2 y h.5 in
    (rest.0, (h.0, h.1, h.2, h.3, h.4, rest.1), rest.2)

-- the answers of which nothing is said but where the original drops the pauses, or none wait
abbrev Speaks : Type 0 → (c : Call) → Reply c → Type 0
Speaks X c a = is_launch (record_of c a) ≡ true → X

spoken : (X : Type 0) (p : List Event) → (list_any is_launch (journal p) ≡ true → X) → Spoken (Speaks X) p
spoken X [] k = tt
spoken X ((c, a) ∷ p) k = ((λ e. k (grind (arith, common_steps, e))), spoken X p (λ e. k (grind (arith, common_steps, e))))

module _ {W : Type 0} (did : W → (c : Call) → Reply c → W → Type 0) (am : Amendments) (now : ℕ) (v : JobView) (free : v.closed ≡ false)
    (granted : GrantMeansRunning v.task) (order : IsInOrder [] v.mailbox) (w w' : W) (p : List Event) (s : StepEnd) where
  -- what the original comes to, given the answers of a step's trace
  abbrev Comes : Interaction Original.Original → Type 0
  Comes u = (o' : Original.Original) × Follows u (heard_calls p) o' × Agrees s.view o'

  -- a tree that goes on as the original's does, and what is made of its value
  end_comes : {A : Type 0} (P : (c : Call) → Reply c → Type 0) (R : A → Original.Original → Type 0) (t : Interaction A) (u : Interaction Original.Original)
      (g : A → StepEnd) → Like P R t u → Spoken P p → ((x : A) → Traces did t w p x w' → (o : Original.Original) → R x o → Agrees (g x).view o)
      → Traces did (bind t (λ x. done (g x))) w p s w' → Comes u
  end_comes P R t u g like spoke agrees run =
      let x = traces_made did t g w w' p s run in
      let y = like_follows P did R t u w w' p x.0 like x.1 spoke in
      (y.0, y.1, subst (λ (z : StepEnd). Agrees z.view y.0) (sym x.2) (agrees x.0 x.1 y.0 y.2))

  -- where the original keeps the pauses that wait, no launch was granted unless none wait
  abbrev Drops : Type 0
  Drops = (if am.drops then [] else v.task.foreground.pauses) ≡ []

  control_comes : (r : Message.Received) (n : MailboxView) → Mail.take now v.mailbox ≡ Some (r, n) → (raised : List ℕ)
      → MatchesTickets v.closed v.mailbox.tickets raised → IsApart am Kinds.Control now v (journal p) → Traces did (carry_out (Some (r, n)) now v) w p s w'
      → Comes (Original.arm am r.message.control now r.message.ticket (state_of v.task n raised v.closed))
  control_comes r n e raised h apart run =
      let c = r.message.control in
      let t = r.message.ticket in
      let f = state_of v.task n raised false in
      let pending = at_once c v.task.state (λ i j. apart.pending refl r n e i j) in
      let like = control_like am v.task.foreground.pauses (Speaks Drops) (λ _ _ _ _ _ h. h refl) now t f c v.task pending refl in
      rw free (end_comes (Speaks Drops) (Settles now t f) (Tree.control c now v.task) (Original.arm am c now t f) (control_end now r n) like
      (spoken Drops p apart.waiting)
      (λ x trace o z.
      let fits = control_fits c now v.task in
      let ends = traced did v.task granted (Carried c (is_running v.task.state)) (Tree.control c now v.task) w w' p x fits trace _ _ (fitting v.task) in
      let hand = take_in now v.mailbox r n order e in
      let match : MatchesTickets false n.tickets raised = rw ((take_moves now v.mailbox r n e).0, ← free) h in
      rw z (settle_agrees now v.task r n x hand.order (λ i. hand.free (ends.timed i)) match))
      run)
    where
      at_once : (c : Control) (state : CommandState) → (c ≡ NextEnding → state ≡ Pending → am.at_once ≡ true) → AtOnce am c state
      at_once NextEnding Pending k = k refl refl
      at_once c state k = tt

  -- a turn of the loop
  turn_comes : (kind : StepKind) (own : ℕ) (raised : List ℕ) → MatchesTickets v.closed v.mailbox.tickets raised → IsApart am kind now v (journal p)
      → Traces did (tree_of kind own now v) w p s w' → Comes (Original.branch am kind own now (original_of v raised))
  turn_comes Kinds.Control own raised h apart run = rw (recv-received v.task v.mailbox raised v.closed am now (apart.outlasted refl))
      (by (Mail.take now v.mailbox) refl run)
    where
      by : (k : TakeResult) → Mail.take now v.mailbox ≡ k → Traces did (carry_out k now v) w p s w'
          → Comes (Original.control_branch am now (as_received v.task raised v.closed k) (original_of v raised))
      by None e run = rw (run.0, run.1) (original_of v raised, (refl, refl, refl), agree h)
      by (Some (r, n)) e run = control_comes r n e raised h apart run
  turn_comes Kinds.Child own raised h apart run =
      let f = original_of v raised in
      let like = poll_like am v.task.foreground.pauses (Speaks Drops) (λ _ _ _ _ _ h. h refl) now 0 v.task f refl in
      end_comes (Speaks Drops) (Seen f) _ _ (poll_end now v) like (spoken Drops p apart.waiting) (λ x _ o z. rw z (poll_agrees now v x order h)) run
  turn_comes Kinds.Pause own raised h apart run =
      let f = original_of v raised in
      end_comes (Speaks ⊤) (Paused f) _ _ (pause_end now v) (pause_like (Speaks ⊤) f own v.task) (spoken ⊤ p (λ _. tt)) (λ x _ o z. rw z (agree h)) run

  pub branch_comes : (kind : StepKind) (own : ℕ) (o : Original.Original) → Agrees v o → IsApart am kind now v (journal p)
      → Traces did (tree_of kind own now v) w p s w' → Comes (Original.branch am kind own now o)
  branch_comes kind own o a apart run = rw (same_original a) (turn_comes kind own o.raised (tickets_match a) apart run)
