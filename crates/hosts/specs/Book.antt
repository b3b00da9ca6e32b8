-- The book of the simulated host keeps its rules.
use Rattle.std.specs.Prelude.{◌≡◌, ℕ, ◌≤◌, Bool, true, false, if◌then◌else◌, List, [], ◌∷◌, ◌++◌, is_some, Some, None, Ok, Err, Option, refl}
use Rattle.std.proofs.Common.{arith}
use Rattle.std.specs.FinSet as set
use Rattle.std.proofs.lemmas.Bool.Decides.{nat_tests}
use Rattle.host.specs.Fault.{fault}
use Rattle.host.specs.declared.command.SpawnOptions.{SpawnOptions}
use Rattle.host.specs.Calls.{HostCall, spawn, poll, wait, kill, signal, cont, let_go, hook, routine, tell, HostReply}
use Rattle.host.specs.Books.{HostFits, HostKeeps, Roster, is_on_roster, roster_after}
use Rattle.hosts.specs.declared.child.Life.{Life}
use Rattle.hosts.specs.declared.child.Life.TheVariants.{Going, Ended}
use Rattle.hosts.specs.declared.child.Child.{Child}
use Rattle.hosts.specs.declared.simulated.SimulatedHost.{SimulatedHost}
use Rattle.hosts.specs.Children.{after_report, child, has_room, items, roster_of}
use Rattle.hosts.specs.Rosters.{is_on_roster-roster_of, len_of_roster, off_roster, roster_of-push, roster_of-with_life, roster_of-without}
use Rattle.hosts.specs.Signals.{deliver}
use Rattle.hosts.specs.Simulated.{AnswersEnd, HostView, answer, book_of, children_after, poll_answer, send_signal, signal_answer, state_after, view, wait_answer}

pub bounded : (h : SimulatedHost) → set.len (book_of (view h)).roster ≤ 16
bounded h = rw (len_of_roster (items h.children) h.children.distinct) h.children.few

-- THE RULES

module _ (h : SimulatedHost) where
  abbrev s : HostView
  s = view h

  abbrev roster : Roster
  roster = roster_of s.children

  -- a call answered so moves the roster as it leaves the children, and the answer fits
  abbrev KeepsRules : (c : HostCall) → HostReply c → List Child → Type 0
  KeepsRules c a cs = (roster_of cs ≡ roster_after roster c a) × HostFits 16 roster c a

  rules-spawn : (program : ℕ) (options : SpawnOptions) (way time : ℕ) (b : Bool) → has_room s.next s.children ≡ b
      → KeepsRules (spawn program options way time) (if b then Ok s.next else Err (fault 11)) (if b then s.children ++ child s.next Going ∷ [] else s.children)
  rules-spawn program options way time true e =
      let new = off_roster s.next s.children (λ k c l e. omega (arith, h.children.below k c l)) in
      grind (arith, nat_tests, new, roster_of-push s.children (child s.next Going), h.children.begun, len_of_roster s.children h.children.distinct)
  rules-spawn program options way time false e = grind arith

  -- a call about the child n, by its life

  rules-poll : (n : ℕ) (o : Option Life) → is_on_roster n roster ≡ is_some o → AnswersEnd (poll n) (poll_answer o)
      → KeepsRules (poll n) (poll_answer o) (after_report n o s.children)
  rules-poll n None here end = grind arith
  rules-poll n (Some (Ended end)) here fits = (roster_of-without n s.children, (here, fits))
  rules-poll n (Some life) here end = grind arith

  rules-wait : (n : ℕ) (o : Option Life) → is_on_roster n roster ≡ is_some o → AnswersEnd (wait n) (wait_answer o)
      → KeepsRules (wait n) (wait_answer o) (after_report n o s.children)
  rules-wait n None here end = grind arith
  rules-wait n (Some (Ended end)) here fits = (roster_of-without n s.children, (here, fits))
  rules-wait n (Some life) here end = grind arith

  rules-signal : (n number : ℕ) (o : Option Life) → is_on_roster n roster ≡ is_some o
      → KeepsRules (signal n number) (signal_answer number o) (send_signal s.mask number n o s.children)
  rules-signal n number None here = grind arith
  rules-signal n number (Some life) here = grind (arith, roster_of-with_life n (deliver s.mask number life) s.children)

  rules : (c : HostCall) → AnswersEnd c (answer s c) → KeepsRules c (answer s c) (children_after s c)
  rules (spawn program options way time) end = rules-spawn program options way time _ refl
  rules (poll n) end = rules-poll n _ (is_on_roster-roster_of n s.children) end
  rules (wait n) end = rules-wait n _ (is_on_roster-roster_of n s.children) end
  rules (kill n) end = rules-signal n 9 _ (is_on_roster-roster_of n s.children)
  rules (signal n number) end = rules-signal n number _ (is_on_roster-roster_of n s.children)
  rules (cont n) end = rules-signal n 18 _ (is_on_roster-roster_of n s.children)
  rules (let_go n) end = (roster_of-without n s.children, tt)
  rules (hook number state previous) end = (refl, tt)
  rules (routine number state previous) end = (refl, tt)
  rules (tell handler told) end = (refl, tt)

  -- each call, answered and moved so, keeps the rules of the book
  pub keeps_so : (c : HostCall) (a : HostReply c) (t : HostView) → (a ≡ answer s c) × (t ≡ state_after s c) × AnswersEnd c a
      → HostKeeps 16 (book_of s) c a (book_of t)
  keeps_so c a t did =
      let r = rules c (rw did.0 at did.2) in
      rw (did.0, did.1) (record { moved = cc (r.0); fits = r.1 })
