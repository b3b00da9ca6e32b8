-- The book of the prepared host keeps its rules.
use Rattle.std.specs.Prelude.{◌≡◌, ℕ, ◌+◌, ◌≤◌, Bool, true, false, if◌then◌else◌, is_some, slice_get, Some, None, Ok, Err, Option, Result, nat_lt, ℤ, pos, negsuc, refl}
use Rattle.std.specs.FinSet as set
use Rattle.std.specs.Cmp.{nat_cmp_total}
use Rattle.std.specs.FinSet.{members, nat_cmp-IsAntisymmetric, same_set}
use Rattle.std.specs.Option.{ok_or, option_map_or}
use Rattle.std.proofs.Common.{◌∙◌, arith}
use Rattle.std.proofs.lemmas.Bool.Decides.{nat_tests}
use Rattle.host.specs.Fault.{fault}
use Rattle.host.specs.declared.fault.Fault.{Fault}
use Rattle.host.specs.declared.command.SpawnOptions.{SpawnOptions}
use Rattle.host.specs.declared.state.ProcessEnd.{ProcessEnd}
use Rattle.host.specs.Calls.{HostCall, spawn, poll, wait, kill, signal, cont, let_go, hook, routine, tell, HostReply}
use Rattle.host.specs.Books.{HostFits, HostKeeps, IsEnd, IsFault, MayFault, Roster, is_on_roster, no_child, roster_after, strike}
use Rattle.host.specs.Command.{options_of}
use Rattle.hosts.specs.Numbers.{child_of, end_of, nothing_of, poll_of}
use Rattle.hosts.specs.Prepared.{PreparedView, answer, answer_about, book_of, child_after, is_child, next_answer, read, roster_of, state_after}

-- THE ROSTER OF A CHILD OR NONE

pub len_of_roster : (o : Option ℕ) → set.len (roster_of o) ≡ (if is_some o then 1 else 0)
len_of_roster None = grind (arith, members)
len_of_roster (Some n) = grind (arith, members)

-- one child at most
pub bounded : (o : Option ℕ) → set.len (roster_of o) ≤ 1
bounded o = grind (arith, len_of_roster o)

is_on_roster-roster_of : (n : ℕ) (o : Option ℕ) → is_on_roster n (roster_of o) ≡ is_child n o
is_on_roster-roster_of n None = grind (arith, members)
is_on_roster-roster_of n (Some m) = grind (arith, nat_tests, members)

roster_of-without : (n : ℕ) (o : Option ℕ) → roster_of (if is_child n o then None else o) ≡ strike n (roster_of o)
roster_of-without n None = same_set nat_cmp_total nat_cmp-IsAntisymmetric _ _ (λ q. grind (arith, nat_tests, members))
roster_of-without n (Some m) = same_set nat_cmp_total nat_cmp-IsAntisymmetric _ _ (λ q. grind (arith, nat_tests, members))

-- WHAT IS READ FROM A NUMBER FITS

end_fits : (n : ℕ) (end : ProcessEnd) → end_of n ≡ Some end → IsEnd end
end_fits n end e = grind (arith, nat_tests)

-- WHAT THE SHEET ANSWERS FITS

-- what holds of every fault, and of every value that a number says, holds of the next answer
module _ {A : Type 0} (value_of : ℕ → Option A) (P : Result A Fault → Type 0)
    (faults : (f : Fault) → IsFault f → P (Err f)) (values : (n : ℕ) (x : A) → value_of n ≡ Some x → P (Ok x)) where
  value_fits : (n : ℕ) (o : Option A) → value_of n ≡ o → P (ok_or o (fault 22))
  value_fits n None e = faults (fault 22) (grind arith)
  value_fits n (Some x) e = values n x e

  fault_fits : (n : ℕ) (b : Bool) → nat_lt n 4095 ≡ b → P (Err (if b then fault (n + 1) else fault 22))
  fault_fits n true e = faults (fault (n + 1)) (grind (arith, nat_tests))
  fault_fits n false e = faults (fault 22) (grind arith)

  number_fits : (number : Option ℤ) → P (option_map_or (read value_of) number (Err (fault 61)))
  number_fits None = faults (fault 61) (grind arith)
  number_fits (Some (pos n)) = value_fits n _ refl
  number_fits (Some (negsuc n)) = fault_fits n _ refl

  next_fits : (s : PreparedView) → P (next_answer value_of s)
  next_fits s = number_fits (slice_get s.answers s.place)

-- THE RULES

module _ (s : PreparedView) where
  abbrev roster : Roster
  roster = roster_of s.child

  -- a call answered so moves the roster as it leaves the child, and the answer fits
  abbrev KeepsRules : (c : HostCall) → HostReply c → Type 0
  KeepsRules c a = (roster_of (child_after s.child c a) ≡ roster_after roster c a) × HostFits 1 roster c a

  rules-spawn : (program : ℕ) (options : SpawnOptions) (way time : ℕ) (o : Option ℕ) → s.child ≡ o
      → KeepsRules (spawn program options way time) (if is_some o then Err (fault 11) else next_answer child_of s)
  rules-spawn program options way time (Some n) e = grind arith
  rules-spawn program options way time None e =
      next_fits child_of (KeepsRules (spawn program options way time))
      (λ f h. grind (arith, members, e)) (λ n child said. grind (arith, nat_tests, members, e, said)) s

  -- what holds of a fit fault, and of a value where n is the child, holds of the answer about n
  about : {A : Type 0} (n : ℕ) (value_of : ℕ → Option A) (P : Result A Fault → Type 0) → ((f : Fault) → MayFault n roster f → P (Err f))
      → (is_on_roster n roster ≡ true → no_child ≡ strike n roster → (m : ℕ) (x : A) → value_of m ≡ Some x → P (Ok x))
      → (b : Bool) → is_child n s.child ≡ b → P (if b then next_answer value_of s else Err (fault 10))
  about n value_of P faults values true e =
      let on : is_on_roster n roster ≡ true = is_on_roster-roster_of n s.child ∙ e in
      next_fits value_of P (λ f h. faults f (h, λ off. cc)) (values on (rw e at (roster_of-without n s.child))) s
  about n value_of P faults values false e = faults (fault 10) (grind arith)

  rules-poll : (n : ℕ) → is_on_roster n roster ≡ true → no_child ≡ strike n roster
      → (m : ℕ) (x : Option ProcessEnd) → poll_of m ≡ Some x → KeepsRules (poll n) (Ok x)
  rules-poll n on over m None said = (refl, on)
  rules-poll n on over m (Some end) said = (over, (on, end_fits m end (grind (arith, nat_tests))))

  rules-signal : (n number : ℕ) → KeepsRules (signal n number) (answer_about n nothing_of s)
  rules-signal n number = about n nothing_of (KeepsRules (signal n number)) (λ f h. (refl, h)) (λ on over m u said. (refl, on)) _ refl

  rules-tell : (handler : ℕ) (told : Fault) → KeepsRules (tell handler told) (next_answer nothing_of s)
  rules-tell handler told = next_fits nothing_of (KeepsRules (tell handler told)) (λ f h. (refl, h)) (λ m u said. (refl, tt)) s

  rules : (c : HostCall) → KeepsRules c (answer s c)
  rules (spawn program options way time) = rules-spawn program options way time _ refl
  rules (poll n) = about n poll_of (KeepsRules (poll n)) (λ f h. (refl, h)) (rules-poll n) _ refl
  rules (wait n) = about n end_of (KeepsRules (wait n)) (λ f h. (refl, h)) (λ on over m end said. (over, (on, end_fits m end said))) _ refl
  rules (kill n) = rules-signal n 9
  rules (signal n number) = rules-signal n number
  rules (cont n) = rules-signal n 18
  rules (let_go n) = (roster_of-without n s.child, tt)
  rules (hook number state previous) =
      next_fits options_of (KeepsRules (hook number state previous)) (λ f h. (refl, h)) (λ m options said. (refl, tt)) s
  rules (routine number state previous) = rules-tell number (fault 0)
  rules (tell handler told) = rules-tell handler told

  -- each call, answered and moved so, keeps the rules of the book
  pub keeps_so : (c : HostCall) (a : HostReply c) (t : PreparedView) → (a ≡ answer s c) × (t ≡ state_after s c)
      → HostKeeps 1 (book_of s) c a (book_of t)
  keeps_so c a t did = rw (did.0, did.1) (let r = rules c in record { moved = cc (r.0); fits = r.1 })
