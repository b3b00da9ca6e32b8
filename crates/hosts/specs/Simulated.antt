-- The simulated host: what each call is answered, and what the host holds after it.
use Rattle.std.specs.Prelude.{◌≡◌, ℕ, ◌+◌, if◌then◌else◌, ◌&&◌, List, [], ◌∷◌, ◌++◌, Some, None, Ok, Err, Option, Result, nat_le, ⊤}
use Rattle.host.specs.Fault.{fault}
use Rattle.host.specs.declared.fault.Fault.{Fault}
use Rattle.host.specs.declared.command.SpawnOptions.{SpawnOptions}
use Rattle.host.specs.declared.state.ProcessEnd.{ProcessEnd}
use Rattle.host.specs.Calls.{HostCall, spawn, poll, wait, kill, signal, cont, let_go, hook, routine, tell, HostReply}
use Rattle.host.specs.Books.{HostBook, IsEnd, next_count, spawns_after}
use Rattle.hosts.specs.declared.child.Life.{Life}
use Rattle.hosts.specs.declared.child.Life.TheVariants.{Going, Stopped, Ended}
use Rattle.hosts.specs.declared.child.Child.{Child}
use Rattle.hosts.specs.declared.simulated.SimulatedHost.{SimulatedHost}
use Rattle.hosts.specs.Children.{child, items, life_of, children_without, with_life, with_living, after_report, has_room, process_end, roster_of}
use Rattle.hosts.specs.Signals.{deliver}

-- the children in the order of their spawns, the number of the next one, the mask of the signals that children ignore, the
-- command's options, and how many calls were served and how many of them were spawns, modulo 2^64
pub record HostView : Type 0 where
  pub children : List Child
  pub next : ℕ
  pub mask : ℕ
  pub options : SpawnOptions
  pub served : ℕ
  pub spawns : ℕ

-- what a simulated host holds
abbrev pub view : SimulatedHost → HostView
view h = record { children = items h.children; next = h.children.next; mask = h.mask; options = h.options; served = h.served.0; spawns = h.spawns.0 }

-- a new one has no children, and its first will be 100
abbrev pub fresh_host : ℕ → SpawnOptions → HostView
fresh_host mask options = record { children = []; next = 100; mask = mask; options = options; served = 0; spawns = 0 }

-- its book: every child, ended or not, is on the roster
abbrev pub book_of : HostView → HostBook
book_of s = record { roster = roster_of s.children; served = s.served; spawns = s.spawns }

-- ANSWERS, by the life of the child that a call names: None where it is off the roster, and then the fault is 10

-- a living child answers nothing, an ended one its end
abbrev pub poll_answer : Option Life → Result (Option ProcessEnd) Fault
poll_answer None = Err (fault 10)
poll_answer (Some Going) = Ok None
poll_answer (Some Stopped) = Ok None
poll_answer (Some (Ended end)) = Ok (Some (process_end end))

-- an ended child answers its end; to wait for a living one faults with 4
abbrev pub wait_answer : Option Life → Result ProcessEnd Fault
wait_answer None = Err (fault 10)
wait_answer (Some Going) = Err (fault 4)
wait_answer (Some Stopped) = Err (fault 4)
wait_answer (Some (Ended end)) = Ok (process_end end)

-- a signal over 31 faults with 22
abbrev pub signal_answer : ℕ → Option Life → Result ⊤ Fault
signal_answer s None = Err (fault 10)
signal_answer s (Some life) = if nat_le s 31 then Ok tt else Err (fault 22)

-- the answer of each call; a spawn without room faults with 11, kill is signal 9, and cont is signal 18
abbrev pub answer : HostView → (c : HostCall) → HostReply c
answer s (spawn program options way time) = if has_room s.next s.children then Ok s.next else Err (fault 11)
answer s (poll n) = poll_answer (life_of n s.children)
answer s (wait n) = wait_answer (life_of n s.children)
answer s (kill n) = signal_answer 9 (life_of n s.children)
answer s (signal n number) = signal_answer number (life_of n s.children)
answer s (cont n) = signal_answer 18 (life_of n s.children)
answer s (let_go n) = tt
answer s (hook number state previous) = Ok s.options
answer s (routine number state previous) = Ok tt
answer s (tell handler code) = Ok tt

-- WHAT A CALL LEAVES

-- the children once a signal was sent to the child n, which has this life; 0 and a number over 31 are no signal's
abbrev pub send_signal : ℕ → ℕ → ℕ → Option Life → List Child → List Child
send_signal mask s n None cs = cs
send_signal mask s n (Some life) cs = if nat_le 1 s && nat_le s 31 then with_life n (deliver mask s life) cs else cs

-- the children after each call
abbrev pub children_after : HostView → HostCall → List Child
children_after s (spawn program options way time) = if has_room s.next s.children then s.children ++ child s.next Going ∷ [] else s.children
children_after s (poll n) = after_report n (life_of n s.children) s.children
children_after s (wait n) = after_report n (life_of n s.children) s.children
children_after s (kill n) = send_signal s.mask 9 n (life_of n s.children) s.children
children_after s (signal n number) = send_signal s.mask number n (life_of n s.children) s.children
children_after s (cont n) = send_signal s.mask 18 n (life_of n s.children) s.children
children_after s (let_go n) = children_without n s.children
children_after s (hook number state previous) = s.children
children_after s (routine number state previous) = s.children
children_after s (tell handler code) = s.children

-- the next child's number after each call: a spawn that is granted uses one, and none comes back
abbrev pub next_after : HostView → HostCall → ℕ
next_after s (spawn program options way time) = if has_room s.next s.children then s.next + 1 else s.next
next_after s c = s.next

-- what is held once one more call is served
abbrev pub count_call : HostView → HostView
count_call s = record s { served = next_count s.served }

-- every call is served, and a spawn counts as one, also if it faults
abbrev pub state_after : HostView → HostCall → HostView
state_after s c = record s { children = children_after s c; next = next_after s c; served = next_count s.served; spawns = spawns_after s.spawns c }

-- an end that is answered is one that a process may have
abbrev pub AnswersEnd : (c : HostCall) → HostReply c → Type 0
AnswersEnd (poll n) (Ok (Some end)) = IsEnd end
AnswersEnd (wait n) (Ok end) = IsEnd end
AnswersEnd c a = ⊤

-- a call of a host was answered so, and left the host so
abbrev pub Did : SimulatedHost → (c : HostCall) → HostReply c → SimulatedHost → Type 0
Did h c a k = (a ≡ answer (view h) c) × (view k ≡ state_after (view h) c) × AnswersEnd c a

-- WHAT A REHEARSAL MAKES HAPPEN

-- the child n, if it is living, has another life; nothing else changes, and no call is counted
abbrev pub make_happen : ℕ → Life → HostView → HostView
make_happen n life s = record s { children = with_living n life s.children }
