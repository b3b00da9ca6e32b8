-- The books of a host and of a terminal: how a call and its answer move them, and which answers fit.
use Rattle.std.specs.Prelude.{◌≡◌, ℕ, ◌+◌, ◌%◌, ◌^◌, ◌<◌, ◌≤◌, Bool, true, false, List, [], ◌∷◌, Some, None, Ok, Err, ⊤}
use Rattle.std.specs.Ordering.{nat_cmp}
use Rattle.std.specs.List.{fold}
use Rattle.std.specs.FinSet as set
use Rattle.host.specs.declared.fault.Fault.{Fault}
use Rattle.host.specs.declared.state.ProcessEnd.{ProcessEnd}
use Rattle.host.specs.declared.state.ProcessEnd.TheVariants.{Exited, Signalled, Continued}
use Rattle.host.specs.Calls.{HostCall, spawn, poll, wait, kill, signal, cont, let_go, hook, routine, tell, HostReply, TerminalCall, owner, acquire, release, TerminalReply, Call, to_host, to_terminal, Reply, Event}

-- a set of children; in which order a host keeps them is its own matter
abbrev pub Roster : Type 0
Roster = set.FinSet nat_cmp

abbrev pub no_child : Roster
no_child = set.empty

abbrev pub one_child : ℕ → Roster
one_child n = set.insert no_child n

-- the children of a host, and how many calls it served and how many of them were spawns, faulted calls too, modulo 2^64
pub record HostBook : Type 0 where
  pub roster : Roster
  pub served : ℕ
  pub spawns : ℕ

-- one more, modulo 2^64
abbrev pub next_count : ℕ → ℕ
next_count n = (n + 1) % 2 ^ 64

-- whether a child is on the roster
abbrev pub is_on_roster : ℕ → Roster → Bool
is_on_roster n r = set.contains r n

-- the roster without a child
abbrev pub strike : ℕ → Roster → Roster
strike n r = set.remove r n

-- a spawn that is answered a child adds it; an end and a let-go strike the child off; a fault leaves the roster
abbrev pub roster_after : Roster → (c : HostCall) → HostReply c → Roster
roster_after r (spawn program options way time) (Ok child) = set.insert r child
roster_after r (poll n) (Ok (Some end)) = strike n r
roster_after r (wait n) (Ok end) = strike n r
roster_after r (let_go n) a = strike n r
roster_after r c a = r

abbrev pub spawns_after : ℕ → HostCall → ℕ
spawns_after n (spawn program options way time) = next_count n
spawns_after n c = n

abbrev pub host_after : HostBook → (c : HostCall) → HostReply c → HostBook
host_after b c a = record { roster = roster_after b.roster c a; served = next_count b.served; spawns = spawns_after b.spawns c }

-- the code of a fault is from 1 to 4095
abbrev pub IsFault : Fault → Type 0
IsFault f = (1 ≤ f.code) × (f.code ≤ 4095)

-- how a child may end
abbrev pub IsEnd : ProcessEnd → Type 0
IsEnd (Exited code) = code ≤ 255
IsEnd (Signalled s) = (1 ≤ s) × (s ≤ 31)
IsEnd Continued = ⊥

-- a call that names a child may fault; it faults with 10 where the child is off the roster
abbrev pub MayFault : ℕ → Roster → Fault → Type 0
MayFault n r f = IsFault f × (is_on_roster n r ≡ false → f.code ≡ 10)

-- the answers that fit a call at this roster, where a roster holds at most so many
abbrev pub HostFits : ℕ → Roster → (c : HostCall) → HostReply c → Type 0
HostFits most r (spawn program options way time) (Ok child) = (is_on_roster child r ≡ false) × (1 ≤ child) × (child < 2 ^ 31) × (set.len r < most)
HostFits most r (spawn program options way time) (Err f) = IsFault f × (most ≤ set.len r → f.code ≡ 11)
HostFits most r (poll n) (Ok None) = is_on_roster n r ≡ true
HostFits most r (poll n) (Ok (Some end)) = (is_on_roster n r ≡ true) × IsEnd end
HostFits most r (poll n) (Err f) = MayFault n r f
HostFits most r (wait n) (Ok end) = (is_on_roster n r ≡ true) × IsEnd end
HostFits most r (wait n) (Err f) = MayFault n r f
HostFits most r (kill n) (Ok u) = is_on_roster n r ≡ true
HostFits most r (kill n) (Err f) = MayFault n r f
HostFits most r (signal n s) (Ok u) = is_on_roster n r ≡ true
HostFits most r (signal n s) (Err f) = MayFault n r f
HostFits most r (cont n) (Ok u) = is_on_roster n r ≡ true
HostFits most r (cont n) (Err f) = MayFault n r f
HostFits most r (let_go n) u = ⊤
HostFits most r (hook n state previous) (Ok options) = ⊤
HostFits most r (hook n state previous) (Err f) = IsFault f
HostFits most r (routine n state previous) (Ok u) = ⊤
HostFits most r (routine n state previous) (Err f) = IsFault f
HostFits most r (tell handler told) (Ok u) = ⊤
HostFits most r (tell handler told) (Err f) = IsFault f

-- a call, its answer and the book after it keep the rules of the book
pub record HostKeeps (most : ℕ) (b : HostBook) (c : HostCall) (a : HostReply c) (b' : HostBook) : Type 0 where
  pub moved : b' ≡ host_after b c a
  pub fits : HostFits most b.roster c a

-- the terminal's own group, its open grants (0 or 1), and how many calls it served, modulo 2^64
pub record TerminalBook : Type 0 where
  pub own : ℕ
  pub grants : ℕ
  pub served : ℕ

-- a granted acquire opens a grant, a release leaves none open
abbrev pub grants_after : ℕ → (c : TerminalCall) → TerminalReply c → ℕ
grants_after n owner group = n
grants_after n (acquire group) (Ok u) = 1
grants_after n (acquire group) (Err f) = n
grants_after n release u = 0

abbrev pub terminal_after : TerminalBook → (c : TerminalCall) → TerminalReply c → TerminalBook
terminal_after b c a = record { own = b.own; grants = grants_after b.grants c a; served = next_count b.served }

-- an owner is a group, which is above 0, or none; an acquire opens a grant where none is open, and where one is it faults with 16
abbrev pub TerminalFits : ℕ → (c : TerminalCall) → TerminalReply c → Type 0
TerminalFits n owner None = ⊤
TerminalFits n owner (Some group) = 1 ≤ group
TerminalFits n (acquire group) (Ok u) = n ≡ 0
TerminalFits n (acquire group) (Err f) = 1 ≤ n → f.code ≡ 16
TerminalFits n release u = ⊤

pub record TerminalKeeps (b : TerminalBook) (c : TerminalCall) (a : TerminalReply c) (b' : TerminalBook) : Type 0 where
  pub moved : b' ≡ terminal_after b c a
  pub fits : TerminalFits b.grants c a

-- what every terminal's book holds: an own group above 0, and at most one open grant
abbrev pub IsTerminal : TerminalBook → Type 0
IsTerminal b = (1 ≤ b.own) × (b.grants ≤ 1)

-- the two books after the calls of a trace

abbrev pub host_book_after : HostBook → (c : Call) → Reply c → HostBook
host_book_after b (to_host c) a = host_after b c a
host_book_after b (to_terminal c) a = b

abbrev pub terminal_book_after : TerminalBook → (c : Call) → Reply c → TerminalBook
terminal_book_after b (to_host c) a = b
terminal_book_after b (to_terminal c) a = terminal_after b c a

abbrev pub host_along : HostBook → List Event → HostBook
host_along b es = fold (λ book e. host_book_after book e.0 e.1) b es

abbrev pub terminal_along : TerminalBook → List Event → TerminalBook
terminal_along b es = fold (λ book e. terminal_book_after book e.0 e.1) b es

-- the spawns among the calls of a trace

abbrev pub spawn_count : Call → ℕ
spawn_count (to_host (spawn program options way time)) = 1
spawn_count c = 0

abbrev pub spawns_in : List Event → ℕ
spawns_in [] = 0
spawns_in (e ∷ es) = spawn_count e.0 + spawns_in es
