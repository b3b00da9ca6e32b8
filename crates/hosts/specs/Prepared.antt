-- The prepared host: what each call is answered, and what the host holds after it.
use Rattle.std.specs.Prelude.{◌≡◌, ℕ, ◌+◌, Bool, true, false, if◌then◌else◌, List, length, is_none, is_some, slice_get, Some, None, Ok, Err, Option, Result, ◌==◌, nat_lt, ℤ, pos, negsuc}
use Rattle.std.specs.Option.{ok_or, option_map_or}
use Rattle.host.specs.Command.{options_of}
use Rattle.host.specs.Fault.{fault}
use Rattle.host.specs.declared.fault.Fault.{Fault}
use Rattle.host.specs.Calls.{HostCall, spawn, poll, wait, kill, signal, cont, let_go, hook, routine, tell, HostReply}
use Rattle.host.specs.Books.{HostBook, Roster, next_count, no_child, one_child, spawns_after}
use Rattle.hosts.specs.declared.prepared.PreparedHost.{PreparedHost}
use Rattle.hosts.specs.Numbers.{child_of, end_of, nothing_of, poll_of}

-- the answers, as the journal writes them, the place of the next one, the child, and how many calls were served and how many of
-- them were spawns, modulo 2^64
pub record PreparedView : Type 0 where
  pub answers : List ℤ
  pub place : ℕ
  pub child : Option ℕ
  pub served : ℕ
  pub spawns : ℕ

-- what a prepared host holds, whose sheet has these answers
abbrev pub view : {A : Type 0} → (A → List ℤ) → PreparedHost A → PreparedView
view items h = record { answers = items h.answers; place = h.place; child = h.child; served = h.served.0; spawns = h.spawns.0 }

-- a new one has taken no answer, and has no child
abbrev pub fresh_host : List ℤ → PreparedView
fresh_host answers = record { answers = answers; place = 0; child = None; served = 0; spawns = 0 }

-- its book: the child, if there is one, is the roster
abbrev pub roster_of : Option ℕ → Roster
roster_of None = no_child
roster_of (Some n) = one_child n

abbrev pub book_of : PreparedView → HostBook
book_of s = record { roster = roster_of s.child; served = s.served; spawns = s.spawns }

-- ANSWERS

-- what the number of an answer says to a call, by the values of the numbers from 0 up: −1 to −4095 is a fault with that code; one
-- that doesn't fit faults with 22
abbrev pub read : {A : Type 0} → (ℕ → Option A) → ℤ → Result A Fault
read value_of (pos n) = ok_or (value_of n) (fault 22)
read value_of (negsuc n) = Err (if nat_lt n 4095 then fault (n + 1) else fault 22)

-- the next answer; where the sheet is used up, it is a fault with 61
abbrev pub next_answer : {A : Type 0} → (ℕ → Option A) → PreparedView → Result A Fault
next_answer value_of s = option_map_or (read value_of) (slice_get s.answers s.place) (Err (fault 61))

-- whether the child is n
abbrev pub is_child : ℕ → Option ℕ → Bool
is_child n None = false
is_child n (Some m) = m == n

-- whether a call takes an answer of the sheet: not if the book gives its fault, and a let-go never
abbrev pub takes : Option ℕ → HostCall → Bool
takes child (spawn program options way time) = is_none child
takes child (poll n) = is_child n child
takes child (wait n) = is_child n child
takes child (kill n) = is_child n child
takes child (signal n number) = is_child n child
takes child (cont n) = is_child n child
takes child (let_go n) = false
takes child c = true

-- the answer to a call that names the child n; where it is another, it is a fault with 10
abbrev pub answer_about : {A : Type 0} → ℕ → (ℕ → Option A) → PreparedView → Result A Fault
answer_about n value_of s = if is_child n s.child then next_answer value_of s else Err (fault 10)

-- the answer of each call; a spawn while there is a child faults with 11
abbrev pub answer : PreparedView → (c : HostCall) → HostReply c
answer s (spawn program options way time) = if is_some s.child then Err (fault 11) else next_answer child_of s
answer s (poll n) = answer_about n poll_of s
answer s (wait n) = answer_about n end_of s
answer s (kill n) = answer_about n nothing_of s
answer s (signal n number) = answer_about n nothing_of s
answer s (cont n) = answer_about n nothing_of s
answer s (let_go n) = tt
answer s (hook number state previous) = next_answer options_of s
answer s (routine number state previous) = next_answer nothing_of s
answer s (tell handler told) = next_answer nothing_of s

-- WHAT A CALL LEAVES

-- the next answer is taken, if one is left
abbrev pub take_answer : PreparedView → PreparedView
take_answer s = record s { place = if nat_lt s.place (length s.answers) then s.place + 1 else s.place }

-- the child after a call and its answer
abbrev pub child_after : Option ℕ → (c : HostCall) → HostReply c → Option ℕ
child_after child (spawn program options way time) (Ok n) = Some n
child_after child (poll n) (Ok (Some end)) = None
child_after child (wait n) (Ok end) = None
child_after child (let_go n) a = if is_child n child then None else child
child_after child c a = child

-- the next answer is taken if the call takes one; every call is served, and a spawn counts as one, also if it faults
abbrev pub state_after : PreparedView → HostCall → PreparedView
state_after s c =
    record (if takes s.child c then take_answer s else s)
    { child = child_after s.child c (answer s c); served = next_count s.served; spawns = spawns_after s.spawns c }

-- a call of a host was answered so, and left the host so
abbrev pub Did : {A : Type 0} → (A → List ℤ) → PreparedHost A → (c : HostCall) → HostReply c → PreparedHost A → Type 0
Did items h c a k = (a ≡ answer (view items h) c) × (view items k ≡ state_after (view items h) c)
