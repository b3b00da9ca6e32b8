-- The journal: the record of a call, and the numbers that records are written with.
use Rattle.std.specs.Prelude.{ℕ, ◌+◌, Bool, true, false, ◌&&◌, ◌||◌, List, map, ℤ, pos, neg_ℤ, Ok, Err, Option, Result, ⊤}
use Rattle.std.specs.List.{count_by}
use Rattle.std.specs.Option.{option_map_or}
use Rattle.host.specs.declared.fault.Fault.{Fault}
use Rattle.host.specs.declared.state.ProcessEnd.TheVariants.{Exited, Signalled, Continued}
use Rattle.host.specs.declared.journal.CallKind.{CallKind}
use Rattle.host.specs.declared.journal.CallKind.TheVariants.{Spawn, Poll, Wait, Kill, Signal, Cont, LetGo, Hook, Routine, Tell, Owner, Acquire, Release}
use Rattle.host.specs.declared.journal.Answer.{Answer}
use Rattle.host.specs.declared.journal.Answer.TheVariants.{Nothing, Child, Options, Group, End}
use Rattle.host.specs.declared.journal.Answer.TheVariants as Answers
use Rattle.host.specs.declared.journal.Record.{Record}
use Rattle.host.specs.Command.{sum_of}
use Rattle.host.specs.Calls.{HostCall, spawn, poll, wait, kill, signal, cont, let_go, hook, routine, tell, HostReply, TerminalCall, owner, acquire, release, TerminalReply, Call, to_host, to_terminal, Reply, Event}

-- the number of a call
abbrev pub call_number : CallKind → ℕ
call_number Spawn = 1
call_number Poll = 2
call_number Wait = 3
call_number Kill = 4
call_number Signal = 5
call_number Cont = 6
call_number LetGo = 7
call_number Hook = 8
call_number Routine = 9
call_number Tell = 10
call_number Owner = 11
call_number Acquire = 12
call_number Release = 13

-- the number of an answer: a child, the sum of options or a group; 1000 and the exit code or 2000 and the signal of an end;
-- minus the code of a fault; else 0
abbrev pub answer_number : Answer → ℤ
answer_number Nothing = pos 0
answer_number (Child n) = pos n
answer_number (Options o) = pos (sum_of o)
answer_number (Group n) = pos n
answer_number (End (Exited code)) = pos (1000 + code)
answer_number (End (Signalled s)) = pos (2000 + s)
answer_number (End Continued) = pos 0
answer_number (Answers.Fault f) = neg_ℤ (pos f.code)

-- a value is recorded by f, a fault as itself
abbrev pub or_fault : {A : Type 0} → (A → Answer) → Result A Fault → Answer
or_fault f (Ok x) = f x
or_fault f (Err fault) = Answers.Fault fault

-- a value is recorded by f, none as nothing: a child that goes on, or a terminal that isn't there
abbrev pub or_nothing : {A : Type 0} → (A → Answer) → Option A → Answer
or_nothing f o = option_map_or f o Nothing

abbrev pub no_value : ⊤ → Answer
no_value u = Nothing

abbrev pub journal_record : CallKind → ℕ → ℕ → Answer → Record
journal_record kind child number answer = record { call = kind; child = child; number = number; answer = answer }

-- the record of a call: its child (0 where it names none), its number (0 where it has none) and its answer
abbrev pub host_record : (c : HostCall) → HostReply c → Record
host_record (spawn program options way time) a = journal_record Spawn 0 way (or_fault Child a)
host_record (poll n) a = journal_record Poll n 0 (or_fault (or_nothing End) a)
host_record (wait n) a = journal_record Wait n 0 (or_fault End a)
host_record (kill n) a = journal_record Kill n 0 (or_fault no_value a)
host_record (signal n s) a = journal_record Signal n s (or_fault no_value a)
host_record (cont n) a = journal_record Cont n 0 (or_fault no_value a)
host_record (let_go n) a = journal_record LetGo n 0 Nothing
host_record (hook n state previous) a = journal_record Hook 0 n (or_fault Options a)
host_record (routine n state previous) a = journal_record Routine 0 n (or_fault no_value a)
host_record (tell handler told) a = journal_record Tell 0 told.code (or_fault no_value a)

abbrev pub terminal_record : (c : TerminalCall) → TerminalReply c → Record
terminal_record owner a = journal_record Owner 0 0 (or_nothing Group a)
terminal_record (acquire group) a = journal_record Acquire 0 group (or_fault no_value a)
terminal_record release a = journal_record Release 0 0 Nothing

abbrev pub record_of : (c : Call) → Reply c → Record
record_of (to_host c) a = host_record c a
record_of (to_terminal c) a = terminal_record c a

-- the journal of a trace
abbrev pub event_record : Event → Record
event_record e = record_of e.0 e.1

abbrev pub journal : List Event → List Record
journal p = map event_record p

-- QUESTIONS OF A RECORD

abbrev pub is_spawn : CallKind → Bool
is_spawn Spawn = true
is_spawn kind = false

-- the calls that end a child by force
abbrev pub is_force : CallKind → Bool
is_force Kill = true
is_force Wait = true
is_force kind = false

abbrev pub is_poll : CallKind → Bool
is_poll Poll = true
is_poll kind = false

abbrev pub is_fault : Answer → Bool
is_fault (Answers.Fault f) = true
is_fault answer = false

abbrev pub is_end : Answer → Bool
is_end (End e) = true
is_end answer = false

-- a kill, a wait or a spawn
abbrev pub is_decisive : Record → Bool
is_decisive r = is_force r.call || is_spawn r.call

-- a kill or a wait that faulted
abbrev pub is_failure : Record → Bool
is_failure r = is_force r.call && is_fault r.answer

-- a poll that reported an end
abbrev pub reports_end : Record → Bool
reports_end r = is_poll r.call && is_end r.answer

-- the spawns among records
abbrev pub spawns_among : List Record → ℕ
spawns_among rs = count_by (λ r. is_spawn r.call) rs
