-- What a job may ask of its host and of the terminal, and what each call may be answered.
use Rattle.std.specs.Prelude.{ℕ, ⊤, Option, Result}
use Rattle.host.specs.declared.command.SpawnOptions.{SpawnOptions}
use Rattle.host.specs.declared.fault.Fault.{Fault}
use Rattle.host.specs.declared.state.ProcessEnd.{ProcessEnd}
use Rattle.host.specs.declared.state.CommandState.{CommandState}

-- the calls of a host, with all their arguments
pub data HostCall : Type 0 where
  -- the program, its options, the way of spawning (0 is the default) and the time
  spawn : ℕ → SpawnOptions → ℕ → ℕ → HostCall
  poll : ℕ → HostCall
  wait : ℕ → HostCall
  kill : ℕ → HostCall
  -- the child and the signal
  signal : ℕ → ℕ → HostCall
  cont : ℕ → HostCall
  let_go : ℕ → HostCall
  -- the number of the hook or routine, the state and the previous state
  hook : ℕ → CommandState → Option CommandState → HostCall
  routine : ℕ → CommandState → Option CommandState → HostCall
  -- the handler, and the fault that it is told
  tell : ℕ → Fault → HostCall

-- the value that answers a call, or a fault
abbrev pub HostReply : HostCall → Type 0
HostReply (spawn program options way time) = Result ℕ Fault
HostReply (poll child) = Result (Option ProcessEnd) Fault
HostReply (wait child) = Result ProcessEnd Fault
HostReply (kill child) = Result ⊤ Fault
HostReply (signal child number) = Result ⊤ Fault
HostReply (cont child) = Result ⊤ Fault
HostReply (let_go child) = ⊤
HostReply (hook number state previous) = Result SpawnOptions Fault
HostReply (routine number state previous) = Result ⊤ Fault
HostReply (tell handler fault) = Result ⊤ Fault

-- the calls of a terminal
pub data TerminalCall : Type 0 where
  -- which group has the foreground
  owner : TerminalCall
  -- the foreground for a group
  acquire : ℕ → TerminalCall
  release : TerminalCall

-- the owner of the foreground is a group; none where there is no terminal
abbrev pub TerminalReply : TerminalCall → Type 0
TerminalReply owner = Option ℕ
TerminalReply (acquire group) = Result ⊤ Fault
TerminalReply release = ⊤

pub data Call : Type 0 where
  to_host : HostCall → Call
  to_terminal : TerminalCall → Call

abbrev pub Reply : Call → Type 0
Reply (to_host c) = HostReply c
Reply (to_terminal c) = TerminalReply c

-- a call with its answer
abbrev pub Event : Type 0
Event = (c : Call) × Reply c
