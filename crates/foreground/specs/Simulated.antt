-- The simulated terminal: what each call is answered, and what the terminal holds after it.
use Rattle.std.specs.Prelude.{◌≡◌, ℕ, if◌then◌else◌, replicate, is_some, Some, None, Option, Ok, Err, Result, ⊤}
use Rattle.host.specs.Fault.{fault}
use Rattle.host.specs.declared.fault.Fault.{Fault}
use Rattle.host.specs.Calls.{TerminalCall, owner, acquire, release, TerminalReply}
use Rattle.host.specs.Books.{TerminalBook, next_count}
use Rattle.foreground.specs.declared.disposition.Handling.TheVariants.{Default}
use Rattle.foreground.specs.declared.simulated.SimulatedTerminal.{SimulatedTerminal}
use Rattle.foreground.specs.View.{tty}
use Rattle.foreground.specs.Posix.{Tty, tcgetpgrp, tcgetattr}
use Rattle.foreground.specs.Moves.{give, restore, take_back}

-- the terminal with the process that calls on it, the settings that the open grant will restore, if one is open, and how many
-- calls were served, modulo 2^64
pub record TerminalView : Type 0 where
  pub tty : Tty
  pub saved : Option ℕ
  pub served : ℕ

-- what a simulated terminal holds
abbrev pub view : SimulatedTerminal → TerminalView
view t = record { tty = tty t.console; saved = t.saved; served = t.served.0 }

-- a new one: nobody has its foreground, and no group is in its session
abbrev pub fresh_terminal : ℕ → TerminalView
fresh_terminal own = record {
  tty = record { own = own; handling = Default; foreground = None; settings = 0; groups = replicate 16 None };
  saved = None;
  served = 0;
}

-- its book: a grant is open as long as settings are saved

abbrev pub grants : Option ℕ → ℕ
grants None = 0
grants (Some settings) = 1

abbrev pub book_of : TerminalView → TerminalBook
book_of s = record { own = s.tty.own; grants = grants s.saved; served = s.served }

-- ACQUIRE: a group was given the foreground, and the settings of before are saved; where that failed, no grant is open

abbrev pub open_grant : ℕ → TerminalView → Result ⊤ Fault × Tty → Result ⊤ Fault × TerminalView
open_grant settings s (Ok u, t) = (Ok tt, record s { tty = t; saved = Some settings })
open_grant settings s (Err f, t) = (Err f, record s { tty = t })

abbrev pub acquire_group : ℕ → TerminalView → Result ⊤ Fault × TerminalView
acquire_group group s = if is_some s.saved then (Err (fault 16), s) else open_grant (tcgetattr s.tty) s (give group s.tty)

-- RELEASE: with a grant open, the foreground is taken back and the saved settings are restored

abbrev pub close_grant : Option ℕ → TerminalView → TerminalView
close_grant None s = s
close_grant (Some settings) s = record s { tty = restore settings (take_back s.tty); saved = None }

-- what a call is answered and leaves, apart from the count

abbrev pub serve : TerminalView → (c : TerminalCall) → TerminalReply c × TerminalView
serve s owner = (tcgetpgrp s.tty, s)
serve s (acquire group) = acquire_group group s
serve s release = (tt, close_grant s.saved s)

abbrev pub count_call : TerminalView → TerminalView
count_call s = record s { served = next_count s.served }

-- a call of a terminal was answered so, and left the terminal so
abbrev pub Did : SimulatedTerminal → (c : TerminalCall) → TerminalReply c → SimulatedTerminal → Type 0
Did t c a u = (a, view u) ≡ serve (count_call (view t)) c
