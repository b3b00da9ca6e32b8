-- A terminal, the process that calls on it, and the calls, as POSIX.1-2017 has them. The process blocks no signal.
use Rattle.std.specs.Prelude.{ℕ, ◌==◌, ◌&&◌, not, Bool, true, false, if◌then◌else◌, List, Some, None, Option, Ok, Err, Result, ⊤}
use Rattle.host.specs.Fault.{fault}
use Rattle.host.specs.declared.fault.Fault.{Fault}
use Rattle.foreground.specs.declared.disposition.Handling.{Handling}
use Rattle.foreground.specs.declared.disposition.Handling.TheVariants.{Default, Ignored, Caught}
use Rattle.foreground.specs.declared.session.Member.{Member}
use Rattle.foreground.specs.Session.{is_in_session, has_process}

-- the caller's process group, and what its disposition of signal 22 (SIGTTOU) says; the group that has the foreground, if one has
-- it; the terminal's attributes; and the groups of its session
pub record Tty : Type 0 where
  pub own : ℕ
  pub handling : Handling
  pub foreground : Option ℕ
  pub settings : ℕ
  pub groups : List (Option Member)

-- THE STOP SIGNAL OF A BACKGROUND WRITE

abbrev pub is_ignored : Handling → Bool
is_ignored Default = false
is_ignored Ignored = true
is_ignored Caught = false

-- whether a group has the foreground
abbrev pub has_foreground : ℕ → Option ℕ → Bool
has_foreground n None = false
has_foreground n (Some group) = group == n

-- a caller in the background is sent signal 22 for a write, unless it ignores that signal
abbrev pub is_stopped : Tty → Bool
is_stopped t = not (is_ignored t.handling) && not (has_foreground t.own t.foreground)

-- THE CALLS, each with its answer and what it leaves; a write that is stopped changes nothing and is interrupted (EINTR, 4)

abbrev pub tcgetpgrp : Tty → Option ℕ
tcgetpgrp t = t.foreground

abbrev pub tcgetattr : Tty → ℕ
tcgetattr t = t.settings

-- EPERM, 1, where the group is in another session or nowhere
abbrev pub tcsetpgrp : ℕ → Tty → Result ⊤ Fault × Tty
tcsetpgrp group t =
    if is_stopped t then (Err (fault 4), t)
    else if is_in_session group t.groups then (Ok tt, record t { foreground = Some group })
    else (Err (fault 1), t)

abbrev pub tcsetattr : ℕ → Tty → Result ⊤ Fault × Tty
tcsetattr settings t = if is_stopped t then (Err (fault 4), t) else (Ok tt, record t { settings = settings })

-- signal 18 (SIGCONT) is sent to a group, which continues it; ESRCH, 3, where the group has no process
abbrev pub continue_group : ℕ → List (Option Member) → Result ⊤ Fault
continue_group group groups = if has_process group groups then Ok tt else Err (fault 3)
