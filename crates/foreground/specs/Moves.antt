-- What a supervisor does to its terminal: sequences of POSIX's calls, with signal 22 ignored for each write.
use Rattle.std.specs.Prelude.{◌≡◌, ℕ, true, Some, Ok, Err, Result, ⊤}
use Rattle.host.specs.declared.fault.Fault.{Fault}
use Rattle.foreground.specs.declared.disposition.Handling.TheVariants.{Ignored}
use Rattle.foreground.specs.Session.{is_in_session}
use Rattle.foreground.specs.Posix.{Tty, tcsetpgrp, tcsetattr, continue_group}

-- a call with signal 22 ignored; the former disposition is put back, whatever the call answers
abbrev pub with_ignored : (Tty → Result ⊤ Fault × Tty) → Tty → Result ⊤ Fault × Tty
with_ignored call t = let done = call (record t { handling = Ignored }) in (done.0, record (done.1) { handling = t.handling })

-- the foreground is moved to the own group; where that fails, it stays
abbrev pub take_back : Tty → Tty
take_back t = (with_ignored (tcsetpgrp t.own) t).1

-- the own group has the foreground after it, if it is in the session
abbrev pub TakesBack : Tty → Tty → Type 0
TakesBack t t' = is_in_session t.own t.groups ≡ true → t'.foreground ≡ Some t.own

-- the settings become these
abbrev pub restore : ℕ → Tty → Tty
restore settings t = (with_ignored (tcsetattr settings) t).1

-- once a group was continued: where that failed, the foreground is taken back from it
abbrev pub after_continuing : Tty → Result ⊤ Fault → Result ⊤ Fault × Tty
after_continuing t (Ok u) = (Ok tt, t)
after_continuing t (Err f) = (Err f, take_back t)

-- once the foreground was moved to a group: it is continued; where the move failed, nothing more is done
abbrev pub after_moving : ℕ → Result ⊤ Fault × Tty → Result ⊤ Fault × Tty
after_moving group (Ok u, t) = after_continuing t (continue_group group t.groups)
after_moving group (Err f, t) = (Err f, t)

-- a group is given the foreground
abbrev pub give : ℕ → Tty → Result ⊤ Fault × Tty
give group t = after_moving group (with_ignored (tcsetpgrp group) t)
