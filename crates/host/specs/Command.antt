-- The options of a spawn, the number that a set of them is written as, and whether a command wants a grant.
use Rattle.std.specs.Prelude.{ℕ, ◌+◌, ◌/◌, ◌%◌, Bool, if◌then◌else◌, not, ◌&&◌, Some, None, Option, ◌==◌, nat_le}
use Rattle.host.specs.declared.command.SpawnOptions.{SpawnOptions}
use Rattle.host.specs.declared.command.Command.{Command}

-- a mark that is set counts its number
abbrev pub mark : Bool → ℕ → ℕ
mark b n = if b then n else 0

abbrev pub sum_of : SpawnOptions → ℕ
sum_of o = mark o.grouped 1 + mark o.session 2 + mark o.reset_sigmask 4 + mark o.grant_foreground 8

-- whether the mark of that number is in the sum
abbrev pub has_mark : ℕ → ℕ → Bool
has_mark sum n = sum / n % 2 == 1

-- the options that a number from 0 to 15 is the sum of
abbrev pub options_of : ℕ → Option SpawnOptions
options_of sum =
    if nat_le sum 15
    then Some (record { grouped = has_mark sum 1; session = has_mark sum 2; reset_sigmask = has_mark sum 4; grant_foreground = has_mark sum 8 })
    else None

-- a grant of the foreground is wanted if the command has grant_foreground and grouped, and not session
abbrev pub wants_grant : Command → Bool
wants_grant c = c.options.grant_foreground && c.options.grouped && not c.options.session
