-- What a signal does to a simulated child.
use Rattle.std.specs.Prelude.{ℕ, ◌/◌, ◌%◌, ◌^◌, Bool, if◌then◌else◌, not, ◌&&◌, ◌||◌, ◌==◌, nat_le, Ok, Err, Result}
use Rattle.hosts.specs.declared.child.End.TheVariants.{Signalled}
use Rattle.hosts.specs.declared.child.Life.{Life}
use Rattle.hosts.specs.declared.child.Life.TheVariants.{Going, Stopped, Ended}
use Rattle.hosts.specs.declared.signals.NoSignal.{NoSignal}
use Rattle.hosts.specs.declared.signals.NoSignal.TheVariants.{Null, Unknown}

-- the signal of a number from 1 to 31; 0 is the null signal, and a number over 31 is no signal's
abbrev pub signal_of : ℕ → Result ℕ NoSignal
signal_of n = if n == 0 then Err Null else if nat_le n 31 then Ok n else Err Unknown

-- bit s of the mask
abbrev pub has_bit : ℕ → ℕ → Bool
has_bit mask s = mask / 2 ^ s % 2 == 1

-- a signal whose bit is set is ignored, but never 9, 18 or 19
abbrev pub is_ignored : ℕ → ℕ → Bool
is_ignored mask s = has_bit mask s && not (s == 9 || s == 18 || s == 19)

-- a living child continues at 18 and stops at 19 to 22; 17, 23 and 28 do nothing; any other signal ends it
abbrev pub life_after : ℕ → Life → Life
life_after s life =
    if s == 18 then Going
    else if nat_le 19 s && nat_le s 22 then Stopped
    else if s == 17 || s == 23 || s == 28 then life
    else Ended (Signalled s)

-- the life of a child that a signal was delivered to; an ended one takes no signal
abbrev pub deliver : ℕ → ℕ → Life → Life
deliver mask s Going = if is_ignored mask s then Going else life_after s Going
deliver mask s Stopped = if is_ignored mask s then Stopped else life_after s Stopped
deliver mask s (Ended end) = Ended end
