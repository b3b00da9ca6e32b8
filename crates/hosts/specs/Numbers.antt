-- What a number from 0 up says as an answer of each kind, as the journal writes them.
use Rattle.std.specs.Prelude.{ℕ, ◌-◌, ◌^◌, if◌then◌else◌, ◌&&◌, Some, None, Option, ◌==◌, nat_le, nat_lt, ⊤}
use Rattle.std.specs.Option.{option_map}
use Rattle.host.specs.declared.state.ProcessEnd.{ProcessEnd}
use Rattle.host.specs.declared.state.ProcessEnd.TheVariants.{Exited, Signalled}

-- a child from 1 to 2^31 − 1
abbrev pub child_of : ℕ → Option ℕ
child_of n = if nat_le 1 n && nat_lt n (2 ^ 31) then Some n else None

-- an end: 1000 and an exit code, or 2000 and a signal from 1 to 31
abbrev pub end_of : ℕ → Option ProcessEnd
end_of n =
    if nat_le 1000 n && nat_le n 1255 then Some (Exited (n - 1000))
    else if nat_le 2001 n && nat_le n 2031 then Some (Signalled (n - 2000))
    else None

-- 0 where the child goes on, or its end
abbrev pub poll_of : ℕ → Option (Option ProcessEnd)
poll_of n = if n == 0 then Some None else option_map Some (end_of n)

-- 0 where nothing is answered
abbrev pub nothing_of : ℕ → Option ⊤
nothing_of n = if n == 0 then Some tt else None
