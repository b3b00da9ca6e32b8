-- The groups of a session, in its places.
use Rattle.std.specs.Prelude.{ℕ, ◌==◌, ◌&&◌, not, nat_lt, if◌then◌else◌, Bool, false, List, slice_set, Some, None, Option, Ok, Err, Result, ⊤}
use Rattle.std.specs.List.{list_any}
use Rattle.foreground.specs.declared.session.Member.{Member}
use Rattle.foreground.specs.declared.session.NoPlace.{NoPlace}

-- whether a place has the group n
abbrev pub has_group : ℕ → Option Member → Bool
has_group n None = false
has_group n (Some m) = m.group.number == n

-- whether the group stands in one of the places
abbrev pub is_in_session : ℕ → List (Option Member) → Bool
is_in_session n places = list_any (has_group n) places

-- whether a place has the group n, and it isn't empty
abbrev pub has_nonempty_group : ℕ → Option Member → Bool
has_nonempty_group n None = false
has_nonempty_group n (Some m) = m.group.number == n && not m.empty

-- whether the group has a process
abbrev pub has_process : ℕ → List (Option Member) → Bool
has_process n places = list_any (has_nonempty_group n) places

-- a group, or none, is put into a place, of which there are 16
abbrev pub put : ℕ → Option Member → List (Option Member) → Result ⊤ NoPlace × List (Option Member)
put place member places = if nat_lt place 16 then (Ok tt, slice_set places place member) else (Err (record { place = place }), places)
