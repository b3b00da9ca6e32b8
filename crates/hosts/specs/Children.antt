-- The children of the simulated host: a list, in the order of their spawns.
use Rattle.std.specs.Prelude.{ℕ, ◌^◌, Bool, true, false, if◌then◌else◌, not, ◌&&◌, List, map, filter, length, Some, None, Option, ◌==◌, nat_lt}
use Rattle.std.specs.FinSet as set
use Rattle.std.specs.List.{find}
use Rattle.std.specs.Option.{option_map}
use Rattle.std.specs.Set.{swap_key}
use Rattle.host.specs.Books.{Roster}
use Rattle.host.specs.declared.state.ProcessEnd.{ProcessEnd}
use Rattle.host.specs.declared.state.ProcessEnd.TheVariants as process
use Rattle.hosts.specs.declared.child.End.{End}
use Rattle.hosts.specs.declared.child.End.TheVariants.{Exited, Signalled}
use Rattle.hosts.specs.declared.child.Life.{Life}
use Rattle.hosts.specs.declared.child.Life.TheVariants.{Going, Stopped, Ended}
use Rattle.hosts.specs.declared.child.Child.{Child}
use Rattle.hosts.specs.declared.children.Children.{Children}

-- a child with this number and life
abbrev pub child : ℕ → Life → Child
child number life = record { number = number; life = life }

-- what the table of them holds: the children, and the number of the next one
abbrev pub items : Children → List Child
items t = t.list.items

abbrev pub contents_of : Children → List Child × ℕ
contents_of t = (items t, t.next)

-- the set of their numbers
abbrev pub roster_of : List Child → Roster
roster_of cs = set.from_list (map (λ c. c.number) cs)

-- the life of the child n, if it is there
abbrev pub life_of : ℕ → List Child → Option Life
life_of n cs = option_map (λ c. c.life) (find (λ c. n == c.number) cs)

-- the children without the child n
abbrev pub children_without : ℕ → List Child → List Child
children_without n cs = filter (λ c. not (c.number == n)) cs

-- the children once the child n has this life
abbrev pub with_life : ℕ → Life → List Child → List Child
with_life n life cs = swap_key (λ c. n == c.number) cs (child n life)

-- a child is living where it is there and has not ended
abbrev pub is_living : Option Life → Bool
is_living None = false
is_living (Some Going) = true
is_living (Some Stopped) = true
is_living (Some (Ended end)) = false

-- the children once the child n has this life, if it is living
abbrev pub with_living : ℕ → Life → List Child → List Child
with_living n life cs = if is_living (life_of n cs) then with_life n life cs else cs

-- the children once the child n, which has this life, was asked for its end: one that ended leaves with its report
abbrev pub after_report : ℕ → Option Life → List Child → List Child
after_report n None cs = cs
after_report n (Some Going) cs = cs
after_report n (Some Stopped) cs = cs
after_report n (Some (Ended end)) cs = children_without n cs

-- there are fewer than 16 children, and the next number is below 2^31
abbrev pub has_room : ℕ → List Child → Bool
has_room next cs = nat_lt (length cs) 16 && nat_lt next (2 ^ 31)

-- how a process ended that ended so
abbrev pub process_end : End → ProcessEnd
process_end (Exited code) = process.Exited code
process_end (Signalled s) = process.Signalled s
