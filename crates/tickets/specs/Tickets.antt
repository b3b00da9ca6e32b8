-- The ticket table: places, of which each is free or has a ticket.
use Rattle.std.specs.Prelude.{ℕ, ◌+◌, ◌^◌, Bool, true, false, ◌&&◌, if◌then◌else◌, List, [], ◌∷◌, replicate, Some, None, Option, ◌==◌, nat_le, nat_lt}
use Rattle.std.specs.List.{count_by, find, fold}
use Rattle.std.specs.Option.{is_none, option_and_then, option_flatten, option_map}
use Rattle.tickets.specs.declared.flag.Mark.{Mark}
use Rattle.tickets.specs.declared.flag.Mark.TheVariants.{Unheld, Held, Raised}
use Rattle.tickets.specs.declared.flag.Entry.{Entry}

-- a place: a ticket, or none where it is free
abbrev pub Place : Type 0
Place = Option Entry

-- the places, the first first
abbrev pub Table : Type 0
Table = List Place

-- a ticket table as its callers see it: the places, and the last serial given out, 0 before the first
pub record TicketsView : Type 0 where
  pub table : Table
  pub issued : ℕ

-- the place of a ticket with this serial and mark
abbrev pub place_with : ℕ → Mark → Place
place_with ticket mark = Some (record { ticket = ticket; mark = mark })

-- MARKS

-- a ticket so marked waits to be raised
abbrev pub is_waiting : Mark → Bool
is_waiting Raised = false
is_waiting _ = true

-- it is raised
abbrev pub is_raised : Mark → Bool
is_raised Raised = true
is_raised _ = false

-- it has a place, whatever its mark
abbrev pub is_taken : Mark → Bool
is_taken _ = true

-- the mark of a new ticket, held or not
abbrev pub new_mark : Bool → Mark
new_mark held = if held then Held else Unheld

-- PLACES

-- the place is free
abbrev pub is_free : Place → Bool
is_free e = is_none e

-- the ticket t waits there
abbrev pub waits : ℕ → Place → Bool
waits t None = false
waits t (Some k) = is_waiting k.mark && t == k.ticket

-- the ticket t has its place there
abbrev pub stands : ℕ → Place → Bool
stands t None = false
stands t (Some k) = t == k.ticket

-- the place of the ticket t, so marked, once t is raised: one that nobody holds leaves its place
abbrev pub place_after_raise : ℕ → Mark → Place
place_after_raise t Unheld = None
place_after_raise t _ = place_with t Raised

-- a place once its ticket is raised
abbrev pub raise_place : Place → Place
raise_place e = option_and_then (λ k. place_after_raise k.ticket k.mark) e

-- TABLES

-- the first place that p picks is changed by f; none where p picks none
abbrev pub change : (Place → Bool) → (Place → Place) → Table → Table
change p f [] = []
change p f (e ∷ es) = if p e then f e ∷ es else e ∷ change p f es

-- the waiting ticket t is raised
abbrev pub raise : ℕ → Table → Table
raise t es = change (waits t) raise_place es

-- each ticket of a list is raised, the first first
abbrev pub raise_each : List ℕ → Table → Table
raise_each ts es = fold (λ table t. raise t table) es ts

-- the ticket t gets the first free place
abbrev pub put : ℕ → Mark → Table → Table
put t mark es = change is_free (λ _. place_with t mark) es

-- the place of the ticket t is freed
abbrev pub vacate : ℕ → Table → Table
vacate t es = change (stands t) (λ _. None) es

-- the mark of the ticket t; none where it has no place
abbrev pub mark_of : ℕ → Table → Option Mark
mark_of t es = option_map (λ k. k.mark) (option_flatten (find (stands t) es))

-- a ticket is settled once it is raised, or has no place any more: it was collected, or nobody held it; the number is 1 for yes
abbrev pub done_count : Option Mark → ℕ
done_count None = 1
done_count (Some Raised) = 1
done_count (Some mark) = 0

-- what may become of a ticket in one call that does not collect it: one that is held waits on or is raised, a raised one stays
-- raised, and one that has no place any more gets none
abbrev pub goes_on : Option Mark → Option Mark → Bool
goes_on (Some Held) (Some Held) = true
goes_on (Some Held) (Some Raised) = true
goes_on (Some Raised) (Some Raised) = true
goes_on (Some Unheld) after = true
goes_on None None = true
goes_on before after = false

-- NEW TICKETS

-- 256 free places, and no serial given out
abbrev pub fresh_tickets : TicketsView
fresh_tickets = record { table = replicate 256 None; issued = 0 }

-- how many places are free
abbrev pub free_places : Table → ℕ
free_places es = count_by is_free es

-- where `last` is the last serial given out, n more tickets can be given: there are places for them, and serials below 2^32
abbrev pub ticket_room : ℕ → ℕ → Table → Bool
ticket_room n last es = nat_le n (free_places es) && nat_lt (last + n) (2 ^ 32)

-- the serial t is given out: its ticket waits in the first free place, held or not
abbrev pub give : ℕ → Bool → TicketsView → TicketsView
give t held v = record { table = put t (new_mark held) v.table; issued = t }

-- the next serial is given out and answered, if there is room
abbrev pub issue : Bool → TicketsView → TicketsView × Option ℕ
issue held v = if ticket_room 1 v.issued v.table then (give (v.issued + 1) held v, Some (v.issued + 1)) else (v, None)
