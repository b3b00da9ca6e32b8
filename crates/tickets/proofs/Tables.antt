-- What raising, issuing and vacating do to a ticket table: to its weights, its length and its marks.
use Rattle.std.proofs.Common.{◌≡◌, ℕ, ◌+◌, ◌≤◌, Bool, true, cond, List, [], ◌∷◌, ◌++◌, length, get_or, set, ◌==◌, false, Option, Some, None, one-add, length-set, refl, ap, ◌∙◌, arith}
use Rattle.std.specs.List.{position_or_len, position}
use Rattle.std.proofs.lemmas.Bool.Decides.{nat_tests}
use Rattle.std.proofs.lemmas.Grind.{common_steps}
use Rattle.std.proofs.lemmas.List.{set_past}
use Rattle.std.proofs.lemmas.List.Sums.{sum_by-cons}
use Rattle.tickets.specs.declared.flag.Mark.{Mark}
use Rattle.tickets.specs.declared.flag.Mark.TheVariants.{Held, Raised}
use Rattle.tickets.specs.Weights.{weight, weigh, one_at, unit_weight}
use Rattle.tickets.specs.Tickets.{Place, Table, place_with, is_waiting, is_raised, is_taken, change, raise, raise_each, put, vacate, mark_of, goes_on, done_count, is_free, free_places, ticket_room}

-- WEIGHTS

pub weigh-append : (w : ℕ → ℕ) (xs ys : List ℕ) → weigh w (xs ++ ys) ≡ weigh w xs + weigh w ys
weigh-append w [] ys = omega arith
weigh-append w (x ∷ xs) ys = omega (arith, weigh-append w xs ys)

pub weigh-each : (xs : List ℕ) → weigh unit_weight xs ≡ length xs
weigh-each [] = refl
weigh-each (x ∷ xs) = omega (arith, weigh-each xs)

pub one_at-same : (t : ℕ) → one_at t t ≡ 1
one_at-same t = grind (arith, nat_tests)

-- what waits or is raised has a place, and a place has one ticket
pub taken_parts : (w : ℕ → ℕ) (es : Table) → weight is_waiting w es + weight is_raised w es ≡ weight is_taken w es
taken_parts w [] = refl
taken_parts w (e ∷ es) = grind (arith, taken_parts w es)

-- there are no more tickets than places
pub places_few : (p : Mark → Bool) (es : Table) → weight p unit_weight es ≤ length es
places_few p [] = omega arith
places_few p (e ∷ es) = grind (arith, places_few p es)

pub waiting_few : (es : Table) → weight is_waiting unit_weight es ≤ length es
waiting_few = places_few is_waiting

-- ONE PLACE CHANGES

-- a change sets the first place that p picks; where it picks none, that place is past the end, and nothing is set
pub change-set : (p : Place → Bool) (f : Place → Place) (es : Table) (d : Place) → change p f es ≡ set es (position_or_len p es)
    (f (get_or es (position_or_len p es) d))
change-set p f [] d = refl
change-set p f (e ∷ es) d = grind (arith, one-add, change-set p f es d)

-- the places stay
pub change-length : (p : Place → Bool) (f : Place → Place) (es : Table) → length (change p f es) ≡ length es
change-length p f es = ap length (change-set p f es None) ∙ length-set es _ _

-- where the search finds that place
pub change-at : (p : Place → Bool) (f : Place → Place) (es : Table) (d : Place) (i : ℕ) → Some i ≡ position p es → set es i (f (get_or es i d)) ≡ change p f es
change-at p f es d i e = grind (arith, nat_tests, change-set p f es d)

-- and where it finds none
pub change_none : (p : Place → Bool) (f : Place → Place) (es : Table) → None ≡ position p es → es ≡ change p f es
change_none p f es e = grind (arith, nat_tests, change-set p f es None, set_past {X = Place})

-- what a search of the first place that p picks does
pub ruleset changes = (change-at, change_none)

-- A TICKET IS RAISED

-- a waiting ticket that is raised waits no more
pub raise_waiting : (t : ℕ) (es : Table) → 1 ≤ weight is_waiting (one_at t) es → (w : ℕ → ℕ) → weight is_waiting w (raise t es) + w t ≡ weight is_waiting w es
raise_waiting t [] h w = absurd (omega arith)
raise_waiting t (e ∷ es) h w = grind (arith, nat_tests, raise_waiting t es)

-- and no ticket gets a place
pub raise-taken : (t : ℕ) (es : Table) (w : ℕ → ℕ) → weight is_taken w (raise t es) ≤ weight is_taken w es
raise-taken t [] w = omega arith
raise-taken t (e ∷ es) w = grind (arith, raise-taken t es w)

-- a ticket that doesn't wait isn't raised again
pub raise_none : (t : ℕ) (es : Table) → weight is_waiting (one_at t) es ≡ 0 → raise t es ≡ es
raise_none t [] h = refl
raise_none t (e ∷ es) h = grind (arith, nat_tests, raise_none t es)

-- A TICKET IS ISSUED

-- a new ticket gets a place
pub put-weight : (p : Mark → Bool) (t : ℕ) (mark : Mark) (es : Table) → 1 ≤ free_places es → (w : ℕ → ℕ) → weight p w (put t mark es) ≡ cond (p mark)
    (w t) 0 + weight p w es
put-weight p t mark [] h w = absurd (omega arith)
put-weight p t mark (e ∷ es) h w = grind (arith, put-weight p t mark es)

-- whether the first place is free, and the free ones after it
free-cons : (e : Place) (es : Table) → free_places (e ∷ es) ≡ cond (is_free e) 1 0 + free_places es
free-cons e es = sum_by-cons _ e es

-- it takes one free place at most
pub put-free : (t : ℕ) (mark : Mark) (es : Table) → free_places es ≤ free_places (put t mark es) + 1
put-free t mark [] = omega arith
put-free t mark (None ∷ es) = omega (arith, free-cons None es, free-cons (place_with t mark) es)
put-free t mark (Some k ∷ es) = omega (arith, free-cons (Some k) es, free-cons (Some k) (put t mark es), put-free t mark es)

-- where there is room for n + 1 tickets, there is room for one
pub room_first : (n last : ℕ) (es : Table) → ticket_room (n + 1) last es ≡ true → ticket_room 1 last es ≡ true
room_first n last es h = grind (arith, nat_tests)

-- and once it is issued, for n
pub room_rest : (n last : ℕ) (mark : Mark) (es : Table) → ticket_room (n + 1) last es ≡ true → ticket_room n (last + 1) (put (last + 1) mark es) ≡ true
room_rest n last mark es h = grind (arith, nat_tests, put-free (last + 1) mark es)

-- A PLACE IS VACATED

-- a raised ticket that leaves its place changes nothing for those that wait
pub vacate_waiting : (t : ℕ) (es : Table) → mark_of t es ≡ Some Raised → (w : ℕ → ℕ) → weight is_waiting w (vacate t es) ≡ weight is_waiting w es
vacate_waiting t [] h w = refl
vacate_waiting t (e ∷ es) h w = grind (arith, vacate_waiting t es)

-- no ticket gets a place
pub vacate-taken : (t : ℕ) (es : Table) (w : ℕ → ℕ) → weight is_taken w (vacate t es) ≤ weight is_taken w es
vacate-taken t [] w = omega arith
vacate-taken t (e ∷ es) w = grind (arith, vacate-taken t es w)

-- a held ticket that waits is raised
pub raise-held : (t : ℕ) (es : Table) → mark_of t es ≡ Some Held → mark_of t (raise t es) ≡ Some Raised
raise-held t [] h = absurd cc
raise-held t (e ∷ es) h = grind (arith, common_steps, raise-held t es)

-- a raised ticket stays raised, whichever is raised
pub raise-keeps : (s t : ℕ) (es : Table) → mark_of s es ≡ Some Raised → mark_of s (raise t es) ≡ Some Raised
raise-keeps s t [] h = h
raise-keeps s t (e ∷ es) h = grind (arith, common_steps, raise-keeps s t es)

pub raise_each-keeps : (s : ℕ) (ts : List ℕ) (es : Table) → mark_of s es ≡ Some Raised → mark_of s (raise_each ts es) ≡ Some Raised
raise_each-keeps s [] es h = h
raise_each-keeps s (t ∷ ts) es h = raise_each-keeps s ts (raise t es) (raise-keeps s t es h)

-- WHERE A TICKET IS

-- a new ticket is found with its mark
pub found-new : (t : ℕ) (mark : Mark) (es : Table) → 1 ≤ free_places es → weight is_taken (one_at t) es ≡ 0 → mark_of t (put t mark es) ≡ Some mark
found-new t mark [] room none = absurd (omega (arith, room))
found-new t mark (e ∷ es) room none = grind (arith, common_steps, nat_tests, free-cons e es, found-new t mark es)

-- another ticket stays as it is where one is issued, or leaves its place
pub found-put : (s t : ℕ) (mark : Mark) (es : Table) → (s == t) ≡ false → mark_of s (put t mark es) ≡ mark_of s es
found-put s t mark [] n = refl
found-put s t mark (e ∷ es) n = grind (arith, common_steps, found-put s t mark es)

pub found-vacate : (s t : ℕ) (es : Table) → (s == t) ≡ false → mark_of s (vacate t es) ≡ mark_of s es
found-vacate s t [] n = refl
found-vacate s t (e ∷ es) n = grind (arith, common_steps, found-vacate s t es)

-- a ticket goes on where any is raised
pub goes_again : (k : Option Mark) → goes_on k k ≡ true
goes_again k = grind (arith, common_steps)

pub goes_further : (k l m : Option Mark) → goes_on k l ≡ true → goes_on l m ≡ true → goes_on k m ≡ true
goes_further k l m g h = grind (arith, common_steps)

pub raise-goes : (s t : ℕ) (es : Table) → goes_on (mark_of s es) (mark_of s (raise t es)) ≡ true
raise-goes s t [] = refl
raise-goes s t (e ∷ es) = grind (arith, common_steps, nat_tests, raise-goes s t es, goes_again)

pub raise_each-goes : (s : ℕ) (ts : List ℕ) (es : Table) → goes_on (mark_of s es) (mark_of s (raise_each ts es)) ≡ true
raise_each-goes s [] es = goes_again (mark_of s es)
raise_each-goes s (t ∷ ts) es = goes_further (mark_of s es) (mark_of s (raise t es)) (mark_of s (raise_each ts (raise t es))) (raise-goes s t es)
    (raise_each-goes s ts (raise t es))

-- in a table with one place for it at most, a ticket waits, is raised, or has no place
pub one_standing : (s : ℕ) (es : Table) → weight is_taken (one_at s) es ≤ 1 → weight is_waiting (one_at s) es + done_count (mark_of s es) ≡ 1
one_standing s [] h = refl
one_standing s (e ∷ es) h = grind (arith, common_steps, nat_tests, one_standing s es, taken_parts (one_at s) es)
