-- A ring: items that lie one after another in a row of slots, from the last slot on to the first.
use Rattle.std.specs.Prelude.{ℕ, ◌+◌, ◌-◌, ◌%◌, Bool, if◌then◌else◌, ◌&&◌, List, [], ◌∷◌, ◌++◌, take, drop, length, Some, None, Option, nat_le, nat_lt}
use Rattle.ring.specs.declared.slots.Ring.{Ring}

-- the first of a list, if it has one
abbrev pub first : {X : Type 0} → List X → Option X
first [] = None
first (x ∷ xs) = Some x

-- a list without its first
abbrev pub rest : {X : Type 0} → List X → List X
rest [] = []
rest (x ∷ xs) = xs

-- what a ring holds, oldest first
abbrev pub items : {X : Type 0} → List X → Ring → List X
items slots ring = take ring.len (drop ring.head slots ++ take ring.head slots)

-- whether the marks lie within `size` slots
abbrev pub fits : ℕ → Ring → Bool
fits size ring = nat_le ring.len size && nat_le ring.head (size - 1)

-- whether the marks lie within `size` slots and one of these is free
abbrev pub has_room : ℕ → Ring → Bool
has_room size ring = fits size ring && nat_lt ring.len size

-- whether the marks lie within `size` slots and one of these holds an item
abbrev pub has_item : ℕ → Ring → Bool
has_item size ring = fits size ring && nat_lt 0 ring.len

-- of `size` slots, the one after the last item
abbrev pub next_slot : ℕ → Ring → ℕ
next_slot size ring = (ring.head + ring.len) % size

-- the marks with one item more at the end
abbrev pub one_more : Ring → Ring
one_more ring = record ring { len = ring.len + 1 }

-- the marks without the oldest item, whose slot the head then has just passed
abbrev pub one_less : ℕ → Ring → Ring
one_less size ring = record { head = (ring.head + 1) % size; len = ring.len - 1 }

-- what a take answers: the oldest item, where the marks lie within the slots
abbrev pub oldest : {X : Type 0} → List X → Ring → Option X
oldest slots ring = if fits (length slots) ring then first (items slots ring) else None

-- what a take leaves: all but the oldest item, where the marks lie within the slots
abbrev pub without_oldest : {X : Type 0} → List X → Ring → List X
without_oldest slots ring = if fits (length slots) ring then rest (items slots ring) else items slots ring
