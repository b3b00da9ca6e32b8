-- The meaning of a queue: the list of the items in it.
use Rattle.std.specs.Prelude.{ℕ, List}
use Rattle.ring.specs.Ring.{items}
use Rattle.ring.specs.declared.queue.Queue.{Queue}

-- what a queue holds, oldest first
abbrev pub items_of : {X : Type 0} {n : ℕ} → Queue X n → List X
items_of q = items q.slots q.marks
