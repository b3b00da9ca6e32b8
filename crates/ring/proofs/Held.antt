-- What is known of a queue from the list that it holds.
use Rattle.std.proofs.Common.{ℕ, ◌≤◌, length, length-take, arith}
use Rattle.std.proofs.lemmas.Bool.Decides.{nat_tests}
use Rattle.ring.specs.Queue.{items_of}
use Rattle.ring.specs.declared.queue.Queue.{Queue}

-- a queue of `n` slots holds at most `n` items
pub held_fits : {X : Type 0} {n : ℕ} (q : Queue X n) → length (items_of q) ≤ n
held_fits q = grind (arith, nat_tests, length-take, q.within)
