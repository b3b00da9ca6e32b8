-- Weights: counts of the tickets in a table or a list, where each ticket weighs what is chosen.
use Rattle.std.specs.Prelude.{ℕ, ◌+◌, Bool, if◌then◌else◌, List, [], ◌∷◌, Some, None, Option, ◌==◌}
use Rattle.tickets.specs.declared.flag.Mark.{Mark}
use Rattle.tickets.specs.declared.flag.Entry.{Entry}

-- the weight of the tickets whose mark p picks, where a ticket t weighs w t. By recursion, and not by `sum_by`, a fold over
-- which the inductions of proofs/Tables do not close
abbrev pub weight : (Mark → Bool) → (ℕ → ℕ) → List (Option Entry) → ℕ
weight p w [] = 0
weight p w (None ∷ es) = weight p w es
weight p w (Some t ∷ es) = (if p t.mark then w t.ticket else 0) + weight p w es

-- the weight of a list of tickets, by recursion for the same reason
abbrev pub weigh : (ℕ → ℕ) → List ℕ → ℕ
weigh w [] = 0
weigh w (t ∷ ts) = w t + weigh w ts

-- only the ticket s weighs, 1: the weight is how often s is there
abbrev pub one_at : ℕ → ℕ → ℕ
one_at s t = if s == t then 1 else 0

-- each ticket weighs 1: the weight is how many there are
abbrev pub unit_weight : ℕ → ℕ
unit_weight _ = 1
