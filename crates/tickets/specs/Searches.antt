-- What the closures compute that pick a place and change it.
use Rattle.std.specs.Prelude.{◌≡◌, Bool}
use Rattle.std.specs.Fn.{Shared, Once, FnReturnsAt}
use Rattle.std.specs.Borrow.{Bor}
use Rattle.tickets.specs.Tickets.{Place}

-- each call of `passes` at a place answers what p says of the place
abbrev pub Tests : {F : Type 0} → Shared F (Bor Place × Unit {0}) Bool → F → (Place → Bool) → Type 0
Tests g passes p = (e : Place) (answer : Bool) → FnReturnsAt g passes e answer → answer ≡ p e

-- a call of `to` at a place answers the place that f makes of it
abbrev pub Computes : {F : Type 0} → Once F (Place × Unit {0}) Place → F → (Place → Place) → Type 0
Computes g to f = (e answer : Place) → g.post to (e, tt) answer → answer ≡ f e
