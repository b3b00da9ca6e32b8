-- The spawns among the records of a trace are those among its calls.
use Rattle.std.proofs.Common.{◌≡◌, List, [], ◌∷◌, refl, arith}
use Rattle.std.proofs.lemmas.Grind.{common_steps}
use Rattle.host.specs.Calls.{Event}
use Rattle.host.specs.Books.{spawns_in}
use Rattle.host.specs.Journal.{journal, spawns_among}

pub journal-spawns : (p : List Event) → spawns_among (journal p) ≡ spawns_in p
journal-spawns [] = refl
journal-spawns ((c, a) ∷ p) = grind (arith, common_steps, journal-spawns p)
