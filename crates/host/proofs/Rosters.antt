-- Rosters of one child.
use Rattle.std.proofs.Common.{◌≡◌, ℕ, arith}
use Rattle.std.specs.Ordering.{nat_cmp}
use Rattle.std.specs.Cmp.{nat_cmp_total}
use Rattle.std.specs.FinSet.{nat_cmp-IsAntisymmetric, same_set, members}
use Rattle.std.proofs.lemmas.Bool.Decides.{nat_tests}
use Rattle.host.specs.Books.{no_child, one_child, strike}

-- the only child is struck off
pub strike-one_child : (n : ℕ) → strike n (one_child n) ≡ no_child
strike-one_child n = same_set nat_cmp_total nat_cmp-IsAntisymmetric (strike n (one_child n)) no_child (λ q. grind (arith, nat_tests, members))
