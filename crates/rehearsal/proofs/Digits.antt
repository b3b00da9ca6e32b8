-- A number that grew too large stays so, whatever digits follow.
use Rattle.std.proofs.Common.{◌≡◌, ℕ, ◌+◌, ◌-◌, ◌*◌, ◌^◌, ◌<◌, ◌≤◌, List, [], ◌∷◌, length, get_or, drop, None, arith}
use Rattle.std.specs.Option.{option_and_then}
use Rattle.std.proofs.lemmas.List.{drop_more}
use Rattle.rehearsal.specs.Tokens.{if_below, read_on}

too_large : (n : ℕ) (bs : List ℕ) → 2 ^ 63 ≤ n → option_and_then if_below (read_on n bs) ≡ None
too_large n [] h = grind arith
too_large n (b ∷ bs) h = grind (arith, too_large (n * 10 + (b - 48)) bs)

-- where another digit makes it too large
pub grows : (n i : ℕ) (field : List ℕ) → i < length field → 2 ^ 63 ≤ n * 10 → option_and_then if_below (read_on n (drop i field)) ≡ None
grows n i field l h = rw (drop_more field i 0 l) (grind (arith, too_large (n * 10 + (get_or field i 0 - 48)) (drop (i + 1) field)))
