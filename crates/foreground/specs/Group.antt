-- The numbers of process groups.
use Rattle.std.specs.Prelude.{ℕ, ◌^◌, ◌<◌, ◌≤◌}

abbrev pub IsGroup : ℕ → Type 0
IsGroup n = (1 ≤ n) × (n < 2 ^ 31)
