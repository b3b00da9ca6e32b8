-- A text split at each mark, by the place of the first one.
use Rattle.std.proofs.Common.{◌≡◌, ℕ, ◌+◌, Bool, false, List, [], ◌∷◌, Some, None, take, drop, ◌==◌, arith}
use Rattle.std.specs.List.{position, slice_split}
use Rattle.std.proofs.lemmas.Bool.Decides.{nat_tests}
use Rattle.std.proofs.lemmas.List.Elements.{All-from_get_or}
use Rattle.std.proofs.lemmas.List.Splits.{slice_split_first, slice_split_none}
use Rattle.std.proofs.lemmas.List.Sums.{fails_before_first}

module _ (mark : ℕ) where
  -- whether a byte is the mark
  abbrev is_mark : ℕ → Bool
  is_mark b = b == mark

  -- the first part ends there
  pub split_first : (s : List ℕ) (at : ℕ) → Some at ≡ position is_mark s → slice_split is_mark s ≡ take at s ∷ slice_split is_mark (drop (at + 1) s)
  split_first s at e = grind (arith, nat_tests, slice_split_first is_mark s 0)

  -- a text without the mark is the only part
  pub split_none : (s : List ℕ) → None ≡ position is_mark s → slice_split is_mark s ≡ s ∷ []
  split_none s e =
      slice_split_none is_mark s (All-from_get_or (λ b. is_mark b ≡ false) s 0 (λ i l. fails_before_first is_mark s i 0 (grind (arith, nat_tests))))
