-- What a new life of a child changes, by the place of the child in the list.
use Rattle.std.proofs.Common.{◌≡◌, ◌≢◌, ℕ, ◌<◌, ◌==◌, List, [], ◌∷◌, All, AllPairs, get_or, length-set, slice_set, Some, one-add, refl, arith}
use Rattle.std.proofs.lemmas.Bool.Decides.{nat_tests}
use Rattle.std.proofs.lemmas.Grind.{elements}
use Rattle.std.proofs.lemmas.List.Quantifiers.{position-Some}
use Rattle.std.specs.List.{position, position_or_len}
use Rattle.arrayvec.specs.ArrayVec.{ArrayVec, with_items}
use Rattle.arrayvec.proofs.ArrayVecLemmas.{items-with_items}
use Rattle.hosts.specs.declared.child.Life.{Life}
use Rattle.hosts.specs.declared.child.Child.{Child}
use Rattle.hosts.specs.Children.{child, with_life}

pub with_life-set : (n : ℕ) (life : Life) (cs : List Child) → with_life n life cs ≡ slice_set cs (position_or_len (λ c. n == c.number) cs) (child n life)
with_life-set n life [] = refl
with_life-set n life (c ∷ cs) = grind (arith, nat_tests, one-add, with_life-set n life cs)

-- the numbers stay as they are, once a child was written to the place of the one with its number
module _ (v : ArrayVec Child) (n at : ℕ) (life : Life) (found : position (λ c. n == c.number) v.items ≡ Some at) where
  abbrev after : List Child
  after = (with_items v (slice_set v.items at (child n life))).items

  after-set : after ≡ slice_set v.items at (child n life)
  after-set = items-with_items v _ (length-set _ _ _)

  number : (k : ℕ) (d : Child) → (get_or after k d).number ≡ (get_or v.items k d).number
  number k d = rw after-set (grind (arith, nat_tests, elements, position-Some (λ c. n == c.number) v.items at d found))

  pub below : (next : ℕ) → All (λ c. c.number < next) v.items → All (λ c. c.number < next) after
  below next h = λ k d l. grind (arith, length-set, after-set, number k d, h k d)

  pub distinct : AllPairs (λ c d. c.number ≢ d.number) v.items → AllPairs (λ c d. c.number ≢ d.number) after
  distinct h = λ i j d l m. grind (arith, length-set, after-set, number i d, number j d, h i j d)
