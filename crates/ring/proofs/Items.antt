-- What a ring holds after a put and before a take, and in which two parts.
use Rattle.std.proofs.Common.{◌≡◌, ℕ, suc, ◌+◌, ◌-◌, ◌%◌, ◌<◌, ◌≤◌, ◌⊎◌, List, [], ◌∷◌, ◌++◌, length, get_or, take, drop, set, min, ◌∙◌, inl, inr, append_assoc, mod-eq_of_lt, arith, length-append, length-drop, length-take}
use Rattle.ring.specs.Ring.{items, one_less, one_more}
use Rattle.ring.specs.declared.slots.Ring.{Ring}
use Rattle.std.proofs.lemmas.Bool.{cases_lt}
use Rattle.std.proofs.lemmas.Grind.{common_steps}
use Rattle.std.proofs.lemmas.List.{drop_all, drop_more, drop-set-add, take_all, take-append-le, take_more}
use Rattle.std.proofs.Math.Nat.{mod-eq-sub-mod}
use Rattle.std.proofs.Math.Seq.{take-append-add}

-- the first `n` of two lists in a row are the first of the one, then those of the other that are left to take
pub take_in_two : {X : Type 0} (n : ℕ) (xs ys : List X) → take n (xs ++ ys) ≡ take (min n (length xs)) xs ++ take (n - min n (length xs)) ys
take_in_two n xs ys =
    elim (cases_lt n (length xs)) [
      | inl below ↦ grind (arith, common_steps)
      | inr past ↦ (let e : length xs + (n - length xs) ≡ n = omega arith in grind (arith, common_steps, take-append-add xs ys (n - length xs)))
    ]

-- the slot `n` after `head` is their sum, or the sum less `size` where the last slot is passed
wraps_once : (size head n : ℕ) → head < size → n ≤ size → ((head + n < size) × ((head + n) % size ≡ head + n)) ⊎
    ((size ≤ head + n) × ((head + n) % size ≡ head + n - size))
wraps_once size head n a b =
    elim (cases_lt (head + n) size) [
      | inl below ↦ inl (below, mod-eq_of_lt below)
      | inr past ↦ inr (past, mod-eq-sub-mod past ∙ mod-eq_of_lt (omega arith))
    ]

module _ {X : Type 0} (slots : List X) (ring : Ring) (within : ring.head < length slots) where
  -- an item that is written to the slot after the last one is held at the end
  pub items_after_put : (x : X) → ring.len < length slots → items (set slots ((ring.head + ring.len) % length slots) x) (one_more ring) ≡ items slots ring
      ++ x ∷ []
  items_after_put x room =
      grind (arith, common_steps, wraps_once (length slots) ring.head ring.len within (omega arith), drop-set-add, take_in_two)

  -- the slots read from the one after the head on: the head comes last
  next_turn : (d : X) → drop ((ring.head + 1) % length slots) slots ++ take ((ring.head + 1) % length slots) slots
      ≡ (drop (ring.head + 1) slots ++ take ring.head slots) ++ get_or slots ring.head d ∷ []
  next_turn d =
      grind (
        arith,
        append_assoc,
        wraps_once (length slots) ring.head 1 within (omega arith),
        take_more slots ring.head d within,
        take_all (ring.head + 1)
            slots,
        drop_all (ring.head + 1) slots,
      )

  -- the items are the one at the head, then those that are held once it is taken
  pub items_before_take : (d : X) → 0 < ring.len → ring.len ≤ length slots → items slots ring ≡ get_or slots ring.head d ∷ items slots
      (one_less (length slots) ring)
  items_before_take d some few =
      let e : ring.len ≡ suc (ring.len - 1) = omega arith in
      grind (
        arith,
        length-append,
        length-drop,
        length-take,
        drop_more slots ring.head d within,
        next_turn d,
        take-append-le (ring.len - 1) (drop (ring.head + 1) slots ++ take ring.head slots) (get_or slots ring.head d ∷ []),
      )
