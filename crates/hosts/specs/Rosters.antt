-- The roster of a list of children, when these change.
use Rattle.std.specs.Prelude.{◌≡◌, ◌≢◌, ℕ, suc, false, not, ◌&&◌, List, [], ◌∷◌, ◌++◌, length, All, AllPairs, is_some, refl}
use Rattle.std.proofs.Common.{arith}
use Rattle.std.proofs.lemmas.Bool.Decides.{nat_tests}
use Rattle.std.proofs.lemmas.List.{map-append}
use Rattle.std.specs.Ordering.{eq_by_cmp, nat_cmp}
use Rattle.std.specs.Cmp.{nat_cmp_total}
use Rattle.std.specs.FinSet as set
use Rattle.std.specs.FinSet.{from_list_push, members, nat_cmp-IsAntisymmetric, same_set}
use Rattle.host.specs.Books.{is_on_roster, strike}
use Rattle.hosts.specs.declared.child.Life.{Life}
use Rattle.hosts.specs.declared.child.Child.{Child}
use Rattle.hosts.specs.Children.{children_without, life_of, roster_of, with_life}

-- who has a life is on the roster
pub is_on_roster-roster_of : (n : ℕ) (cs : List Child) → is_on_roster n (roster_of cs) ≡ is_some (life_of n cs)
is_on_roster-roster_of n [] = grind (arith, members)
is_on_roster-roster_of n (c ∷ cs) = grind (arith, nat_tests, members, is_on_roster-roster_of n cs)

pub roster_of-push : (cs : List Child) (c : Child) → roster_of (cs ++ c ∷ []) ≡ set.insert (roster_of cs) c.number
roster_of-push cs c = rw map-append (from_list_push nat_cmp_total nat_cmp-IsAntisymmetric _ c.number)

pub roster_of-with_life : (n : ℕ) (life : Life) (cs : List Child) → roster_of (with_life n life cs) ≡ roster_of cs
roster_of-with_life n life [] = refl
roster_of-with_life n life (c ∷ cs) = grind (arith, nat_tests, roster_of-with_life n life cs)

pub is_on_roster-without : (n q : ℕ) (cs : List Child)
    → is_on_roster q (roster_of (children_without n cs)) ≡ (not (eq_by_cmp nat_cmp q n) && is_on_roster q (roster_of cs))
is_on_roster-without n q [] = grind (arith, members)
is_on_roster-without n q (c ∷ cs) = grind (arith, nat_tests, members, is_on_roster-without n q cs)

pub roster_of-without : (n : ℕ) (cs : List Child) → roster_of (children_without n cs) ≡ strike n (roster_of cs)
roster_of-without n cs = same_set nat_cmp_total nat_cmp-IsAntisymmetric _ _ (λ q. grind (arith, members, is_on_roster-without n q cs))

-- a number that no child has is off the roster
pub off_roster : (n : ℕ) (cs : List Child) → All (λ c. n ≢ c.number) cs → is_on_roster n (roster_of cs) ≡ false
off_roster n [] h = grind (arith, members)
off_roster n (c ∷ cs) h = grind (arith, nat_tests, members, h 0 c, off_roster n cs (λ k d l. h (suc k) d (omega arith)))

-- the roster has as many numbers as there are children, where these differ in them
pub len_of_roster : (cs : List Child) → AllPairs (λ c d. c.number ≢ d.number) cs → set.len (roster_of cs) ≡ length cs
len_of_roster [] h = grind (arith, members)
len_of_roster (c ∷ cs) h =
    let off = off_roster c.number cs (λ k d l. h 0 (suc k) d (omega arith) (omega arith)) in
    let rest = len_of_roster cs (λ i j d l m. h (suc i) (suc j) d (omega arith) (omega arith)) in
    grind (arith, members, off, rest)
