-- The roster, the open grants, and a tally of what was done to the child, as calls and their answers move them.
use Rattle.std.proofs.Common.{◌≡◌, ℕ, ◌+◌, Bool, true, false, if◌then◌else◌, List, [], ◌∷◌, ◌++◌, refl, ◌∙◌, arith}
use Rattle.std.specs.Prelude.{map}
use Rattle.std.specs.List.{count_by, filter, fold}
use Rattle.std.proofs.lemmas.Grind.{common_steps}
use Rattle.host.specs.declared.journal.CallKind.{CallKind}
use Rattle.host.specs.declared.journal.Record.{Record}
use Rattle.host.specs.Calls.{Call, to_host, to_terminal, Reply, Event}
use Rattle.host.specs.Books.{Roster, HostBook, TerminalBook, roster_after, host_after, grants_after, terminal_after, host_along, terminal_along}
use Rattle.host.specs.Journal.{host_record, terminal_record, journal, is_spawn, is_decisive, is_failure, reports_end, spawns_among}

-- the kills, waits and spawns in their order, and how many spawns, kills and waits that faulted, and polls that reported an end
pub record Tally : Type 0 where
  pub kinds : List CallKind
  pub starts : ℕ
  pub failures : ℕ
  pub ends : ℕ

abbrev pub no_calls : Tally
no_calls = record { kinds = []; starts = 0; failures = 0; ends = 0 }

abbrev pub tally_after : Tally → Record → Tally
tally_after m r = record {
  kinds = if is_decisive r then m.kinds ++ r.call ∷ [] else m.kinds;
  starts = if is_spawn r.call then m.starts + 1 else m.starts;
  failures = if is_failure r then m.failures + 1 else m.failures;
  ends = if reports_end r then m.ends + 1 else m.ends;
}

-- that of records
abbrev pub tally_of : List Record → Tally
tally_of rs = record {
  kinds = map (λ r. r.call) (filter is_decisive rs);
  starts = spawns_among rs;
  failures = count_by is_failure rs;
  ends = count_by reports_end rs;
}

pub record Books : Type 0 where
  pub roster : Roster
  pub grants : ℕ
  pub tally : Tally

abbrev pub moved : Books → (c : Call) → Reply c → Books
moved b (to_host c) a = record { roster = roster_after b.roster c a; grants = b.grants; tally = tally_after b.tally (host_record c a) }
moved b (to_terminal c) a = record { roster = b.roster; grants = grants_after b.grants c a; tally = tally_after b.tally (terminal_record c a) }

-- one that passes, in front of the others
kinds_on : (b : Bool) (xs : List CallKind) (r : Record) (rs : List Record) → (if b then xs ++ r.call ∷ [] else xs) ++ map (λ r. r.call) rs ≡ xs ++ map
    (λ r. r.call) (if b then r ∷ rs else rs)
kinds_on true xs r rs = grind (arith, common_steps)
kinds_on false xs r rs = refl

count_on : (p : Record → Bool) (n : ℕ) (r : Record) (rs : List Record) → (if p r then n + 1 else n) + count_by p rs ≡ n + count_by p (r ∷ rs)
count_on p n r rs = by (p r) refl
  where
    by : (b : Bool) → p r ≡ b → (if b then n + 1 else n) + count_by p rs ≡ n + count_by p (r ∷ rs)
    by true e = grind (arith, common_steps, e)
    by false e = grind (arith, common_steps, e)

-- along records, after a tally m
along : Tally → Tally → Tally
along m n = record { kinds = m.kinds ++ n.kinds; starts = m.starts + n.starts; failures = m.failures + n.failures; ends = m.ends + n.ends }

fold-tally : (m : Tally) (rs : List Record) → fold tally_after m rs ≡ along m (tally_of rs)
unfolding along
fold-tally m [] = grind (arith, common_steps)
fold-tally m (r ∷ rs) = fold-tally (tally_after m r) rs ∙ cc (
  kinds_on (is_decisive r) m.kinds r (filter is_decisive rs),
  count_on (λ r. is_spawn r.call)
      m.starts r rs,
  count_on is_failure m.failures r rs,
  count_on reports_end m.ends r rs,
)

pub tally-journal : (rs : List Record) → fold tally_after no_calls rs ≡ tally_of rs
unfolding along
tally-journal rs = fold-tally no_calls rs ∙ grind (arith, common_steps)

-- along a trace they are moved as the two books are, and by its records
pub moved_along : (h : HostBook) (t : TerminalBook) (m : Tally) (p : List Event)
    → fold (λ u e. moved u e.0 e.1) (record { roster = h.roster; grants = t.grants; tally = m }) p ≡ record {
      roster = (host_along h p).roster;
      grants =
          (terminal_along t p).grants;
      tally = fold tally_after m (journal p);
    }
moved_along h t m [] = refl
moved_along h t m ((to_host c, a) ∷ p) = moved_along (host_after h c a) t (tally_after m (host_record c a)) p
moved_along h t m ((to_terminal c, a) ∷ p) = moved_along h (terminal_after t c a) (tally_after m (terminal_record c a)) p
