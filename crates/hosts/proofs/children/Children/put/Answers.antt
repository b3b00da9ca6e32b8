use Rattle.std.proofs.Common.{sym, arith}
use Rattle.std.proofs.lemmas.Grind.{common_steps}
use Rattle.hosts.proofs.Places.{below, distinct, with_life-set}
use Rattle.hosts.proofs.children.Children.put.Goals as goal

pub returns-in-Some : goal.returns-in-Some
returns-in-Some c = grind (arith, common_steps, with_life-set)

pub returns-in_default : goal.returns-in_default
returns-in_default c = grind (arith, common_steps, with_life-set)

pub invariant_of-self-clause-below : goal.invariant_of-self-clause-below
invariant_of-self-clause-below c = rw c.deref_mut.ensures.value (below c.args.self.now.list _ _ _ (sym c.in-Some.ensures) _ c.args.self.now.below)

pub invariant_of-self-clause-distinct : goal.invariant_of-self-clause-distinct
invariant_of-self-clause-distinct c = rw c.deref_mut.ensures.value (distinct c.args.self.now.list _ _ _ (sym c.in-Some.ensures) c.args.self.now.distinct)
