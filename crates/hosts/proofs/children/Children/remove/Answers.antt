use Rattle.std.proofs.Common.{◌≡◌, ◌≢◌, ◌<◌, ◌==◌, not, arith, rules}
use Rattle.std.proofs.lemmas.List.Elements.{All-filter}
use Rattle.std.proofs.lemmas.List.Kept.{AllPairs-filter}
use Rattle.arrayvec.proofs.ArrayVecLemmas.{filter-from_retain}
use Rattle.hosts.specs.Children.{children_without}
use Rattle.hosts.proofs.children.Children.remove.Goals as goal

pub returns : goal.returns
returns c = cc (filter-from_retain _ (λ x. not (x.number == c.args.number)) _ (λ x b f' y called. search rules) _ _ c.retain.ensures.filtered)

pub invariant_of-self : goal.invariant_of-self
invariant_of-self c =
    let left : c.retain.new.self.items ≡ children_without c.args.number c.args.self.now.list.items =
    filter-from_retain _ _ _ (λ x b f' y called. search rules) _ _ c.retain.ensures.filtered in
    record {
      few = omega arith;
      begun = c.args.self.now.begun;
      within = c.args.self.now.within;
      below = rw left (All-filter _ (λ x. x.number < c.args.self.now.next) _ c.args.self.now.below);
      distinct = rw left (AllPairs-filter (λ x y. x.number ≢ y.number) _ _ c.args.self.now.distinct);
    }
