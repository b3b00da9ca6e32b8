-- The first place that a closure picks.
use Rattle.std.proofs.Common.{refl}
use Rattle.std.proofs.lemmas.Iterator.{YieldsList-from_slice}
use Rattle.std.proofs.lemmas.Iterator.Search.{position_from_yields_List}
use Rattle.std.proofs.lemmas.Fn.{says_at}
use Rattle.tickets.proofs.flag.place.Goals as goal

pub returns-clause-first : goal.returns-clause-first
returns-clause-first g c p tests = position_from_yields_List p _ _ _ c.position.ensures.ran (YieldsList-from_slice c.args.entries.now cc)
    (λ x b q k. (
      g.met.P.Fn.1.step_stays _ _ _ _ (record { met = k.met }),
      tests x.now b
          (says_at g.P.Fn ((g.met.P.FnMut.1.post_iff _ _ _).1 (q, record { met = k.met })) refl),
    ))
