-- All tickets of the list are gone over.
use Rattle.std.proofs.Common.{refl, arith}
use Rattle.std.proofs.lemmas.Grind.{common_steps, fold-append}
use Rattle.std.proofs.lemmas.Iterator.{YieldsList-from_slice}
use Rattle.std.proofs.lemmas.Iterator.Consumers.{YieldsList-from_chain, YieldsList-end}
use Rattle.std.proofs.lemmas.List.{map-append}
use Rattle.supervisor.proofs.mailbox.Mailbox.raise_ending.Goals as goal

pub loop-ticket-preserved : goal.loop-ticket-preserved
loop-ticket-preserved c = grind (arith, common_steps, map-append, fold-append)

pub returns : goal.returns
returns c =
    let older = c.as_slices.result.0.now in
    let newer = c.as_slices.result.1.now in
    let all = YieldsList-end (YieldsList-from_chain (YieldsList-from_slice older (cc)) (YieldsList-from_slice newer (cc)) (cc) (cc)) c.loop-ticket.yielded _
    c.loop-ticket.yielded_by _ _ c.in-None.is c.next.ensures.steps in
    rw (c.loop-ticket.invariant, all.0, c.as_slices.ensures.items, c.clear.ensures) refl
