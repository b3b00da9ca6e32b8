-- A text is split at its first mark.
use Rattle.std.proofs.Common.{arith}
use Rattle.std.proofs.lemmas.Grind.{common_steps}
use Rattle.rehearsal.proofs.Splits.{split_first, split_none}
use Rattle.rehearsal.proofs.parts.cut.Goals as goal

pub returns-in_err-at : goal.returns-in_err-at
returns-in_err-at c = grind (arith, common_steps, split_none c.args.mark c.args.text.now)

pub returns : goal.returns
returns c = grind (arith, common_steps, split_first c.args.mark c.args.text.now c.in_ok-at.at)
