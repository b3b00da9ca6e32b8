use Rattle.std.proofs.Common.{refl, rules}
use Rattle.task.proofs.Sheets.{conducted}
use Rattle.task.proofs.conduct.conduct.Goals as goal

pub returns : goal.returns
returns g c = conducted refl (search rules) (search rules) (search rules) (search rules) (search rules) c.run-found.ensures
