-- A name is known by its length and its bytes.
use Rattle.std.proofs.Common.{codes, refl, rules, arith}
use Rattle.std.proofs.lemmas.Slice.Eq.{text_from_reads}
use Rattle.rehearsal.proofs.line.with_signal.Goals as goal

pub returns-in-signal : goal.returns-in-signal
returns-in-signal c = rw (text_from_reads c.args.name.now (codes "signal") (omega arith) (search rules)) refl
