-- A name is known by its length and its bytes.
use Rattle.std.proofs.Common.{codes, refl, rules, arith}
use Rattle.std.proofs.lemmas.Slice.Eq.{text_from_reads}
use Rattle.rehearsal.proofs.line.with_grace.Goals as goal

pub returns-in-115 : goal.returns-in-115
returns-in-115 c = rw (text_from_reads c.args.name.now (codes "stop_with_signal") (omega arith) (search rules)) refl

pub returns-in-114 : goal.returns-in-114
returns-in-114 c = rw (text_from_reads c.args.name.now (codes "restart_with_signal") (omega arith) (search rules)) refl

pub returns-in-116 : goal.returns-in-116
returns-in-116 c = rw (text_from_reads c.args.name.now (codes "try_restart_with_signal") (omega arith) (search rules)) refl
