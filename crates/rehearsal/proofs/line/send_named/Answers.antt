-- A name is known by its length and its bytes.
use Rattle.std.proofs.Common.{codes, refl, rules, arith}
use Rattle.std.proofs.lemmas.Slice.Eq.{text_from_reads}
use Rattle.rehearsal.proofs.line.send_named.Goals as goal

pub returns-in-start : goal.returns-in-start
returns-in-start c = rw (text_from_reads c.args.name.now (codes "start") (omega arith) (search rules)) refl

pub returns-in-stop : goal.returns-in-stop
returns-in-stop c = rw (text_from_reads c.args.name.now (codes "stop") (omega arith) (search rules)) refl

pub returns-in-restart : goal.returns-in-restart
returns-in-restart c = rw (text_from_reads c.args.name.now (codes "restart") (omega arith) (search rules)) refl

pub returns-in-116 : goal.returns-in-116
returns-in-116 c = rw (text_from_reads c.args.name.now (codes "try_restart") (omega arith) (search rules)) refl

pub returns-in-delete : goal.returns-in-delete
returns-in-delete c = rw (text_from_reads c.args.name.now (codes "delete") (omega arith) (search rules)) refl

pub returns-in-100 : goal.returns-in-100
returns-in-100 c = rw (text_from_reads c.args.name.now (codes "delete_now") (omega arith) (search rules)) refl

pub returns-in-116-2 : goal.returns-in-116-2
returns-in-116-2 c = rw (text_from_reads c.args.name.now (codes "to_wait") (omega arith) (search rules)) refl
