-- What the script says is what was read, before what is left.
use Rattle.std.proofs.Common.{◌≡◌, ◌+◌, length, vec_len}
use Rattle.rehearsal.specs.Script.{script_of}
use Rattle.rehearsal.proofs.Reading.{after_lines, said, texts_of}
use Rattle.rehearsal.proofs.script.read.Given as goal

abbrev pub invariant-loop-text : goal.invariant-loop-text
invariant-loop-text l = script_of l.script ≡ after_lines l.lines.items (said (vec_len l.lines + 1) l.rest)

abbrev pub decreases-loop-text : goal.decreases-loop-text
decreases-loop-text l = length (texts_of l.rest)
