-- What all lines print is what was printed so far, and what those that are left print.
use Rattle.std.proofs.Common.{◌≡◌, ◌+◌, ◌++◌, drop, string_bytes}
use Rattle.rehearsal.specs.View.{state_of}
use Rattle.rehearsal.specs.Printed.{text_from}
use Rattle.rehearsal.proofs.run.Rehearsal.perform.Given as goal

abbrev pub invariant-loop-i : goal.invariant-loop-i
invariant-loop-i l = text_from 1 l.lines (state_of l.initial.self) ≡ string_bytes l.text ++ text_from (l.i + 1) (drop l.i l.lines) (state_of l.self)
