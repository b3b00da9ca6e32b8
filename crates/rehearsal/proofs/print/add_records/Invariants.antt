-- The line so far ends with the records so far.
use Rattle.std.proofs.Common.{◌≡◌, ◌+◌, ◌*◌, ◌≤◌, ◌++◌, take}
use Rattle.std.specs.List.{flat_map}
use Rattle.arrayvec.specs.ArrayString.{array_string_len}
use Rattle.rehearsal.specs.declared.print.TheConstants.{MOST_OF_RECORD}
use Rattle.rehearsal.specs.Printed.{record_text}
use Rattle.rehearsal.proofs.print.add_records.Given as goal

abbrev pub invariant-loop-record : goal.invariant-loop-record
invariant-loop-record l = record {
  written : l.line.bytes ≡ l.initial.line.bytes ++ flat_map record_text (take l.record-index l.records);
  short : array_string_len l.line ≤ array_string_len l.initial.line + l.record-index * MOST_OF_RECORD;
}
