-- The digits that are left, read on from the number so far, write the number of all.
use Rattle.std.proofs.Common.{◌≡◌, drop}
use Rattle.std.specs.Option.{option_and_then}
use Rattle.rehearsal.specs.Tokens.{if_below, read_on, value_of}
use Rattle.rehearsal.proofs.token.value.Given as goal

abbrev pub invariant-loop-byte : goal.invariant-loop-byte
invariant-loop-byte l = option_and_then if_below (read_on l.n (drop l.byte-index l.digits)) ≡ value_of l.digits
