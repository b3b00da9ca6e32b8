-- A fault, by its code.
use Rattle.std.specs.Prelude.{ℕ}
use Rattle.host.specs.declared.fault.Fault.{Fault}

abbrev pub fault : ℕ → Fault
fault code = record { code = code }
