-- The book of the absent terminal keeps its rules.
use Rattle.std.specs.Prelude.{refl}
use Rattle.std.proofs.Common.{arith}
use Rattle.host.specs.Calls.{TerminalCall, owner, acquire, release}
use Rattle.host.specs.Books.{TerminalKeeps}
use Rattle.foreground.specs.declared.absent.AbsentTerminal.{AbsentTerminal}
use Rattle.foreground.specs.Absent.{answer, book_of, count_call}

-- what is answered and counted keeps the rules of the book
pub keeps_book : (t : AbsentTerminal) (c : TerminalCall) → TerminalKeeps (book_of t) c (answer c) (count_call (book_of t))
keeps_book t owner = record { moved = refl; fits = tt }
keeps_book t (acquire group) = record { moved = refl; fits = λ h. absurd (omega arith) }
keeps_book t release = record { moved = refl; fits = tt }
