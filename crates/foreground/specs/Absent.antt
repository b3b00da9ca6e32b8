-- The absent terminal: what its calls are answered, and its book.
use Rattle.std.specs.Prelude.{◌≡◌, Err, None}
use Rattle.host.specs.Fault.{fault}
use Rattle.host.specs.Calls.{TerminalCall, owner, acquire, release, TerminalReply}
use Rattle.host.specs.Books.{TerminalBook, next_count}
use Rattle.foreground.specs.declared.absent.AbsentTerminal.{AbsentTerminal}

-- its own group is 1, and no grant is ever open
abbrev pub book_of : AbsentTerminal → TerminalBook
book_of t = record { own = 1; grants = 0; served = t.served.0 }

-- the book of a new one
abbrev pub fresh_book : TerminalBook
fresh_book = record { own = 1; grants = 0; served = 0 }

-- there is no owner, an acquire faults with 6, and a release does nothing
abbrev pub answer : (c : TerminalCall) → TerminalReply c
answer owner = None
answer (acquire group) = Err (fault 6)
answer release = tt

-- the book with one more call served
abbrev pub count_call : TerminalBook → TerminalBook
count_call b = record b { served = next_count b.served }

-- a call of a terminal was answered so, and left the terminal so
abbrev pub Did : AbsentTerminal → (c : TerminalCall) → TerminalReply c → AbsentTerminal → Type 0
Did t c a u = (a ≡ answer c) × (book_of u ≡ count_call (book_of t))
