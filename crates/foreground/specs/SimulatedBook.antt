-- The book of the simulated terminal keeps its rules.
use Rattle.std.specs.Prelude.{ℕ, Some, None, Option, refl}
use Rattle.std.specs.Option.{option_map}
use Rattle.std.proofs.Common.{subst, sym, arith}
use Rattle.std.proofs.lemmas.Bool.Decides.{nat_tests}
use Rattle.host.specs.Calls.{TerminalCall, owner, acquire, release, TerminalReply}
use Rattle.host.specs.Books.{TerminalKeeps, TerminalFits, IsTerminal}
use Rattle.foreground.specs.declared.group.Group.{Group}
use Rattle.foreground.specs.declared.simulated.SimulatedTerminal.{SimulatedTerminal}
use Rattle.foreground.specs.View.{number}
use Rattle.foreground.specs.Simulated.{TerminalView, Did, book_of, count_call, serve, view}

-- an answer and what it leaves keep the rules
abbrev Keeps : TerminalView → (c : TerminalCall) → TerminalReply c × TerminalView → Type 0
Keeps s c d = TerminalKeeps (book_of s) c d.0 (book_of d.1)

owner_fits : (n : ℕ) (foreground : Option Group) → TerminalFits n owner (option_map number foreground)
owner_fits n None = tt
owner_fits n (Some group) = group.low

serve_keeps : (t : SimulatedTerminal) (c : TerminalCall) → Keeps (view t) c (serve (count_call (view t)) c)
serve_keeps t owner = record { moved = refl; fits = owner_fits (book_of (view t)).grants t.console.device.foreground }
serve_keeps t (acquire group) = record { moved = grind (arith, nat_tests); fits = grind (arith, nat_tests) }
serve_keeps t release = record { moved = grind (arith, nat_tests); fits = tt }

pub keeps_book : (t : SimulatedTerminal) (c : TerminalCall) (a : TerminalReply c) (u : SimulatedTerminal) → Did t c a u → Keeps (view t) c (a, view u)
keeps_book t c a u did = subst (Keeps (view t) c) (sym did) (serve_keeps t c)

pub sound : (t : SimulatedTerminal) → IsTerminal (book_of (view t))
sound t = (t.console.own.low, grind (arith, nat_tests))
