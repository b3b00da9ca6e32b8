-- The books of a host and a terminal that keep them move along every trace.
use Rattle.std.proofs.Common.{◌≡◌, List, ap}
use Rattle.std.specs.List.{fold}
use Rattle.host.specs.declared.process.Host as Host
use Rattle.host.specs.declared.terminal.Terminal as Terminal
use Rattle.host.specs.Calls.{HostCall, HostReply, TerminalCall, TerminalReply, Call, to_host, to_terminal, Reply, Event}
use Rattle.host.specs.Interaction.{Interaction, done, ask, Traces, World, IsAnswered}
use Rattle.host.specs.Books.{HostKeeps, host_book_after, host_along, TerminalKeeps, terminal_book_after, terminal_along}

-- a book that each call moves is moved along a trace
module _ {S B : Type 0} (did : S → (c : Call) → Reply c → S → Type 0) (book : S → B) (moved : B → (c : Call) → Reply c → B)
    (moves : (s u : S) (c : Call) (a : Reply c) → did s c a u → book u ≡ moved (book s) c a) where
  goes_along : {A : Type 0} (t : Interaction A) (s u : S) (p : List Event) (x : A) → Traces did t s p x u → book u ≡ fold (λ b e. moved b e.0 e.1) (book s) p
  goes_along (done y) s u p x r = cc
  goes_along (ask c k) s u p x r = cc (goes_along (k r.0) r.1 u r.2 x r.5, moves s r.1 c r.0 r.4)

-- each call keeps the rules of its book
abbrev pub HostKept : {H : Type 0} → Host.Ghosts H → Type 0
HostKept {H} by_host = (h : H) (c : HostCall) (a : HostReply c) (k : H) → by_host.did h c a k → HostKeeps by_host.most (by_host.book h) c a (by_host.book k)

abbrev pub TerminalKept : {T : Type 0} → Terminal.Ghosts T → Type 0
TerminalKept {T} by_terminal = (t : T) (c : TerminalCall) (a : TerminalReply c) (u : T) → by_terminal.did t c a u → TerminalKeeps (by_terminal.book t) c a
    (by_terminal.book u)

module _ {H T : Type 0} (by_host : Host.Ghosts H) (by_terminal : Terminal.Ghosts T) where
  pub host_goes : HostKept by_host → {A : Type 0} (t : Interaction A) (w u : World H T) (p : List Event) (x : A) → Traces (IsAnswered by_host by_terminal) t w p
      x u → by_host.book u.host ≡ host_along (by_host.book w.host) p
  host_goes keeps = goes_along (IsAnswered by_host by_terminal) (λ w. by_host.book w.host) host_book_after moves
    where
      moves : (w u : World H T) (c : Call) (a : Reply c) → IsAnswered by_host by_terminal w c a u → by_host.book u.host ≡ host_book_after (by_host.book w.host)
          c a
      moves w u (to_host c) a d = (keeps w.host c a u.host d.0).moved
      moves w u (to_terminal c) a d = ap by_host.book d.1

  pub terminal_goes : TerminalKept by_terminal → {A : Type 0} (t : Interaction A) (w u : World H T) (p : List Event) (x : A)
      → Traces (IsAnswered by_host by_terminal) t w p x u → by_terminal.book u.terminal ≡ terminal_along (by_terminal.book w.terminal) p
  terminal_goes keeps = goes_along (IsAnswered by_host by_terminal) (λ w. by_terminal.book w.terminal) terminal_book_after moves
    where
      moves : (w u : World H T) (c : Call) (a : Reply c) → IsAnswered by_host by_terminal w c a u → by_terminal.book u.terminal ≡ terminal_book_after
          (by_terminal.book w.terminal) c a
      moves w u (to_host c) a d = ap by_terminal.book d.1
      moves w u (to_terminal c) a d = (keeps w.terminal c a u.terminal d.0).moved
