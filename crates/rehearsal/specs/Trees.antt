-- How an interaction tree is run on the simulated host and the absent terminal: each call is answered by their own rules.
use Rattle.std.specs.Prelude.{List, [], ◌∷◌}
use Rattle.host.specs.Calls.{Call, to_host, to_terminal, Reply, Event}
use Rattle.host.specs.Books.{TerminalBook}
use Rattle.host.specs.Interaction.{Interaction, done, ask, World}
use Rattle.hosts.specs.Simulated as Simulated
use Rattle.foreground.specs.Absent as Absent

-- what the host holds, and the terminal's book
abbrev pub Outside : Type 0
Outside = World Simulated.HostView TerminalBook

-- what answers a call
abbrev pub reply : Outside → (c : Call) → Reply c
reply w (to_host c) = Simulated.answer w.host c
reply w (to_terminal c) = Absent.answer c

-- what it leaves of both
abbrev pub outside_after : Outside → Call → Outside
outside_after w (to_host c) = record w { host = Simulated.state_after w.host c }
outside_after w (to_terminal c) = record w { terminal = Absent.count_call w.terminal }

-- a tree that was run: what it ended with, its calls with their answers, and what they left
pub record Run (A : Type 0) : Type 0 where
  pub value : A
  pub trace : List Event
  pub outside : Outside

-- a call before others
abbrev pub prepend_call : {A : Type 0} → Event → Run A → Run A
prepend_call e r = record r { trace = e ∷ r.trace }

abbrev pub run : {A : Type 0} → Interaction A → Outside → Run A
run (done x) w = record { value = x; trace = []; outside = w }
run (ask c k) w = prepend_call (c, reply w c) (run (k (reply w c)) (outside_after w c))
