-- What holds along each trace of a tree that keeps the books, whatever host and terminal answer.
use Rattle.std.proofs.Common.{◌≡◌, refl, List}
use Rattle.std.specs.Int.{from_bool}
use Rattle.std.specs.List.{fold}
use Rattle.host.specs.Calls.{Call, Reply, Event}
use Rattle.host.specs.Books.{HostBook, TerminalBook, host_along, terminal_along}
use Rattle.host.specs.Interaction.{Interaction, Traces}
use Rattle.host.specs.Journal.{journal}
use Rattle.task.specs.Task.{TaskView, children, GrantMeansRunning}
use Rattle.task.proofs.Always.{Always, always_traced}
use Rattle.task.proofs.Books.{Books, no_calls, tally_of, moved, moved_along, tally-journal}
use Rattle.task.proofs.Courses.{FitsTask}

-- the books after the calls of a trace, with the tally of these
abbrev pub after : HostBook → TerminalBook → List Event → Books
after h u p = record { roster = (host_along h p).roster; grants = (terminal_along u p).grants; tally = tally_of (journal p) }

-- the books fit the task
pub record Fitting (t : TaskView) (h : HostBook) (u : TerminalBook) : Type 0 where
  pub roster : h.roster ≡ children t.state
  pub grants : u.grants ≡ from_bool t.foreground.grant

-- there are such books, whatever the task is
abbrev pub fitting_host : TaskView → HostBook
fitting_host t = record { roster = children t.state; served = 0; spawns = 0 }

abbrev pub fitting_terminal : TaskView → TerminalBook
fitting_terminal t = record { own = 1; grants = from_bool t.foreground.grant; served = 0 }

pub fitting : (t : TaskView) → Fitting t (fitting_host t) (fitting_terminal t)
fitting t = record { roster = refl; grants = refl }

pub traced : {W A : Type 0} (did : W → (c : Call) → Reply c → W → Type 0) (t : TaskView) → GrantMeansRunning t → (R : Books → A → Type 0) (tree : Interaction A)
    (w w' : W) (p : List Event) (x : A) → ((b : Books) → FitsTask no_calls t b → Always moved R b tree) → Traces did tree w p x w'
    → (h : HostBook) (u : TerminalBook) → Fitting t h u → R (after h u p) x
traced did t g R tree w w' p x k r h u f =
    let b : Books = record { roster = h.roster; grants = u.grants; tally = no_calls } in
    let ends : R (fold (λ v e. moved v e.0 e.1) b p) x = always_traced moved did R b tree w w' p x (k b (g, f.roster, f.grants, refl)) r in
    rw (moved_along h u no_calls p, tally-journal (journal p)) at ends
