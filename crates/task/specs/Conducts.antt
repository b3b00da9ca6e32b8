-- An interaction tree that was run on a host and a terminal, and recorded on a sheet from its first place on.
use Rattle.std.specs.Prelude.{◌≡◌, ℕ, ◌≤◌, List, ◌++◌, length, drop}
use Rattle.host.specs.declared.journal.Record.{Record}
use Rattle.host.specs.declared.process.Host as Host
use Rattle.host.specs.declared.terminal.Terminal as Terminal
use Rattle.host.specs.Calls.{Event}
use Rattle.host.specs.Interaction.{Interaction, Traces, World, IsAnswered}
use Rattle.host.specs.Journal.{journal}

-- The tree was run from the world w to the world w' and ended with x; the sheet ys holds the n records of its trace, for which there
-- is room, and behind them what the sheet xs held.
pub record Conducts {H T A : Type 0} (by_host : Host.Ghosts H) (by_terminal : Terminal.Ghosts T) (tree : Interaction A) (w : World H T) (xs : List Record)
    (x : A) (n : ℕ) (w' : World H T) (ys : List Record) : Type 0 where
  pub trace : List Event
  pub traces : Traces (IsAnswered by_host by_terminal) tree w trace x w'
  pub count : n ≡ length trace
  pub room : length trace ≤ length xs
  pub sheet : ys ≡ journal trace ++ drop (length trace) xs
