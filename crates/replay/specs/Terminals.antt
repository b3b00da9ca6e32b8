-- What changes of a script's terminal where groups join its session.
use Rattle.std.specs.Prelude.{◌≡◌}
use Rattle.foreground.specs.Simulated.{view}
use Rattle.replay.specs.declared.session.Session.{Session}

-- only the groups of the session: foreground, settings, handling, grant and count of calls stay
abbrev pub OnlyGroups : Session → Session → Type 0
OnlyGroups a b = let s = view a.terminal in view b.terminal ≡ record s { tty = record s.tty { groups = (view b.terminal).tty.groups } }
