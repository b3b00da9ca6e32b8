-- How a console is seen as POSIX has it: the own group and the foreground are seen as numbers, the groups of the session as they stand.
use Rattle.std.specs.Prelude.{ℕ}
use Rattle.std.specs.Option.{option_map}
use Rattle.foreground.specs.declared.group.Group.{Group}
use Rattle.foreground.specs.declared.disposition.Disposition.{Disposition}
use Rattle.foreground.specs.declared.device.Device.{Device}
use Rattle.foreground.specs.declared.console.Console.{Console}
use Rattle.foreground.specs.Posix.{Tty}

abbrev pub number : Group → ℕ
number group = group.number

-- a process of this group, with this disposition of signal 22, and the device that it calls on
abbrev pub tty_of : Group → Disposition → Device → Tty
tty_of own disposition d = record {
  own = number own;
  handling = disposition.handling;
  foreground = option_map number d.foreground;
  settings = d.settings;
  groups = d.session.places;
}

abbrev pub tty : Console → Tty
tty c = tty_of c.own c.disposition c.device
