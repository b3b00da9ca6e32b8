-- What a task holds, as the interaction trees speak of it.
use Rattle.ring.specs.Queue.{items_of}
use Rattle.task.specs.declared.task.Task.{Task}
use Rattle.task.specs.Task.{TaskView}

abbrev pub task_view : Task → TaskView
task_view t = record {
  command = t.command;
  settings = t.settings;
  state = t.state;
  previous = t.previous;
  foreground = record { paused = t.foreground.paused; pauses = items_of t.foreground.pauses; watch = t.foreground.watch; grant = t.foreground.grant };
}
