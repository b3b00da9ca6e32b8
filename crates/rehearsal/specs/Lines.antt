-- What a line of a script says. A tab is the byte 9.
use Rattle.std.specs.Prelude.{ℕ, ◌-◌, ◌^◌, Bool, if◌then◌else◌, ◌&&◌, List, [], ◌∷◌, Some, None, codes, min, Option, ◌==◌, nat_le}
use Rattle.std.specs.Option.{option_and_then, option_map, option_zip}
use Rattle.std.specs.Str.{bytes_eq}
use Rattle.drive.specs.declared.calls.Call.{Call}
use Rattle.drive.specs.declared.calls.Call as Calls
use Rattle.supervisor.specs.declared.sends.Send.{Send}
use Rattle.supervisor.specs.declared.sends.Send as Sends
use Rattle.supervisor.specs.declared.answers.StepKind.{StepKind}
use Rattle.supervisor.specs.declared.answers.StepKind.TheVariants.{Child, Pause, Control}
use Rattle.rehearsal.specs.declared.line.Line.{Line}
use Rattle.rehearsal.specs.declared.line.Line as Lines
use Rattle.rehearsal.specs.Tokens.{TokenView, word, number, tokens_of, value_of, number_of, numbers_of}

-- the letter of a call
abbrev pub call_letter : Call → ℕ
call_letter (Calls.TheVariants.Send send) = 99
call_letter (Calls.TheVariants.Step kind time) = 115
call_letter (Calls.TheVariants.Pause signal) = 112
call_letter (Calls.TheVariants.Look ticket) = 108
call_letter (Calls.TheVariants.Collect ticket) = 103

-- the letter that a line begins with
abbrev pub letter_of : Line → ℕ
letter_of (Lines.TheVariants.Make options mask) = 109
letter_of (Lines.TheVariants.Call call) = call_letter call
letter_of (Lines.TheVariants.Exit child code) = 119
letter_of (Lines.TheVariants.Stop child) = 119

-- the send that a name without arguments says
abbrev pub send_named : List ℕ → Option Send
send_named name =
    if bytes_eq name (codes "start") then Some Sends.TheVariants.Start
    else if bytes_eq name (codes "stop") then Some Sends.TheVariants.Stop
    else if bytes_eq name (codes "restart") then Some Sends.TheVariants.Restart
    else if bytes_eq name (codes "try_restart") then Some Sends.TheVariants.TryRestart
    else if bytes_eq name (codes "delete") then Some Sends.TheVariants.Delete
    else if bytes_eq name (codes "delete_now") then Some Sends.TheVariants.DeleteNow
    else if bytes_eq name (codes "to_wait") then Some Sends.TheVariants.ToWait
    else None

-- A signal has one byte and a grace four. A larger number stands as the largest, since a job refuses both alike: all signals over
-- 31, and all graces over a day.
abbrev pub signal_of : ℕ → ℕ
signal_of n = min n 255

abbrev pub grace_of : ℕ → ℕ
grace_of n = min n (2 ^ 32 - 1)

-- the send that a name with a signal and a grace says
abbrev pub with_grace : List ℕ → ℕ → ℕ → Option Send
with_grace name signal grace =
    if bytes_eq name (codes "stop_with_signal") then Some (Sends.TheVariants.StopWithSignal signal grace)
    else if bytes_eq name (codes "restart_with_signal") then Some (Sends.TheVariants.RestartWithSignal signal grace)
    else if bytes_eq name (codes "try_restart_with_signal") then Some (Sends.TheVariants.TryRestartWithSignal signal grace)
    else None

-- the send that a name with a signal says
abbrev pub with_signal : List ℕ → ℕ → Option Send
with_signal name signal = if bytes_eq name (codes "signal") then Some (Sends.TheVariants.Signal signal) else None

-- c: a word, the name of a send, and behind it as many numbers as the send takes
abbrev pub send_of : List TokenView → Option Send
send_of (word name ∷ []) = send_named name
send_of (word name ∷ number signal ∷ []) = option_and_then (λ s. with_signal name (signal_of s)) (value_of signal)
send_of (word name ∷ number signal ∷ number grace ∷ []) =
    option_and_then (λ p. with_grace name (signal_of p.0) (grace_of p.1)) (option_zip (value_of signal) (value_of grace))
send_of tokens = None

-- a letter and what stands behind its tab
abbrev pub letter_and_rest : List ℕ → Option (ℕ × List ℕ)
letter_and_rest [] = None
letter_and_rest (letter ∷ []) = None
letter_and_rest (letter ∷ tab ∷ rest) = if tab == 9 then Some (letter, rest) else None

-- m: options and mask
abbrev pub make_line : ℕ × ℕ → Line
make_line p = Lines.TheVariants.Make p.0 p.1

-- w x: a child and a code up to 255
abbrev pub exit_line : ℕ × ℕ → Option Line
exit_line p = if nat_le p.1 255 then Some (Lines.TheVariants.Exit p.0 p.1) else None

-- w z: a child and one of the signals 19 to 22
abbrev pub stop_line : ℕ × ℕ → Option Line
stop_line p = if nat_le 19 p.1 && nat_le p.1 22 then Some (Lines.TheVariants.Stop p.0) else None

-- which step a letter names: e, p or c
abbrev pub step_kind : ℕ → Option StepKind
step_kind letter =
    if letter == 101 then Some Child
    else if letter == 112 then Some Pause
    else if letter == 99 then Some Control
    else None

-- s: the letter of a step, and a time
abbrev pub step_call : ℕ × List ℕ → Option Call
step_call p = option_and_then (λ kind. option_map (Calls.TheVariants.Step kind) (number_of p.1)) (step_kind p.0)

-- w: x or z, and a child with a code or a signal
abbrev pub event_line : ℕ × List ℕ → Option Line
event_line p =
    if p.0 == 120 then option_and_then exit_line (numbers_of p.1)
    else (if p.0 == 122 then option_and_then stop_line (numbers_of p.1)
    else None)

-- what a letter and its fields say: m (109), if the line is the first; c (99), s (115), p (112), l (108) or g (103), which are calls;
-- or w (119)
abbrev pub line_by : Bool → ℕ → List ℕ → Option Line
line_by first letter fields =
    if letter == 109 && first then option_map make_line (numbers_of fields)
    else if letter == 99 then option_map (λ send. Lines.TheVariants.Call (Calls.TheVariants.Send send)) (send_of (tokens_of fields))
    else if letter == 115 then option_map Lines.TheVariants.Call (option_and_then step_call (letter_and_rest fields))
    else if letter == 112 then option_map (λ n. Lines.TheVariants.Call (Calls.TheVariants.Pause (signal_of n))) (number_of fields)
    else if letter == 108 then option_map (λ n. Lines.TheVariants.Call (Calls.TheVariants.Look n)) (number_of fields)
    else if letter == 103 then option_map (λ n. Lines.TheVariants.Call (Calls.TheVariants.Collect n)) (number_of fields)
    else if letter == 119 then option_and_then event_line (letter_and_rest fields)
    else None

-- what a line says; none for a faulty one
abbrev pub line_of : Bool → List ℕ → Option Line
line_of first line = option_and_then (λ p. line_by first p.0 p.1) (letter_and_rest line)
