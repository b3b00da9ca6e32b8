-- The text that is printed: lines of fields with tabs (byte 9) between them, ended by line feeds (byte 10).
use Rattle.std.specs.Prelude.{ℕ, ◌+◌, List, [], ◌∷◌, ◌++◌, Ok, Err, decimal, encode_utf8, Result}
use Rattle.std.specs.Fmt.{signed_decimal}
use Rattle.std.specs.List.{flat_map}
use Rattle.host.specs.declared.journal.Record.{Record}
use Rattle.host.specs.Journal.{call_number, answer_number}
use Rattle.supervisor.specs.declared.errors.Refusal.{Refusal}
use Rattle.supervisor.specs.Errors.{refusal_number}
use Rattle.drive.specs.declared.calls.Value.{Value}
use Rattle.drive.specs.Values.{value_number}
use Rattle.rehearsal.specs.declared.line.Line.{Line}
use Rattle.rehearsal.specs.declared.script.ScriptFault.{ScriptFault}
use Rattle.rehearsal.specs.declared.script.ScriptFault as ScriptFaults
use Rattle.rehearsal.specs.Plays.{State, beginning, play}
use Rattle.rehearsal.specs.Script.{script_of}
use Rattle.rehearsal.specs.Lines.{letter_of}

-- the number of a faulty line; 0 for a script that is too long
abbrev pub fault_number : ScriptFault → ℕ
fault_number ScriptFaults.TheVariants.TooLong = 0
fault_number (ScriptFaults.TheVariants.Line number) = number

-- the refusal of a faulty line, which is 13, and its number
abbrev pub fault_text : ScriptFault → List ℕ
fault_text fault = decimal 13 ++ 9 ∷ decimal (fault_number fault) ++ 10 ∷ []

-- the number of a line, its letter, refusal and value
abbrev pub answer_text : ℕ → ℕ → ℕ → ℕ → List ℕ
answer_text number letter refusal value =
    decimal number ++ 9 ∷ encode_utf8 letter ++ 9 ∷ decimal refusal ++ 9 ∷ decimal value ++ 10 ∷ []

-- the letter j, and call, child, number and answer of a record
abbrev pub record_text : Record → List ℕ
record_text r =
    106 ∷ [] ++ 9 ∷ decimal (call_number r.call) ++ 9 ∷ decimal r.child ++ 9 ∷ decimal r.number
    ++ 9 ∷ signed_decimal (answer_number r.answer) ++ 10 ∷ []

-- the answer of a line: a refused one has the value 0
abbrev pub result_text : ℕ → ℕ → Result Value Refusal → List ℕ
result_text number letter (Ok value) = answer_text number letter 0 (value_number value)
result_text number letter (Err refusal) = answer_text number letter (refusal_number refusal) 0

-- what a line prints: its answer, and the records that it wrote
abbrev pub line_text : ℕ → ℕ → Result Value Refusal → List Record → List ℕ
line_text number letter answer records = result_text number letter answer ++ flat_map record_text records

-- what lines print that are played one after the other from the state s on, the first of which is line n
abbrev pub text_from : ℕ → List Line → State → List ℕ
text_from n [] s = []
text_from n (line ∷ lines) s = let p = play s line in line_text n (letter_of line) p.answer p.records ++ text_from (n + 1) lines p.state

-- a script with a fault prints it; the lines of another are played
abbrev pub text_of : Result (List Line) ScriptFault → List ℕ
text_of (Err fault) = fault_text fault
text_of (Ok lines) = text_from 1 lines beginning

-- THE REHEARSAL. What the bytes of a script print.
abbrev pub rehearsal_text : List ℕ → List ℕ
rehearsal_text script = text_of (script_of script)
