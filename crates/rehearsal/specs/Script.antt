-- What the lines of a script say. A line feed is the byte 10.
use Rattle.std.specs.Prelude.{◌≡◌, ℕ, ◌+◌, if◌then◌else◌, List, [], ◌∷◌, length, Some, None, Ok, Err, Option, Result, ◌==◌, nat_lt}
use Rattle.std.specs.List.{slice_split}
use Rattle.rehearsal.specs.declared.line.Line.{Line}
use Rattle.rehearsal.specs.declared.script.ScriptFault.{ScriptFault}
use Rattle.rehearsal.specs.declared.script.ScriptFault as ScriptFaults
use Rattle.rehearsal.specs.declared.script.ReadError.{ReadError}
use Rattle.rehearsal.specs.declared.script.ReadError.TheVariants.{Faulty, Memory}
use Rattle.rehearsal.specs.Lines.{line_of}

-- a line before others: what they say, or the number n of this line if it is faulty
abbrev pub with_line : ℕ → Option Line → Result (List Line) ScriptFault → Result (List Line) ScriptFault
with_line n None others = Err (ScriptFaults.TheVariants.Line n)
with_line n (Some line) (Ok lines) = Ok (line ∷ lines)
with_line n (Some line) (Err fault) = Err fault

-- what the texts between line feeds say, the first of which is line n: each is a line but the last, which is to be empty
abbrev pub lines_from : ℕ → List (List ℕ) → Result (List Line) ScriptFault
lines_from n [] = Ok []
lines_from n (text ∷ next ∷ texts) = with_line n (line_of (n == 1) text) (lines_from (n + 1) (next ∷ texts))
lines_from n ([] ∷ []) = Ok []
lines_from n ((b ∷ unended) ∷ []) = Err (ScriptFaults.TheVariants.Line n)

-- what a script says, or the first faulty line; one of more than 32,768 bytes is too long
abbrev pub script_of : List ℕ → Result (List Line) ScriptFault
script_of script =
    if nat_lt 32768 (length script) then Err ScriptFaults.TheVariants.TooLong
    else lines_from 1 (slice_split (λ b. b == 10) script)

-- why a script gave no lines: what it says is this fault, or memory was wanting
abbrev pub Explains : Result (List Line) ScriptFault → ReadError → Type 0
Explains says (Faulty fault) = says ≡ Err fault
Explains says Memory = Unit {0}
