-- How the lines of a script are read, one after the other.
use Rattle.std.proofs.Common.{◌≡◌, ℕ, ◌+◌, ◌<◌, List, [], ◌∷◌, ◌++◌, length, Some, Ok, Err, Option, Result, ◌==◌, refl, ap, append_assoc, arith}
use Rattle.std.specs.List.{slice_split}
use Rattle.std.proofs.lemmas.List.Splits.{length-slice_split}
use Rattle.rehearsal.specs.declared.line.Line.{Line}
use Rattle.rehearsal.specs.declared.script.ScriptFault.{ScriptFault}
use Rattle.rehearsal.specs.declared.script.ScriptFault as ScriptFaults
use Rattle.rehearsal.specs.Lines.{line_of}
use Rattle.rehearsal.specs.Script.{with_line, lines_from}

-- the texts between line feeds
abbrev pub texts_of : List ℕ → List (List ℕ)
texts_of = slice_split (λ b. b == 10)

-- what a text says, the first line of which is line n
abbrev pub said : ℕ → List ℕ → Result (List Line) ScriptFault
said n text = lines_from n (texts_of text)

-- lines that were read, before what is still to read
abbrev pub after_lines : List Line → Result (List Line) ScriptFault → Result (List Line) ScriptFault
after_lines read (Ok lines) = Ok (read ++ lines)
after_lines read (Err fault) = Err fault

-- one line more was read
pub one_more : (read : List Line) (n : ℕ) (line : Line) (others : Result (List Line) ScriptFault) →
    after_lines (read ++ line ∷ []) others ≡ after_lines read (with_line n (Some line) others)
one_more read n line (Ok lines) = ap Ok (append_assoc read (line ∷ []) lines)
one_more read n line (Err fault) = refl

-- a text before others is a line
before_others : (n : ℕ) (text : List ℕ) (texts : List (List ℕ)) → 0 < length texts →
    lines_from n (text ∷ texts) ≡ with_line n (line_of (n == 1) text) (lines_from (n + 1) texts)
before_others n text [] some = absurd (omega arith)
before_others n text (next ∷ texts) some = refl

-- a text up to its first line feed is the first line, which says o
pub first_line : (n : ℕ) (s text behind : List ℕ) (o : Option Line) → texts_of s ≡ text ∷ texts_of behind → o ≡ line_of (n == 1) text →
    said n s ≡ with_line n o (said (n + 1) behind)
first_line n s text behind o e says =
    rw (e, says) (before_others n text (texts_of behind) (omega (arith, length-slice_split (λ b. b == 10) behind)))

-- a text without one is faulty, unless it is empty
pub unended : (n : ℕ) (s : List ℕ) → texts_of s ≡ s ∷ [] → 0 < length s → said n s ≡ Err (ScriptFaults.TheVariants.Line n)
unended n [] e some = absurd (omega arith)
unended n (b ∷ bs) e some = ap (lines_from n) e
