-- Each text up to a line feed is a line, or the first faulty one.
use Rattle.std.proofs.Common.{◌+◌, Some, None, sym, ap, ◌∙◌, arith}
use Rattle.rehearsal.proofs.Reading.{after_lines, said, first_line, unended, one_more}
use Rattle.rehearsal.proofs.script.read.Goals as goal

pub returns-in_default-parse : goal.returns-in_default-parse
returns-in_default-parse c =
    let left = first_line (c.len-number.result + 1) c.loop-text.rest.now c.in-Some.text.now c.in-Some.behind.now
    None c.in-Some.ensures c.in_default-parse.ensures in
    rw c.into-in_default-parse.ensures (rw (sym c.len-number.ensures) at c.loop-text.invariant ∙ ap (after_lines c.loop-text.lines.items) left)

pub loop-text-preserved : goal.loop-text-preserved
loop-text-preserved c =
    let n = c.len-number.result + 1 in
    let line = c.in-Some-parse.line in
    let left = first_line n c.loop-text.rest.now c.in-Some.text.now c.in-Some.behind.now (Some line) c.in-Some.ensures c.in-Some-parse.ensures in
    let more = one_more c.loop-text.lines.items n line (said (n + 1) c.in-Some.behind.now) in
    rw (c.in_ok-push.ensures.items, c.in_ok-push.ensures.len, sym c.len-number.ensures, more)
    (rw (sym c.len-number.ensures) at c.loop-text.invariant ∙ ap (after_lines c.loop-text.lines.items) left)

pub returns-then-not-is_empty : goal.returns-then-not-is_empty
returns-then-not-is_empty c = grind (arith, unended)
