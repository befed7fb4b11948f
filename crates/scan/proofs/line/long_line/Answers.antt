-- The first 0A ends the line, and the byte before it decides whether the line end has a 0D.
use Rattle.std.proofs.Common.{rules}
use Rattle.scan.proofs.LineLaws.{line_none, line_unended, line_crlf, line_lf, line_lf_empty}
use Rattle.scan.proofs.line.long_line.Goals as goal
use Rattle.scan.proofs.line.long_line.Goals.{else-at-end-via-then-at-end+else-s-end-eq13, else-at-end-via-else-at-end}

pub returns-then-s-at : goal.returns-then-s-at
returns-then-s-at c = search (line_none, rules)

pub returns-then-end-s : goal.returns-then-end-s
returns-then-end-s c = search (line_unended, rules)

pub returns-then-s-end-eq13 : goal.returns-then-s-end-eq13
returns-then-s-end-eq13 c = search (line_crlf, rules)

pub returns : goal.returns
returns c =
    elim c.else-at-end.branch [
      | else-at-end-via-then-at-end+else-s-end-eq13 w ↦ search (line_lf, rules)
      | else-at-end-via-else-at-end w ↦ search (line_lf_empty, rules)
    ]
