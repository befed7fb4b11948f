-- If the first byte is 0A, the line is empty and consists of its line end.
use Rattle.std.proofs.Common.{rules}
use Rattle.scan.proofs.LineLaws.{line_empty}
use Rattle.scan.proofs.line.line_at.Goals as goal

pub returns-then-begins_at : goal.returns-then-begins_at
returns-then-begins_at c = search (line_empty, rules)
