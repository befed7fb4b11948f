-- The line is the first line of a tree exactly if the bytes begin with that line and one of the two line ends.
use Rattle.std.proofs.Common.{rules}
use Rattle.scan.proofs.ExactLaws.{yaml_lf, yaml_crlf, yaml_other}
use Rattle.scan.proofs.line.yaml_line.Goals as goal

pub returns-then-begins_at : goal.returns-then-begins_at
returns-then-begins_at c = search (yaml_lf, rules)

pub returns-then-begins_at-2 : goal.returns-then-begins_at-2
returns-then-begins_at-2 c = search (yaml_crlf, rules)

pub returns : goal.returns
returns c = search (yaml_other, rules)
