-- A line is the word exactly if its text is the word.
use Rattle.std.proofs.Common.{rules}
use Rattle.scan.proofs.ExactLaws.{exact_unended, exact_after, exact_other}
use Rattle.scan.proofs.line.exact_line.Goals as goal

pub returns-in_err-line : goal.returns-in_err-line
returns-in_err-line c = search (exact_unended, rules)

pub returns-then-is : goal.returns-then-is
returns-then-is c = search (exact_after, rules)

pub returns : goal.returns
returns c = search (exact_other, rules)
