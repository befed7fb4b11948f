-- It finds a mark at the offset itself, or the first mark in the part from the offset on.
use Rattle.std.proofs.Common.{rules}
use Rattle.mark.proofs.MarkLaws.{found_after, found_at_once}
use Rattle.mark.proofs.find.Goals as goal

pub returns-then-s-at : goal.returns-then-s-at
returns-then-s-at c = search (found_after, rules)

pub returns-then-is_mark : goal.returns-then-is_mark
returns-then-is_mark c = search (found_at_once, rules)
