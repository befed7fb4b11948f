-- `mark::find_plain` meets its contract: it finds the first mark in the part from the offset on.
use Rattle.std.proofs.Common.{rules}
use Rattle.mark.proofs.MarkLaws.{found_after}
use Rattle.mark.proofs.find_plain.Goals as goal

pub returns-then-s-at : goal.returns-then-s-at
returns-then-s-at c = search (found_after, rules)
