use Rattle.std.proofs.Common.{rules}
use Rattle.mark.proofs.FoursLaws.{fours_here, fours_end}
use Rattle.mark.proofs.fours.four_by_four.Goals as goal

pub returns-then-r-i : goal.returns-then-r-i
returns-then-r-i c = search (fours_here, rules)

pub returns : goal.returns
returns c = search (fours_end, rules)
