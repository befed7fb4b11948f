-- The last of the four bytes determines the only offset at which a mark may begin.
use Rattle.std.proofs.Common.{rules}
use Rattle.mark.proofs.FoursLaws.{four_none, four_here, four_other}
use Rattle.mark.proofs.fours.in_four.Goals as goal

pub returns-then-back-eq4 : goal.returns-then-back-eq4
returns-then-back-eq4 c = search (four_none, rules)

pub returns-then-is_mark : goal.returns-then-is_mark
returns-then-is_mark c = search (four_here, rules)

pub returns : goal.returns
returns c = search (four_other, rules)
