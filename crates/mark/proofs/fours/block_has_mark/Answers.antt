-- If no fourth byte belongs to a mark, no mark begins here. Otherwise each byte is tried.
use Rattle.std.proofs.Common.{rules}
use Rattle.mark.proofs.FoursLaws.{fourths_none, fourth_none}
use Rattle.mark.proofs.fours.block_has_mark.Goals as goal

pub returns-then-fourths-lt66 : goal.returns-then-fourths-lt66
returns-then-fourths-lt66 c = search (fourths_none, rules)

pub returns-then-not-marked_fourths : goal.returns-then-not-marked_fourths
returns-then-not-marked_fourths c = search (fourth_none, rules)
