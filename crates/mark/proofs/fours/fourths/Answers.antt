use Rattle.std.proofs.Common.{rules}
use Rattle.mark.proofs.FoursLaws.{fourths_step}
use Rattle.mark.proofs.fours.fourths.Goals as goal

pub loop-k-preserved : goal.loop-k-preserved
loop-k-preserved c = search (fourths_step, rules)
