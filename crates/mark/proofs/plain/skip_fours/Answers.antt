use Rattle.std.proofs.Common.{rules}
use Rattle.mark.proofs.PlainLaws.{skip_four}
use Rattle.mark.proofs.plain.skip_fours.Goals as goal

pub loop-a-preserved : goal.loop-a-preserved
loop-a-preserved c = search (skip_four, c.in-Some.ensures.cases, rules)
