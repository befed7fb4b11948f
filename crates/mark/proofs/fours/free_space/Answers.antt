use Rattle.mark.proofs.FoursLaws.{block_on}
use Rattle.mark.proofs.fours.free_space.Goals as goal

pub loop-block-preserved : goal.loop-block-preserved
loop-block-preserved c = block_on _ _ c.loop-block.invariant _ _ c.in-Some.ensures.cases c.block_has_mark.ensures c.if-block_has_mark.false
