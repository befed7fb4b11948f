use Rattle.index.proofs.SpaceLaws.{end_step, end_done}
use Rattle.index.proofs.spaces.trim_end.Goals as goal

pub loop-rest-preserved : goal.loop-rest-preserved
loop-rest-preserved c = end_step c.loop-rest.left.now _ _ c.strip_suffix.ensures.cases c.loop-rest.invariant _ c.in-Some.is

pub returns : goal.returns
returns c = end_done c.loop-rest.left.now _ _ c.strip_suffix.ensures.cases c.loop-rest.invariant c.in_default.is
