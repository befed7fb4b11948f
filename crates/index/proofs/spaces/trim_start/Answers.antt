use Rattle.index.proofs.SpaceLaws.{start_step, start_done}
use Rattle.index.proofs.spaces.trim_start.Goals as goal

pub loop-rest-preserved : goal.loop-rest-preserved
loop-rest-preserved c = start_step _ _ _ c.strip_prefix.ensures.cases c.loop-rest.invariant _ c.in-Some.is

pub returns : goal.returns
returns c = start_done _ _ _ c.strip_prefix.ensures.cases c.loop-rest.invariant c.in_default.is
