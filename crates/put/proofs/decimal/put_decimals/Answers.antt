use Rattle.std.proofs.Common.{rules}
use Rattle.put.proofs.PartLaws.{join_none, join_start, join_step, join_done}
use Rattle.put.proofs.decimal.put_decimals.Goals as goal

pub returns-in_default : goal.returns-in_default
returns-in_default c = join_none _ _ _ _ c.ranges.at.fits c.in_default.ensures.cases

pub loop-number-init : goal.loop-number-init
loop-number-init c = search (join_start, rules)

pub loop-number-preserved : goal.loop-number-preserved
loop-number-preserved c = search (join_step, rules)

pub returns : goal.returns
returns c = search (join_done, rules)
