use Rattle.std.proofs.Common.{rules}
use Rattle.scan.proofs.FindLaws.{skip_block}
use Rattle.scan.proofs.find.skip_blocks.Goals as goal

pub loop-i-preserved : goal.loop-i-preserved
loop-i-preserved g c = search (skip_block, rules)
