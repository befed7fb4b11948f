-- `nest::walk::walk_blocks` and `nest::walk::walk_content`, which call each other, meet their contracts. The measure is
-- made of the levels and the blocks that are left. The loop goes along the blocks.
use Rattle.std.proofs.Common.{◌-◌, ◌+◌, ◌*◌, length}
use Rattle.format.specs.Nest.{deepest}
use Rattle.nest.proofs.WalkLaws.{Walking}
use Rattle.nest.proofs.walk.+walk_blocks_walk_content.Given as goal

abbrev pub decreases-walk_blocks : goal.decreases-walk_blocks
decreases-walk_blocks l = 66 * (deepest - l.depth) + length l.file.offsets.now

abbrev pub decreases-walk_content : goal.decreases-walk_content
decreases-walk_content l = 66 * (deepest - l.block.depth)

abbrev pub invariant-walk_blocks-loop-k : goal.invariant-walk_blocks-loop-k
invariant-walk_blocks-loop-k l = Walking l.depth l.start.0 l.file.bytes.now (length l.file.offsets.now) l.form l.number l.initial.out l.out l.k l.n
