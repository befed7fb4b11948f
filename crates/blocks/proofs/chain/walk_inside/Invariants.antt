-- `blocks::chain::walk_inside` meets its contract. The loop's invariant: the blocks walked so far, followed by the
-- chain from here on, are the whole chain. The measure is how many blocks are still allowed.
use Prim.Native.Nat.{◌-◌, ◌≤◌}
use lib.ListN.{length}
use Rattle.format.specs.Chain.{most_blocks}
use Rattle.blocks.specs.Chain.{onward}
use Rattle.blocks.proofs.ChainLaws.{Walking}
use Rattle.blocks.proofs.chain.walk_inside.Given as goal

abbrev pub invariant-chain : goal.invariant-chain
invariant-chain l = Walking l.s l.initial.offsets l.offsets l.first l.i (onward l.s l.i l.at) × (l.at ≤ length l.s)

abbrev pub decreases-chain : goal.decreases-chain
decreases-chain l = most_blocks - l.i
