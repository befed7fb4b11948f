-- The invariant: the bytes before `i` are skipped.
use Prim.Native.Nat.{◌-◌}
use lib.ListN.{length}
use Rattle.mark.specs.Mark.{Skipped}
use Rattle.mark.proofs.fours.free_space.Given as goal

abbrev pub invariant-loop-block : goal.invariant-loop-block
invariant-loop-block l = Skipped l.t 0 l.i

abbrev pub decreases-loop-block : goal.decreases-loop-block
decreases-loop-block l = length l.t - l.i
