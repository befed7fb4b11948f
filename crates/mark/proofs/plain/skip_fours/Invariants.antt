-- The invariant: the bytes before `i` are skipped.
use Prim.Native.Nat.{◌-◌}
use lib.ListN.{length}
use Rattle.mark.specs.Mark.{Skipped}
use Rattle.mark.proofs.plain.skip_fours.Given as goal

abbrev pub invariant-loop-a : goal.invariant-loop-a
invariant-loop-a l = Skipped l.t l.from l.i

abbrev pub decreases-loop-a : goal.decreases-loop-a
decreases-loop-a l = length l.t - l.i
