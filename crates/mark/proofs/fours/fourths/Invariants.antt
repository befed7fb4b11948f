-- The invariant: none of the bytes looked at so far is above `seen`.
use Prim.Native.Nat.{◌≤◌}
use Rattle.mark.specs.Fours.{FourthsUpTo}
use Rattle.mark.proofs.fours.fourths.Given as goal

abbrev pub invariant-loop-k : goal.invariant-loop-k
invariant-loop-k l = FourthsUpTo l.block l.k l.seen × (l.k ≤ 16)
