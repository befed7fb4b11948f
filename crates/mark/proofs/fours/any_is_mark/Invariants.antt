-- The invariant: `seen` is true if a mark begins at one of the offsets looked at so far.
use Prim.Native.Nat.{◌≤◌}
use Rattle.mark.specs.Fours.{Told, begins_mark}
use Rattle.mark.proofs.fours.any_is_mark.Given as goal

abbrev pub invariant-loop-j : goal.invariant-loop-j
invariant-loop-j l = Told (begins_mark l.block) l.j l.seen × (l.j ≤ 64)
