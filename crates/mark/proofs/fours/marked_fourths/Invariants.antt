-- The invariant: `seen` is true if one of the fourth bytes looked at so far belongs to a mark.
use Prim.Native.Nat.{◌≤◌}
use Rattle.mark.specs.Fours.{Told, fourth_of_mark}
use Rattle.mark.proofs.fours.marked_fourths.Given as goal

abbrev pub invariant-loop-j : goal.invariant-loop-j
invariant-loop-j l = Told (fourth_of_mark l.block) l.j l.seen × (l.j ≤ 64)
