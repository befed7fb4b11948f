-- The invariant: read from the current offset, the tree ends where it ends when read from the first offset.
use Prim.Native.Nat.{◌-◌}
use mathlib.Core.Path.{◌≡◌}
use lib.ListN.{length, drop}
use Rattle.format.specs.Line.{lines}
use Rattle.format.specs.Tree.{content}
use Rattle.front.proofs.tree.content_end.Given as goal

abbrev pub invariant-loop-line : goal.invariant-loop-line
invariant-loop-line l = content l.at (lines (drop l.at l.s)) ≡ content l.from (lines (drop l.from l.s))

abbrev pub decreases-loop-line : goal.decreases-loop-line
decreases-loop-line l = length l.s - l.at
