-- The invariant: the comments from the current offset end where the comments from the first offset end.
use Prim.Native.Nat.{◌-◌}
use mathlib.Core.Path.{◌≡◌}
use lib.ListN.{length, drop}
use Rattle.format.specs.Line.{lines}
use Rattle.format.specs.Comments.{comments}
use Rattle.front.proofs.comments.comments_end.Given as goal

abbrev pub invariant-loop-line : goal.invariant-loop-line
invariant-loop-line l = comments l.at (lines (drop l.at l.s)) ≡ comments l.from (lines (drop l.from l.s))

abbrev pub decreases-loop-line : goal.decreases-loop-line
decreases-loop-line l = length l.s - l.at
