-- The invariant: the comparison so far and the numbers on the lines from `at` give the same answer as all numbers.
use Prim.Native.Nat.{◌-◌}
use mathlib.Core.Path.{◌≡◌}
use lib.ListN.{length, drop}
use Rattle.format.specs.Line.{lines}
use Rattle.format.specs.Index.{dash_numbers, at_least_one}
use Rattle.index.specs.Verdict.{compared}
use Rattle.index.proofs.ListLaws.{agreed}
use Rattle.index.proofs.DashLaws.{from_line}
use Rattle.index.proofs.dashes.compare.Given as goal

abbrev pub invariant-loop-line : goal.invariant-loop-line
invariant-loop-line l = agreed l.comparison (from_line l.at (dash_numbers (lines (drop l.at l.t)))) ≡ compared l.offsets (at_least_one (dash_numbers (lines l.t)))

abbrev pub decreases-loop-line : goal.decreases-loop-line
decreases-loop-line l = length l.t - l.at
