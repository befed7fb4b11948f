-- The invariant: the comparison so far and the numbers that are left give the same answer as all numbers.
use mathlib.Core.Path.{◌≡◌}
use mathlib.Core.List.{map}
use lib.ListN.{length, drop}
use Rattle.std.specs.Prelude.{Some}
use Rattle.format.specs.Numeral.{numerals, split}
use Rattle.format.specs.Index.{trim, listed}
use Rattle.index.specs.Verdict.{compared}
use Rattle.index.proofs.ListLaws.{agreed}
use Rattle.index.proofs.list.compare.Given as goal

abbrev pub invariant-loop-part : goal.invariant-loop-part
invariant-loop-part l = agreed l.comparison (numerals 10 (map trim (drop (length l.yielded) (split 44 l.list)))) ≡ compared l.offsets (listed (Some l.list))
