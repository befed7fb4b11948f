-- The invariant: the bytes so far are digits, and `x` is their number.
use Rattle.scan.proofs.NumberLaws.{DigitsSoFar}
use Rattle.scan.proofs.number.digits.Given as goal

abbrev pub invariant-loop-b : goal.invariant-loop-b
invariant-loop-b l = DigitsSoFar l.t l.b-index l.x
