-- The invariant: putting the digits that are left gives the same buffer as putting all digits.
use Rattle.put.proofs.DecimalLaws.{Putting}
use Rattle.put.proofs.decimal.put_digits.Given as goal

abbrev pub invariant-loop-place : goal.invariant-loop-place
invariant-loop-place l = Putting l.initial.out l.at l.x l.out l.place l.rest
