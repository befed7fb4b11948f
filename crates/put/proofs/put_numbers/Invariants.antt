-- The invariant: putting the numbers that are left gives the same buffer as putting all numbers.
use Rattle.put.proofs.NumberLaws.{Putting}
use Rattle.put.proofs.put_numbers.Given as goal

abbrev pub invariant-loop-number : goal.invariant-loop-number
invariant-loop-number l = Putting l.initial.out l.at l.numbers l.out l.place l.number-index
