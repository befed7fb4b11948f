-- The invariant: the others from `number-index` on are left to put, each after the text.
use Rattle.put.proofs.PartLaws.{Joining}
use Rattle.put.proofs.decimal.put_decimals.Given as goal

abbrev pub invariant-loop-number : goal.invariant-loop-number
invariant-loop-number l = Joining l.fn.out l.at l.between l.numbers l.others l.out l.end l.number-index
