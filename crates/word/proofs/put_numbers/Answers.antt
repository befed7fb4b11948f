-- A buffer that is too short is refused, and numbers that fit are put.
use Rattle.std.proofs.Common.{rules}
use Rattle.put.proofs.PutLaws.{placed_length}
use Rattle.word.proofs.NumberLaws.{numbers_short, numbers_put}
use Rattle.word.proofs.put_numbers.Goals as goal

pub returns-then-out-numbers : goal.returns-then-out-numbers
returns-then-out-numbers c = search (numbers_short, rules)

pub shape_of-out : goal.shape_of-out
shape_of-out c = search (placed_length, rules)

pub returns : goal.returns
returns c = search (numbers_put, rules)
