use Rattle.std.proofs.Common.{rules}
use Rattle.put.proofs.NumberLaws.{numbers_long, numbers_step, numbers_done}
use Rattle.put.proofs.PutLaws.{placed_outside}
use Rattle.put.proofs.put_numbers.Goals as goal
use Rattle.put.proofs.put_numbers.Goals.{then-out-at-via-then-out-at, then-out-at-via-else-out-at+then-out-at-2}

pub returns-then-out-at : goal.returns-then-out-at
returns-then-out-at c =
    elim c.then-out-at.branch [
      | then-out-at-via-then-out-at w ↦ search (placed_outside, rules)
      | then-out-at-via-else-out-at+then-out-at-2 w ↦ search (numbers_long, rules)
    ]

pub loop-number-preserved : goal.loop-number-preserved
loop-number-preserved c = search (numbers_step, rules)

pub returns : goal.returns
returns c = search (numbers_done, rules)
