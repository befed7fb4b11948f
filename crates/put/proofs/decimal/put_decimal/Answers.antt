-- If the digits fit, they are put. If not, nothing changes.
use Rattle.std.proofs.Common.{rules}
use Rattle.put.proofs.PutLaws.{placed_not}
use Rattle.put.proofs.PartLaws.{whole_placed}
use Rattle.put.proofs.decimal.put_decimal.Goals as goal
use Rattle.put.proofs.decimal.put_decimal.Goals.{then-fits, else-fits}

pub returns : goal.returns
returns c =
    elim c.if-fits.branch [
      | then-fits w ↦ rw w.out-is (search (whole_placed, rules))
      | else-fits w ↦ rw w.out-is (search (whole_placed, placed_not, rules))
    ]
