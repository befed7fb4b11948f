-- If the text fits, it is copied. If not, nothing changes.
use Rattle.std.proofs.Common.{rules}
use Rattle.put.proofs.PutLaws.{placed_not, placed_copied}
use Rattle.put.proofs.PartLaws.{whole_placed}
use Rattle.put.proofs.text.put_text.Goals as goal
use Rattle.put.proofs.text.put_text.Goals.{then-fits, else-fits}

pub returns : goal.returns
returns c =
    elim c.if-fits.branch [
      | then-fits w ↦ rw w.out-is (search (whole_placed, placed_copied, rules))
      | else-fits w ↦ rw w.out-is (search (whole_placed, placed_not, rules))
    ]
