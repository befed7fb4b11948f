-- If the bytes do not fit, nothing changes.
use Rattle.std.proofs.Common.{rules}
use Rattle.format.proofs.PackLaws.{to_bytes_length}
use Rattle.put.proofs.PutLaws.{placed_not}
use Rattle.put.proofs.put_number.Goals as goal

pub returns-else-fits : goal.returns-else-fits
returns-else-fits c = search (placed_not, to_bytes_length, rules)
