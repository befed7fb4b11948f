use Rattle.std.proofs.Common.{rules}
use Rattle.checksum.proofs.CheckLaws.{one_part}
use Rattle.checksum.proofs.digest_of.Goals as goal

pub returns : goal.returns
returns c = search (one_part, rules)
