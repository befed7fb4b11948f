-- The first `b` after the blocks of bytes that were passed over is the first `b` of all.
use Rattle.std.proofs.Common.{rules}
use Rattle.scan.proofs.FindLaws.{first_skipped}
use Rattle.scan.proofs.find.find_far.Goals as goal

pub returns : goal.returns
returns c = search (first_skipped, rules)
