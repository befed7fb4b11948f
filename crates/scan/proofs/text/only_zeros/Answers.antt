-- The bytes after the blocks of zeros that were passed over decide.
use Rattle.std.proofs.Common.{rules}
use Rattle.scan.proofs.TextLaws.{zeros_left}
use Rattle.scan.proofs.text.only_zeros.Goals as goal

pub returns : goal.returns
returns c = search (zeros_left, rules)
