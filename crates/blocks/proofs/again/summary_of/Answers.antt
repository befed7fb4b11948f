-- `blocks::again::summary_of` meets its contract: bytes that are too short give zeros, all others the numbers in the
-- header.
use Rattle.std.proofs.Common.{rules}
use Rattle.blocks.proofs.AgainLaws.{summary_blank, summary_made}
use Rattle.blocks.proofs.again.summary_of.Goals as goal

pub returns-then-t-lt-LEAST_BLOCK : goal.returns-then-t-lt-LEAST_BLOCK
returns-then-t-lt-LEAST_BLOCK c = search (summary_blank, rules)

pub returns : goal.returns
returns c = search (summary_made, rules)
