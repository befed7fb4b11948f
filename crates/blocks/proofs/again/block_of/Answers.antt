-- `blocks::again::block_of` meets its contract: bytes that are too short give zeros, all others the numbers in the
-- header.
use Rattle.std.proofs.Common.{rules}
use Rattle.blocks.proofs.AgainLaws.{block_blank, block_made}
use Rattle.blocks.proofs.again.block_of.Goals as goal

pub returns-then-t-lt-LEAST_BLOCK : goal.returns-then-t-lt-LEAST_BLOCK
returns-then-t-lt-LEAST_BLOCK c = search (block_blank, rules)

pub returns : goal.returns
returns c = search (block_made, rules)
