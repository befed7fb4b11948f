-- `blocks::block::is_data_size` meets its contract. There are two cases: the block is compressed, or it is not.
use Rattle.std.proofs.Common.{rules}
use Rattle.blocks.proofs.BlockLaws.{compressed_size, plain_size}
use Rattle.blocks.proofs.block.is_data_size.Goals as goal

pub returns-then-is_compressed : goal.returns-then-is_compressed
returns-then-is_compressed c = search (compressed_size, rules)

pub returns : goal.returns
returns c = search (plain_size, rules)
