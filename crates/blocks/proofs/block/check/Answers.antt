-- `blocks::block::check` meets its contract. There is one law for each return; if the header is whole, the sizes
-- decide.
use Rattle.std.proofs.Common.{rules}
use Rattle.blocks.proofs.BlockLaws.{block_short, block_small, block_cut, block_streamed, header_read}
use Rattle.blocks.proofs.block.check.Goals as goal

pub returns-then-t-lt6 : goal.returns-then-t-lt6
returns-then-t-lt6 c = search (block_short, rules)

pub returns-then-header_size-lt-LEAST_HEADER : goal.returns-then-header_size-lt-LEAST_HEADER
returns-then-header_size-lt-LEAST_HEADER c = search (block_small, rules)

pub returns-then-t-content : goal.returns-then-t-content
returns-then-t-content c = search (block_cut, rules)

pub returns-then-field-eq1 : goal.returns-then-field-eq1
returns-then-field-eq1 c = search (block_streamed, rules)

pub check_sizes-requires : goal.check_sizes-requires
check_sizes-requires c = search (header_read, rules)
