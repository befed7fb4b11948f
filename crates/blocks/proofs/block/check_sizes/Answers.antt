-- `blocks::block::check_sizes` meets its contract. There is one law for each return, in the order of the tests.
use Rattle.std.proofs.Common.{rules}
use Rattle.blocks.proofs.BlockLaws.{sizes_used, sizes_data, sizes_beyond, sizes_good}
use Rattle.blocks.proofs.block.check_sizes.Goals as goal

pub returns-then-allocated-used : goal.returns-then-allocated-used
returns-then-allocated-used c = search (sizes_used, rules)

pub returns-then-not-is_data_size : goal.returns-then-not-is_data_size
returns-then-not-is_data_size c = search (sizes_data, rules)

pub returns-then-left-allocated : goal.returns-then-left-allocated
returns-then-left-allocated c = search (sizes_beyond, rules)

pub returns : goal.returns
returns c = search (sizes_good, rules)
