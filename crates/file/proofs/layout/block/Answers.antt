-- `file::layout::block` meets its contract: a refused file has no block.
use Rattle.std.proofs.Common.{rules}
use Rattle.file.proofs.LayoutLaws.{block_refused}
use Rattle.file.proofs.layout.block.Goals as goal

pub returns-in_err-file : goal.returns-in_err-file
returns-in_err-file c = search (block_refused, rules)
