-- `file::layout::block_of` meets its contract: the block of a kept offset is the block that is read there.
use Rattle.std.proofs.Common.{rules}
use Rattle.file.proofs.KeptLaws.{kept_none, kept_inside, kept_again}
use Rattle.file.proofs.LayoutLaws.{open_is_kept, open_few}
use Rattle.file.proofs.layout.block_of.Goals as goal

pub returns-then-file-ordinal : goal.returns-then-file-ordinal
returns-then-file-ordinal c = search (kept_none (open_is_kept _ _ c.args.file.kept), rules)

pub slice_bounds-block_of-count : goal.slice_bounds-block_of-count
slice_bounds-block_of-count c = search (kept_inside (open_is_kept _ _ c.args.file.kept), rules)

pub slice_bounds-block_of-start : goal.slice_bounds-block_of-start
slice_bounds-block_of-start c = search (kept_inside (open_is_kept _ _ c.args.file.kept), rules)

pub overflow_cast-ordinal : goal.overflow_cast-ordinal
overflow_cast-ordinal c = search (open_few _ _ c.args.file.kept, rules)

pub returns : goal.returns
returns c = search (kept_again (open_is_kept _ _ c.args.file.kept), rules)
