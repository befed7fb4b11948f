-- `file::layout::open` meets its contract: the offsets of an accepted file are kept in the table.
use Rattle.std.proofs.Common.{rules}
use Rattle.file.proofs.LayoutLaws.{blocks_kept}
use Rattle.file.proofs.layout.open.Goals as goal

pub open_kept-requires : goal.open_kept-requires
open_kept-requires c = search (blocks_kept, rules)
