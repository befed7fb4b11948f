-- `file::layout::first_block` meets its contract: a tree's room, or the end of the comments, comes before the blocks.
use Rattle.std.proofs.Common.{rules}
use Rattle.file.proofs.LayoutLaws.{first_none, first_room}
use Rattle.file.proofs.layout.first_block.Goals as goal

pub returns-in-None : goal.returns-in-None
returns-in-None c = search (first_none, rules)

pub returns-in-Some : goal.returns-in-Some
returns-in-Some c = search (first_room, rules)
