-- `nest::walk::walk_all` meets its contract: the walk begins at the first block of an accepted file.
use Rattle.std.proofs.Common.{rules}
use Rattle.file.proofs.LayoutLaws.{open_is_kept}
use Rattle.nest.proofs.EntryLaws.{walk_room, walk_whole}
use Rattle.visit.proofs.SinkLaws.{delivered_length}
use Rattle.nest.proofs.walk.walk_all.Goals as goal

pub walk_blocks-requires : goal.walk_blocks-requires
walk_blocks-requires c = search (walk_room (open_is_kept _ _ c.args.file.kept), rules)

pub shape_of-out : goal.shape_of-out
shape_of-out c = search (delivered_length, rules)

pub returns : goal.returns
returns c = search (walk_whole (open_is_kept _ _ c.args.file.kept), rules)
