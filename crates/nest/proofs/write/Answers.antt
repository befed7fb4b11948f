-- `nest::write` meets its contract: the buffer is surely long enough, or it has to be measured.
use Rattle.std.proofs.Common.{rules}
use Rattle.file.proofs.LayoutLaws.{open_is_kept}
use Rattle.nest.proofs.EntryLaws.{each_some, told_fits, sure_put}
use Rattle.visit.proofs.SinkLaws.{delivered_length}
use Rattle.nest.proofs.write.Goals as goal

pub nonzero_div-out : goal.nonzero_div-out
nonzero_div-out c = search (each_some (open_is_kept _ _ c.args.file.kept), rules)

pub overflow_mul-result : goal.overflow_mul-result
overflow_mul-result c = search (told_fits (open_is_kept _ _ c.args.file.kept), rules)

pub shape_of-out : goal.shape_of-out
shape_of-out c = search (delivered_length, rules)

pub returns : goal.returns
returns c = search (sure_put (open_is_kept _ _ c.args.file.kept), rules)
