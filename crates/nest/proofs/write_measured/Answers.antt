-- `nest::write_measured` meets its contract: there are too many records, a second walk puts them, or they are copied
-- from the function's own buffer.
use Rattle.std.proofs.Common.{rules}
use Rattle.file.proofs.LayoutLaws.{open_is_kept}
use Rattle.nest.proofs.EntryLaws.{told_fits, each_some, measured_short, measured_put, own_put}
use Rattle.visit.proofs.SinkLaws.{delivered_length}
use Rattle.nest.proofs.write_measured.Goals as goal

pub nonzero_div-out : goal.nonzero_div-out
nonzero_div-out c = search (each_some (open_is_kept _ _ c.args.file.kept), rules)

pub returns-then-out-each : goal.returns-then-out-each
returns-then-out-each c = search (measured_short (open_is_kept _ _ c.args.file.kept), rules)

pub nonzero_div-own_most : goal.nonzero_div-own_most
nonzero_div-own_most c = search (each_some (open_is_kept _ _ c.args.file.kept), rules)

pub overflow_mul-result : goal.overflow_mul-result
overflow_mul-result c = told_fits (open_is_kept _ _ c.args.file.kept) c.walk_all-n.ensures c.width_of-each.ensures

pub shape_of-out-then-own_most-n : goal.shape_of-out-then-own_most-n
shape_of-out-then-own_most-n c = delivered_length c.walk_all.ensures

pub returns-then-own_most-n : goal.returns-then-own_most-n
returns-then-own_most-n c = measured_put (open_is_kept _ _ c.args.file.kept) _ c.requires c.width_of-each.ensures _ c.walk_all-n.ensures (search (rules, c.if-out-each)) c.walk_all.ensures

pub returns : goal.returns
returns c = own_put (open_is_kept _ _ c.args.file.kept) _ c.requires c.width_of-each.ensures _ c.walk_all-n.ensures (search (rules, c.if-out-each)) 7680 (search rules) (search (rules, c.if-own_most-n)) c.write_text.ensures
