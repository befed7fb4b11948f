-- `nest::write_one` meets its contract: there is no such record, it does not fit, or it is put.
use Rattle.std.proofs.Common.{rules}
use Rattle.visit.proofs.SinkLaws.{delivered_length}
use Rattle.file.proofs.LayoutLaws.{open_is_kept}
use Rattle.nest.proofs.EntryLaws.{one_none, one_short, one_written}
use Rattle.nest.proofs.write_one.Goals as goal

pub shape_of-out-then-n-wanted : goal.shape_of-out-then-n-wanted
shape_of-out-then-n-wanted c = search (delivered_length, rules)

pub returns-then-n-wanted : goal.returns-then-n-wanted
returns-then-n-wanted c = search (one_none (open_is_kept _ _ c.args.file.kept), rules)

pub shape_of-out-then-out-lt-RECORD_BYTES : goal.shape_of-out-then-out-lt-RECORD_BYTES
shape_of-out-then-out-lt-RECORD_BYTES c = search (delivered_length, rules)

pub returns-then-out-lt-RECORD_BYTES : goal.returns-then-out-lt-RECORD_BYTES
returns-then-out-lt-RECORD_BYTES c = search (one_short (open_is_kept _ _ c.args.file.kept), rules)

pub shape_of-out : goal.shape_of-out
shape_of-out c = search (delivered_length, rules)

pub returns : goal.returns
returns c = search (one_written (open_is_kept _ _ c.args.file.kept), rules)
