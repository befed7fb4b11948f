use Rattle.std.proofs.Common.{rules}
use Rattle.outline.proofs.WriteLaws.{rows_start, rows_step, rows_done}
use Rattle.outline.proofs.stored.put_rows.Goals as goal

pub loop-k-init : goal.loop-k-init
loop-k-init g c = search (rows_start, rules)

pub loop-k-preserved : goal.loop-k-preserved
loop-k-preserved g c = search (rows_step _ _ g.met.F.RowForm.all_long, rules)

pub returns : goal.returns
returns g c = search (rows_done _ _ g.met.F.RowForm.all_long, rules)
