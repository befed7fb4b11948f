-- There are three cases: the outline is refused, its rows do not fit, or they are put.
use Rattle.outline.proofs.WriteLaws.{write_refused, write_long, write_done}
use Rattle.outline.proofs.stored.write.Goals as goal

pub returns-in_err-rows : goal.returns-in_err-rows
returns-in_err-rows g c = write_refused _ _ _ _ c.in_err-rows.ensures _ c.from_residual.ensures.1

pub returns-then-out-BYTES : goal.returns-then-out-BYTES
returns-then-out-BYTES g c =
    write_long _ _ g.met.F.RowForm.all_long g.met.F.RowForm.some _ _ c.in_ok-rows.ensures _ _ c.BYTES.ensures c.if-out-BYTES.true _ c.new.ensures

pub returns : goal.returns
returns g c =
    write_done _ _ g.met.F.RowForm.all_long g.met.F.RowForm.some _ _ c.in_ok-rows.ensures _ _ c.BYTES.ensures c.if-out-BYTES.false _ c.BYTES-2.ensures _ c.put_rows.ensures
