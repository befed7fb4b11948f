-- `nest::outline_with_layout` meets its contract: a refused file has no outline, and the outline of an accepted file is
-- written.
use Rattle.std.proofs.Common.{sym}
use Rattle.nest.proofs.EntryLaws.{outline_refused, outline_written}
use Rattle.nest.proofs.outline_with_layout.Goals as goal

pub returns-in-Err : goal.returns-in-Err
returns-in-Err c = record { layout = sym c.in-Err.ensures; written = outline_refused _ _ c.in-Err.ensures c.type_inv.s _ }

pub returns-in-Ok : goal.returns-in-Ok
returns-in-Ok c =
    record { layout = sym c.in-Ok.ensures.0; written = outline_written _ c.in-Ok.file c.in-Ok.ensures.1 c.type_inv.s _ _ _ c.write-written.ensures }
