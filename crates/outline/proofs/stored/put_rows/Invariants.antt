-- The invariant: putting the rows that are left gives the same buffer as putting all rows at its start.
use Rattle.outline.proofs.WriteLaws.{Putting}
use Rattle.outline.proofs.stored.put_rows.Given as goal

abbrev pub invariant-loop-k : goal.invariant-loop-k
invariant-loop-k g l = Putting g.F.RowForm.formed g.F.RowForm.BYTES l.rows l.initial.out l.out l.k
