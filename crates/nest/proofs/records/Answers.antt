-- `nest::records` meets its contract: a refused file has no records, and the records of an accepted file are written.
use Rattle.std.proofs.Common.{rules}
use Rattle.std.proofs.lemmas.Result.{err_from_is_err_and}
use Rattle.nest.proofs.EntryLaws.{table_refused, table_written}
use Rattle.nest.proofs.records.Goals as goal

pub returns-in_err-file : goal.returns-in_err-file
returns-in_err-file c =
    let p = err_from_is_err_and c.from_residual.result c.from_residual.ensures.1 in
    rw (p.1, p.2) (search (table_refused _ _ c.in_err-file.ensures, rules))

pub returns : goal.returns
returns c = table_written _ c.in_ok-file.file c.in_ok-file.ensures.1 _ _ _ c.write.ensures
