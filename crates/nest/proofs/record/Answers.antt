-- `nest::record` meets its contract: a refused file has no record, and in an accepted file the record is looked for.
use Rattle.std.proofs.Common.{rules}
use Rattle.std.proofs.lemmas.Result.{err_from_is_err_and}
use Rattle.nest.proofs.EntryLaws.{record_refused, record_written}
use Rattle.nest.proofs.record.Goals as goal

pub returns-in_err-file : goal.returns-in_err-file
returns-in_err-file c =
    let p = err_from_is_err_and c.from_residual.result c.from_residual.ensures.1 in
    rw (p.1, p.2) (search (record_refused _ _ c.in_err-file.ensures, rules))

pub returns : goal.returns
returns c = search (record_written, rules)
