-- `nest::count` meets its contract: a refused file has no count, and the records of an accepted file are counted.
use Rattle.std.proofs.Common.{rules}
use Rattle.std.proofs.lemmas.Result.{err_from_is_err_and}
use Rattle.nest.proofs.EntryLaws.{count_refused, count_accepted}
use Rattle.nest.proofs.count.Goals as goal

pub returns-in_err-file : goal.returns-in_err-file
returns-in_err-file c =
    let p = err_from_is_err_and c.from_residual.result c.from_residual.ensures.1 in
    rw (p.1, p.2) (search (count_refused _ _ c.in_err-file.ensures, rules))

pub returns : goal.returns
returns c = search (count_accepted, rules)
