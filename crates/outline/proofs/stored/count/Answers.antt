-- The rows are counted, or the refusal is passed on.
use Rattle.outline.proofs.StoredLaws.{count_refused, count_rows}
use Rattle.outline.proofs.stored.count.Goals as goal

pub returns-in_err-judge : goal.returns-in_err-judge
returns-in_err-judge c = count_refused _ _ c.in_err-judge.ensures _ c.from_residual.ensures.1

pub returns : goal.returns
returns c = count_rows _ _ c.in_ok-judge.ensures
