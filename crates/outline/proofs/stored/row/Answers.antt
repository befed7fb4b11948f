-- The row is read from its sixteen bytes, or the refusal is passed on.
use Rattle.outline.proofs.StoredLaws.{row_refused, row_found}
use Rattle.outline.proofs.stored.row.Goals as goal

pub returns-in_err-judge : goal.returns-in_err-judge
returns-in_err-judge c = row_refused _ _ c.in_err-judge.ensures _ _ c.from_residual.ensures.1

pub returns : goal.returns
returns c = let part = c.get.ensures.lookup in row_found _ _ c.in_ok-judge.ensures _ _ _ part.3 part.1 c.map.ensures.cases
