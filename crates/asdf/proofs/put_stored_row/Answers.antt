-- The refusal is passed on, or the numbers of what was found are put.
use Rattle.format.specs.Fields.{row_fields}
use Rattle.asdf.proofs.AnswerLaws.{found_refused, found_put}
use Rattle.asdf.proofs.put_stored_row.Goals as goal

pub returns-in_err-row : goal.returns-in_err-row
returns-in_err-row c = found_refused row_fields _ _ _ c.in_err-row.ensures _ c.from_residual.ensures.1

pub returns : goal.returns
returns c = found_put row_fields _ _ _ c.in_ok-row.ensures _ c.map.ensures.cases _ _ c.put_found.ensures
