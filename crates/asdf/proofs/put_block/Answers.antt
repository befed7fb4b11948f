-- The refusal is passed on, or the numbers of what was found are put.
use Rattle.format.specs.Fields.{block_fields}
use Rattle.asdf.proofs.AnswerLaws.{found_refused, found_put}
use Rattle.asdf.proofs.put_block.Goals as goal

pub returns-in_err-block : goal.returns-in_err-block
returns-in_err-block c = found_refused block_fields _ _ _ c.in_err-block.ensures _ c.from_residual.ensures.1

pub returns : goal.returns
returns c = found_put block_fields _ _ _ c.in_ok-block.ensures _ c.map.ensures.cases _ _ c.put_found.ensures
