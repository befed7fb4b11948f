-- The four rules of a stored row are tested in their order.
use Rattle.std.proofs.Common.{arith}
use Rattle.std.proofs.lemmas.Grind.{common_steps}
use Rattle.format.specs.Outline.{is_row}
use Rattle.outline.proofs.stored.is_row.Goals as goal

pub returns-then-r : goal.returns-then-r
unfolding is_row
returns-then-r c = grind (arith, common_steps)

pub returns-else-r : goal.returns-else-r
unfolding is_row
returns-else-r c = grind (arith, common_steps)
