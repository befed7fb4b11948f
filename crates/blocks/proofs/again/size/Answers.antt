-- `blocks::again::size` meets its contract: for a streamed block it is the bytes left, otherwise the stored size.
use Rattle.std.proofs.Common.{rules}
use Rattle.blocks.proofs.AgainLaws.{size_streamed, size_stored}
use Rattle.blocks.proofs.again.size.Goals as goal

pub returns-then-field-eq1 : goal.returns-then-field-eq1
returns-then-field-eq1 c = search (size_streamed, rules)

pub returns : goal.returns
returns c = search (size_stored, rules)
