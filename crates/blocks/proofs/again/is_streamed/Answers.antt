-- `blocks::again::is_streamed` meets its contract: if there is a header, its flags decide.
use Rattle.std.proofs.Common.{rules}
use Rattle.blocks.proofs.AgainLaws.{streamed_blank, streamed_told}
use Rattle.blocks.proofs.again.is_streamed.Goals as goal

pub returns-then-t-lt-LEAST_BLOCK : goal.returns-then-t-lt-LEAST_BLOCK
returns-then-t-lt-LEAST_BLOCK c = search (streamed_blank, rules)

pub returns : goal.returns
returns c = search (streamed_told, rules)
