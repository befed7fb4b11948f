-- `blocks::chain::next_mark` meets its contract: a mark is there immediately, there is none because an index begins, or
-- the first mark is found.
use Rattle.std.proofs.Common.{rules}
use Rattle.blocks.proofs.ChainLaws.{next_at_once, next_at_index, next_found}
use Rattle.blocks.proofs.chain.next_mark.Goals as goal

pub returns-then-is_mark : goal.returns-then-is_mark
returns-then-is_mark c = search (next_at_once, rules)

pub returns-then-is_index : goal.returns-then-is_index
returns-then-is_index c = search (next_at_index, rules)

pub returns : goal.returns
returns c = search (next_found, rules)
