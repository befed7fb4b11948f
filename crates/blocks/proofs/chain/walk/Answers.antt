-- `blocks::chain::walk` meets its contract: after the end of the file there are no blocks; otherwise the answer of
-- `walk_inside` is passed on, and a refusal leaves only zeros in the table.
use Rattle.std.proofs.Common.{rules}
use Rattle.blocks.proofs.ChainLaws.{walk_outside, told_walked, told_refused}
use Rattle.blocks.proofs.chain.walk.Goals as goal

pub returns-then-s-first : goal.returns-then-s-first
returns-then-s-first c = search (walk_outside, rules)

pub returns-then-is_err : goal.returns-then-is_err
returns-then-is_err c = search (told_refused, rules)

pub returns-else-is_err : goal.returns-else-is_err
returns-else-is_err c = search (told_walked, rules)
