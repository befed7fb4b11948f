use Rattle.std.proofs.Common.{rules}
use Rattle.outline.proofs.CountLaws.{count_parts, count_start, count_bad, depth_fits, count_step, count_done}
use Rattle.outline.proofs.stored.judge.Goals as goal

pub returns-then-not-is_empty : goal.returns-then-not-is_empty
returns-then-not-is_empty c = search (count_parts, rules)

pub loop-k-init : goal.loop-k-init
loop-k-init c = search (count_start, rules)

pub returns-then-not-is_row : goal.returns-then-not-is_row
returns-then-not-is_row c = search (count_bad, rules)

pub overflow_add-most : goal.overflow_add-most
overflow_add-most c = search (depth_fits, rules)

pub loop-k-preserved : goal.loop-k-preserved
loop-k-preserved c = search (count_step, rules)

pub returns : goal.returns
returns c = search (count_done, rules)
