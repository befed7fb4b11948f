use Rattle.std.proofs.Common.{rules}
use Rattle.front.proofs.TreeLaws.{content_unended, content_done, content_start_lem, content_step}
use Rattle.front.proofs.tree.content_end.Goals as goal

pub returns : goal.returns
returns c = search (content_unended, rules)

pub returns-then-is : goal.returns-then-is
returns-then-is c = search (content_done, rules)

pub returns-then-is_start : goal.returns-then-is_start
returns-then-is_start c = search (content_start_lem, rules)

pub loop-line-preserved : goal.loop-line-preserved
loop-line-preserved c = search (content_step, rules)
