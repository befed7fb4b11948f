use Rattle.std.proofs.Common.{rules}
use Rattle.front.proofs.TreeLaws.{directives_unended, directives_done, directives_other, directives_step}
use Rattle.front.proofs.tree.directives_end.Goals as goal

pub returns : goal.returns
returns c = search (directives_unended, rules)

pub returns-then-is_start : goal.returns-then-is_start
returns-then-is_start c = search (directives_done, rules)

pub returns-then-not-is_directive : goal.returns-then-not-is_directive
returns-then-not-is_directive c = search (directives_other, rules)

pub loop-line-preserved : goal.loop-line-preserved
loop-line-preserved c = search (directives_step, rules)
