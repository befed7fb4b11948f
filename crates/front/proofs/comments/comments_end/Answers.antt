use Rattle.std.proofs.Common.{rules}
use Rattle.front.proofs.CommentsLaws.{comments_done, comments_unended, comments_index, comments_step}
use Rattle.front.proofs.comments.comments_end.Goals as goal

pub returns-in_default : goal.returns-in_default
returns-in_default c = search (comments_unended, rules)

pub returns-then-is : goal.returns-then-is
returns-then-is c = search (comments_index, rules)

pub loop-line-preserved : goal.loop-line-preserved
loop-line-preserved c = search (comments_step, rules)

pub returns : goal.returns
returns c = search (comments_done, rules)
