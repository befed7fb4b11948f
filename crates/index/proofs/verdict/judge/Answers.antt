-- The verdict is what the answer of the comparison stands for.
use Rattle.std.proofs.Common.{rules}
use Rattle.index.proofs.ListLaws.{judged_compared}
use Rattle.index.proofs.verdict.judge.Goals as goal

pub returns-in-None : goal.returns-in-None
returns-in-None c = judged_compared _ _ _ c.compare.ensures _ c.in-None.is

pub returns-in-Some-true : goal.returns-in-Some-true
returns-in-Some-true c = search (judged_compared _ _ _ c.compare.ensures _ c.in-Some-true.is, rules)

pub returns-in-Some-false : goal.returns-in-Some-false
returns-in-Some-false c = search (judged_compared _ _ _ c.compare.ensures _ c.in-Some-false.is, rules)
