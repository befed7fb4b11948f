use Rattle.std.proofs.Common.{rules}
use Rattle.mark.proofs.PlainLaws.{mark_none, mark_here, mark_step}
use Rattle.mark.proofs.plain.free_space.Goals as goal
use Rattle.mark.proofs.plain.free_space.Goals.{then-t-i-via-then-t-i, then-t-i-via-else-t-i+then-is_mark}

pub returns-then-t-i : goal.returns-then-t-i
returns-then-t-i c =
    elim c.then-t-i.branch [
      | then-t-i-via-then-t-i w ↦ search (mark_none, rules)
      | then-t-i-via-else-t-i+then-is_mark w ↦ search (mark_here, rules)
    ]

pub loop-i-preserved : goal.loop-i-preserved
loop-i-preserved c = search (mark_step, rules)
