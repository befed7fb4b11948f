-- If too few bytes are left for a mark, there is none.
use Rattle.std.proofs.Common.{rules}
use Rattle.mark.proofs.MarkLaws.{no_mark_left}
use Rattle.mark.proofs.is_mark.Goals as goal

pub returns-else-enough : goal.returns-else-enough
returns-else-enough c = search (no_mark_left, rules)
