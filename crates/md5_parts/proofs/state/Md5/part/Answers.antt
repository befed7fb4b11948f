use Rattle.std.proofs.Common.{arith}
use Rattle.md5_parts.proofs.PartLaws.{part_long, part_taken}
use Rattle.md5_parts.proofs.state.Md5.part.Goals as goal

pub returns-then-saturating_add : goal.returns-then-saturating_add
returns-then-saturating_add c = part_long _ _ (omega arith) _ c.new.ensures

pub returns : goal.returns
returns c = part_taken _ _ (omega arith) _ c.add.ensures
