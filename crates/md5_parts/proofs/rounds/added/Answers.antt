-- The four sums are those of the definition.
use Rattle.md5_parts.specs.Md5.{added}
use Rattle.md5_parts.proofs.rounds.added.Goals as goal

pub returns : goal.returns
unfolding added
returns c = cc
