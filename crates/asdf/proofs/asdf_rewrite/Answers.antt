-- Everything that the writer promises holds for the returned number.
use Rattle.std.proofs.Common.{rules}
use Rattle.asdf.proofs.WordLaws.{exported_rewrite}
use Rattle.asdf.proofs.asdf_rewrite.Goals as goal

pub returns : goal.returns
returns c = search (exported_rewrite, rules)
