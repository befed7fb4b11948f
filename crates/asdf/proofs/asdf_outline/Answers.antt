-- Everything that the writer promises holds for the returned number.
use Rattle.std.proofs.Common.{rules}
use Rattle.asdf.proofs.WordLaws.{exported_outline}
use Rattle.asdf.proofs.asdf_outline.Goals as goal

pub returns : goal.returns
returns c = search (exported_outline, rules)
