-- Everything that the writer promises holds for the returned number.
use Rattle.std.proofs.Common.{rules}
use Rattle.asdf.proofs.WordLaws.{exported_index}
use Rattle.asdf.proofs.asdf_index.Goals as goal

pub returns : goal.returns
returns c = search (exported_index, rules)
