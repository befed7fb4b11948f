-- Everything that the edit promises holds for the returned number.
use Rattle.std.proofs.Common.{rules}
use Rattle.asdf.proofs.WordLaws.{exported_edit}
use Rattle.asdf.proofs.asdf_edit.Goals as goal

pub returns : goal.returns
returns c = search (exported_edit, rules)
