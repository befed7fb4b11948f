-- If the rows of an outline are written as they are stored, then the result is the same outline.
use Rattle.std.proofs.Common.{rules}
use Rattle.outline.proofs.WriteLaws.{written_again}
use Rattle.outline.proofs.stored.rewrite.Goals as goal

pub returns : goal.returns
returns c = search (written_again, rules)
