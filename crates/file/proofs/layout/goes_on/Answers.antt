-- `file::layout::goes_on` meets its contract. There is one law for each return.
use Rattle.std.proofs.Common.{rules}
use Rattle.file.proofs.LayoutLaws.{goes_tree, goes_end, goes_mark}
use Rattle.file.proofs.layout.goes_on.Goals as goal

pub returns-then-is_some : goal.returns-then-is_some
returns-then-is_some c = search (goes_tree, rules)

pub returns-then-s-at : goal.returns-then-s-at
returns-then-s-at c = search (goes_end, rules)

pub returns : goal.returns
returns c = search (goes_mark, rules)
