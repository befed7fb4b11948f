-- The text before the list is put first, then the list, then the text after it.
use Rattle.std.proofs.Common.{rules}
use Rattle.index.proofs.TextLaws.{index_put}
use Rattle.index.proofs.text.put_index.Goals as goal

pub returns : goal.returns
returns c = search (index_put, rules)
