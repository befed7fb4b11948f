-- `file::layout::open_kept` meets its contract: the offsets that are taken are those of the file.
use Rattle.std.proofs.Common.{rules}
use Rattle.file.proofs.LayoutLaws.{kept_opens}
use Rattle.file.proofs.layout.open_kept.Goals as goal

pub invariant_of-result : goal.invariant_of-result
invariant_of-result c = search (kept_opens, rules)
