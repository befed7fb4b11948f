-- `nest::count_in` meets its contract: all records are counted.
use Rattle.std.proofs.Common.{rules}
use Rattle.file.proofs.LayoutLaws.{open_is_kept}
use Rattle.nest.proofs.EntryLaws.{counted}
use Rattle.nest.proofs.count_in.Goals as goal

pub returns : goal.returns
returns c = search (counted (open_is_kept _ _ c.args.file.kept), rules)
