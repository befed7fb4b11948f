-- `file::layout::read` meets its contract: the right answer for the file states its layout, or its refusal.
use Rattle.std.proofs.Common.{rules}
use Rattle.file.proofs.LayoutLaws.{layout_judged}
use Rattle.file.proofs.layout.read.Goals as goal

pub returns : goal.returns
returns c = search (layout_judged, rules)
