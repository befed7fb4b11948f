-- `nest::walk::opened` meets its contract: the offsets that are taken are those of the file.
use Rattle.std.proofs.Common.{rules}
use Rattle.file.proofs.LayoutLaws.{kept_opens, kept_enough}
use lib.Seq.{length-take-le}
use Rattle.nest.proofs.walk.opened.Goals as goal

pub slice_bounds-result-end : goal.slice_bounds-result-end
slice_bounds-result-end c = search (kept_enough, rules)

pub invariant_of-result : goal.invariant_of-result
invariant_of-result c = search (kept_opens, rules)

pub returns-clause-blocks : goal.returns-clause-blocks
returns-clause-blocks c = search (length-take-le, kept_enough, rules)
