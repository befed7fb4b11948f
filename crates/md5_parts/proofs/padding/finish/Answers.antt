use Rattle.std.proofs.Common.{rules, sym, arith, length-take, length-take-le}
use Rattle.md5_parts.proofs.PaddingLaws.{one_last, two_last}
use Rattle.md5_parts.proofs.padding.finish.Goals as goal

pub slice_bounds-joined-end-then-held-lt56 : goal.slice_bounds-joined-end-then-held-lt56
slice_bounds-joined-end-then-held-lt56 c = sym (length-take-le 56 c.joined-block.result (search rules))

pub joined-requires : goal.joined-requires
joined-requires c = simp length-take (omega arith)

pub returns-then-held-lt56 : goal.returns-then-held-lt56
returns-then-held-lt56 c = search (one_last, rules)

pub returns : goal.returns
returns c = search (two_last, rules)
