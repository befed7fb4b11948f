-- One law for each return.
use Rattle.std.proofs.Common.{rules}
use Rattle.index.proofs.FormLaws.{after_inside, end_other, end_zeros}
use Rattle.index.proofs.form.ends_at.Goals as goal

pub returns-in_default : goal.returns-in_default
returns-in_default c = search (end_other, rules)

pub slice_bounds-only_zeros-count : goal.slice_bounds-only_zeros-count
slice_bounds-only_zeros-count c = search (after_inside, rules)

pub slice_bounds-only_zeros-start : goal.slice_bounds-only_zeros-start
slice_bounds-only_zeros-start c = search (after_inside, rules)

pub returns : goal.returns
returns c = search (end_zeros, rules)
