-- There are two cases: there are too many offsets, or the text is made and copied.
use Rattle.std.proofs.Common.{rules}
use Rattle.put.proofs.WrittenLaws.{own_inside, own_length}
use Rattle.index.proofs.TextLaws.{index_many, index_own}
use Rattle.index.proofs.text.write.Goals as goal

pub returns-then-offsets-gt-MOST_BLOCKS : goal.returns-then-offsets-gt-MOST_BLOCKS
returns-then-offsets-gt-MOST_BLOCKS c = search (index_many, rules)

pub slice_bounds-own-end : goal.slice_bounds-own-end
slice_bounds-own-end c = search (own_inside, rules)

pub slice_bounds-write_text-end : goal.slice_bounds-write_text-end
slice_bounds-write_text-end c = search (own_length, rules)

pub returns : goal.returns
returns c = search (index_own, rules)
