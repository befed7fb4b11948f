-- The line is made in a buffer of its own and written from there.
use Rattle.std.proofs.Common.{rules}
use Rattle.put.proofs.WrittenLaws.{own_inside, own_length}
use Rattle.listing.proofs.ListLaws.{line_written}
use Rattle.listing.proofs.write_refused.Goals as goal

pub slice_bounds-own-end : goal.slice_bounds-own-end
slice_bounds-own-end c = search (own_inside, rules)

pub slice_bounds-write_text-end : goal.slice_bounds-write_text-end
slice_bounds-write_text-end c = search (own_length, rules)

pub returns : goal.returns
returns c = search (line_written, rules)
