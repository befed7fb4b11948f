-- Either the outline or the text does not fit, or both are put.
use Rattle.std.proofs.Common.{rules}
use Rattle.listing.proofs.ListLaws.{outline_long, text_long, both_put}
use Rattle.listing.proofs.write_both.Goals as goal

pub returns-then-rows-b : goal.returns-then-rows-b
returns-then-rows-b c = search (outline_long, rules)

pub returns-then-out-n : goal.returns-then-out-n
returns-then-out-n c = search (text_long, rules)

pub returns : goal.returns
returns c = search (both_put, rules)
