-- The numbers of a row are put as a line.
use Rattle.std.proofs.Common.{rules}
use Rattle.listing.proofs.TextLaws.{row_put}
use Rattle.listing.proofs.text.put_row.Goals as goal

pub returns : goal.returns
returns c = search (row_put, rules)
