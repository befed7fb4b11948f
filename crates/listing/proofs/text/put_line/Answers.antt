-- The numbers are put after the text, and a line end after them.
use Rattle.std.proofs.Common.{rules}
use Rattle.listing.proofs.TextLaws.{line_put}
use Rattle.listing.proofs.text.put_line.Goals as goal

pub returns : goal.returns
returns c = search (line_put, rules)
