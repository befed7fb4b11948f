-- A file that is too long gives one line. Otherwise the layout and the outline decide what is written.
use Rattle.std.proofs.Common.{rules}
use Rattle.listing.proofs.ListLaws.{listed_long, outlined_by}
use Rattle.listing.proofs.list.Goals as goal

pub returns-then-s-gt-MOST_INPUT : goal.returns-then-s-gt-MOST_INPUT
returns-then-s-gt-MOST_INPUT c = search (listed_long, rules)

pub list_outlined-requires : goal.list_outlined-requires
list_outlined-requires c = search (outlined_by, rules)
