-- The invariant: the rows from row `bytes-index` on remain to be put.
use Rattle.listing.proofs.TextLaws.{Rows}
use Rattle.listing.proofs.text.put_rows.Given as goal

abbrev pub invariant-loop-bytes : goal.invariant-loop-bytes
invariant-loop-bytes l = Rows l.initial.out l.at l.b l.out l.end l.bytes-index
