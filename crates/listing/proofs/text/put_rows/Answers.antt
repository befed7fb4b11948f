use Rattle.std.proofs.Common.{rules}
use Rattle.listing.proofs.TextLaws.{row_there, row_in_put, rows_start, rows_step, rows_done}
use Rattle.listing.proofs.text.put_rows.Goals as goal

pub loop-bytes-init : goal.loop-bytes-init
loop-bytes-init c = search (rows_start, rules)

pub unwrap-requires : goal.unwrap-requires
unwrap-requires c = search (row_there, rules)

pub loop-bytes-preserved : goal.loop-bytes-preserved
loop-bytes-preserved c = search (rows_step, row_in_put, rules)

pub returns : goal.returns
returns c = search (rows_done, rules)
