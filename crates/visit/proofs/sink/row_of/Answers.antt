-- `visit::sink::row_of` meets its contract: what the row states about the block's header is in the summary.
use Rattle.std.proofs.Common.{rules}
use Rattle.visit.proofs.SinkLaws.{row_made}
use Rattle.visit.proofs.sink.row_of.Goals as goal

pub returns : goal.returns
returns c = search (row_made, rules)
