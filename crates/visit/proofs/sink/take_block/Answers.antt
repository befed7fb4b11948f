-- `visit::sink::take_block` meets its contract: what is wanted of the block is put, and one more record has come.
use Rattle.std.proofs.Common.{rules}
use Rattle.visit.proofs.SinkLaws.{delivered_one}
use Rattle.visit.proofs.sink.take_block.Goals as goal

pub returns : goal.returns
returns c = search (delivered_one, rules)
