-- `visit::sink::put_record` meets its contract: a record is put as its numbers.
use Rattle.std.proofs.Common.{rules}
use Rattle.visit.proofs.SinkLaws.{record_put}
use Rattle.visit.proofs.sink.put_record.Goals as goal

pub returns : goal.returns
returns c = search (record_put, rules)
