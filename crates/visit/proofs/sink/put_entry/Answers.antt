-- `visit::sink::put_entry` meets its contract: nothing is put, a row is put, or the numbers are put.
use Rattle.std.proofs.Common.{rules}
use Rattle.visit.proofs.SinkLaws.{put_nowhere, put_row, put_numbers}
use Rattle.visit.proofs.sink.put_entry.Goals as goal

pub returns-in-None : goal.returns-in-None
returns-in-None c = search (put_nowhere, rules)

pub returns-in-Some-Row : goal.returns-in-Some-Row
returns-in-Some-Row c = search (put_row, rules)

pub returns-in-Some-Numbers : goal.returns-in-Some-Numbers
returns-in-Some-Numbers c = search (put_numbers, rules)
