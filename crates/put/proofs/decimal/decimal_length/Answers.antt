-- The library says how many digits come after the first.
use Rattle.std.proofs.Common.{rules}
use Rattle.put.proofs.DecimalLaws.{length_some, length_none}
use Rattle.put.proofs.decimal.decimal_length.Goals as goal

pub returns-in-Some : goal.returns-in-Some
returns-in-Some c = search (length_some, rules)

pub returns-in-None : goal.returns-in-None
returns-in-None c = search (length_none, rules)
