use Rattle.std.proofs.Common.{rules}
use Rattle.octets.proofs.SearchLaws.{search_short, search_found, search_end}
use Rattle.octets.proofs.find.Goals as goal

pub returns-then-end-from-clause-value : goal.returns-then-end-from-clause-value
returns-then-end-from-clause-value c = search (search_short, rules)

pub returns-in-Some-clause-value : goal.returns-in-Some-clause-value
returns-in-Some-clause-value c = search (search_found, rules)

pub returns-in-None-clause-value : goal.returns-in-None-clause-value
returns-in-None-clause-value c = search (search_end, rules)
