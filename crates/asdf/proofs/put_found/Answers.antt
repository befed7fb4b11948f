-- The numbers are put, if there are any.
use Rattle.std.proofs.Common.{rules}
use Rattle.asdf.proofs.AnswerLaws.{none_put, some_put}
use Rattle.asdf.proofs.put_found.Goals as goal

pub returns-in-None : goal.returns-in-None
returns-in-None g c = search (none_put, rules)

pub returns-in-Some : goal.returns-in-Some
returns-in-Some g c = search (some_put, rules)
