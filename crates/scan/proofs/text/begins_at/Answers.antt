-- The bytes from the offset on, if there are as many as the word has, are compared with the word.
use Rattle.std.proofs.Common.{rules}
use Rattle.scan.proofs.TextLaws.{begins_past, begins_front, begins_long}
use Rattle.scan.proofs.text.begins_at.Goals as goal

pub returns-then-s-at : goal.returns-then-s-at
returns-then-s-at c = search (begins_past, rules)

pub returns-then-word-rest : goal.returns-then-word-rest
returns-then-word-rest c = search (begins_front, rules)

pub returns-else-word-rest : goal.returns-else-word-rest
returns-else-word-rest c = search (begins_long, rules)
