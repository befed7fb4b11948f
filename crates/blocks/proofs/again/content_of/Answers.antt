-- `blocks::again::content_of` meets its contract: if the content is not inside, there is none.
use Rattle.std.proofs.Common.{rules}
use Rattle.blocks.proofs.AgainLaws.{content_blank, content_cut, content_beyond, content_fits, content_made}
use Rattle.blocks.proofs.again.content_of.Goals as goal

pub returns-then-t-lt-LEAST_BLOCK : goal.returns-then-t-lt-LEAST_BLOCK
returns-then-t-lt-LEAST_BLOCK c = search (content_blank, rules)

pub returns-then-t-from : goal.returns-then-t-from
returns-then-t-from c = search (content_cut, rules)

pub returns-then-t-from-2 : goal.returns-then-t-from-2
returns-then-t-from-2 c = search (content_beyond, rules)

pub overflow_add-result : goal.overflow_add-result
overflow_add-result c = search (content_fits, rules)

pub returns : goal.returns
returns c = search (content_made, rules)
