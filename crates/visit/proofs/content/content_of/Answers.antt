-- `visit::content::content_of` meets its contract. There is one law for each return.
use Rattle.std.proofs.Common.{rules}
use Rattle.visit.proofs.ContentLaws.{content_compressed, content_plain, content_deep, content_refused, content_opened}
use Rattle.visit.proofs.content.content_of.Goals as goal

pub returns-then-compressed : goal.returns-then-compressed
returns-then-compressed c = search (content_compressed, rules)

pub returns-then-not-begins_at : goal.returns-then-not-begins_at
returns-then-not-begins_at c = search (content_plain, rules)

pub returns-then-depth-ge-DEEPEST : goal.returns-then-depth-ge-DEEPEST
returns-then-depth-ge-DEEPEST c = search (content_deep, rules)

pub returns-in-Err : goal.returns-in-Err
returns-in-Err c = search (content_refused, rules)

pub returns-in-Ok : goal.returns-in-Ok
returns-in-Ok c = search (content_opened, rules)
