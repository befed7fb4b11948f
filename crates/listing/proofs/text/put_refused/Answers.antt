-- The line is a word and two numbers.
use Rattle.std.proofs.Common.{rules}
use Rattle.listing.proofs.TextLaws.{refused_put}
use Rattle.listing.proofs.text.put_refused.Goals as goal

pub returns : goal.returns
returns c = search (refused_put, rules)
