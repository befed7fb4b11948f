-- Each verdict has its own line.
use Rattle.std.proofs.Common.{rules}
use Rattle.format.specs.Listing.{sentence, verdict_word}
use Rattle.listing.proofs.TextLaws.{verdict_put}
use Rattle.listing.proofs.text.put_verdict.Goals as goal

pub returns-in-Absent : goal.returns-in-Absent
unfolding sentence verdict_word
returns-in-Absent c = search (verdict_put, rules)

pub returns-in-Good : goal.returns-in-Good
unfolding sentence verdict_word
returns-in-Good c = search (verdict_put, rules)

pub returns-in-IgnoredForm : goal.returns-in-IgnoredForm
unfolding sentence verdict_word
returns-in-IgnoredForm c = search (verdict_put, rules)

pub returns-in-IgnoredList : goal.returns-in-IgnoredList
unfolding sentence verdict_word
returns-in-IgnoredList c = search (verdict_put, rules)
