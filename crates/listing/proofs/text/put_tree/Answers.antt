-- There are two kinds of line: one for no tree, and one for a tree.
use Rattle.std.proofs.Common.{rules}
use Rattle.listing.proofs.TextLaws.{no_tree_put, tree_put}
use Rattle.listing.proofs.text.put_tree.Goals as goal

pub returns-in-None : goal.returns-in-None
returns-in-None c = search (no_tree_put, rules)

pub returns-in-Some : goal.returns-in-Some
returns-in-Some c = search (tree_put, rules)
