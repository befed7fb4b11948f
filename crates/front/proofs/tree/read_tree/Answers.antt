-- A tree begins with its first line. It ends at the offset that the walk over the following lines returns.
use Rattle.std.proofs.Common.{rules}
use Rattle.front.proofs.TreeLaws.{tree_none, tree_refused, tree_read}
use Rattle.front.proofs.tree.read_tree.Goals as goal

pub returns-in_default : goal.returns-in_default
returns-in_default c = search (tree_none, rules)

pub returns-in_err-end : goal.returns-in_err-end
returns-in_err-end c = search (tree_refused, c.in_err-end.was, rules)

pub returns : goal.returns
returns c = search (tree_read, c.in_ok-end.was, rules)
