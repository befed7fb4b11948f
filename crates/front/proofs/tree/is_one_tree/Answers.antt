-- A text is exactly one tree if its lines are those of a tree and the last of them ends it.
use Rattle.std.proofs.Common.{rules}
use Rattle.std.proofs.iter.Serving.{serving}
use Rattle.front.proofs.TreeLaws.{one_tree_none, one_tree_walked}
use Rattle.front.proofs.tree.is_one_tree.Goals as goal

pub returns-in_default : goal.returns-in_default
returns-in_default c = search (one_tree_none, rules)

pub returns : goal.returns
returns c =
    let h = one_tree_walked c.args.t.now _ c.yaml_line.ensures _ _ c.in-Some.is _ c.directives_end.ensures c.is_ok_and.result in
    grind (serving, h)
