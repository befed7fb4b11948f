-- `edit::edit` meets its contract: the file's layout is read, and the tree in it is edited.
use Rattle.std.proofs.Common.{rules}
use Rattle.std.proofs.lemmas.Result.{err_from_is_err_and}
use Rattle.edit.proofs.DoneLaws.{edit_refused, edit_accepted}
use Rattle.edit.proofs.edit.Goals as goal

pub edit_tree-requires : goal.edit_tree-requires
edit_tree-requires c = search (edit_accepted, c.in_ok-layout.was, rules)

pub returns-in_err-layout : goal.returns-in_err-layout
returns-in_err-layout c =
    let p = err_from_is_err_and c.from_residual.result c.from_residual.ensures.1 in
    rw (p.1, p.2) (search (edit_refused, c.in_err-layout.was, rules))
