-- `edit::edit_tree` meets its contract: the tests of an edit come in their order, and then the room is filled.
use Rattle.std.proofs.Common.{rules}
use Rattle.edit.proofs.DoneLaws.{tree_none, room_order, room_inside, text_inside, text_other, text_long, text_put}
use Rattle.edit.proofs.edit_tree.Goals as goal

pub returns-then-not-is_one_tree : goal.returns-then-not-is_one_tree
returns-then-not-is_one_tree c = search (text_other, rules)

pub fits-requires : goal.fits-requires
fits-requires c = search (room_order, rules)

pub returns-then-not-fits : goal.returns-then-not-fits
returns-then-not-fits c = search (text_long, rules)

pub slice_bounds-fill-count : goal.slice_bounds-fill-count
slice_bounds-fill-count c = search (room_order, rules)

pub slice_bounds-fill-start : goal.slice_bounds-fill-start
slice_bounds-fill-start c = search (room_order, rules)

pub slice_bounds-fill-end : goal.slice_bounds-fill-end
slice_bounds-fill-end c = search (room_inside, rules)

pub fill-requires : goal.fill-requires
fill-requires c = search (text_inside, room_inside, rules)

pub returns-in_default : goal.returns-in_default
returns-in_default c = search (tree_none, rules)

pub returns : goal.returns
returns c = search (text_put, rules)
