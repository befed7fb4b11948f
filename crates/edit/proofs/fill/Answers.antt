-- `edit::fill` meets its contract: the text is copied to the start of the room, and spaces are put after it.
use Rattle.std.proofs.Common.{rules}
use Rattle.edit.proofs.FillLaws.{fill_done}
use Rattle.edit.proofs.fill.Goals as goal

pub returns : goal.returns
returns c = search (fill_done, rules)
