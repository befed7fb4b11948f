-- The four numbers of the tree are among the numbers of the layout.
use Rattle.std.proofs.Common.{rules}
use Rattle.fields.proofs.FieldLaws.{layout_four}
use Rattle.fields.proofs.layout_fields.Goals as goal

pub returns : goal.returns
returns c = search (layout_four, rules)
