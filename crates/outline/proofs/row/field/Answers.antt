-- The bytes from the offset give the number.
use Rattle.std.proofs.Common.{rules}
use Rattle.outline.proofs.RowLaws.{field_read}
use Rattle.outline.proofs.row.field.Goals as goal

pub returns : goal.returns
returns c = search (field_read, rules)
