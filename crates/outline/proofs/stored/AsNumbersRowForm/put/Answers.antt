-- The numbers of a row are put.
use Rattle.std.proofs.Common.{rules}
use Rattle.format.specs.Fields.{encode_stored_row}
use Rattle.outline.proofs.stored.AsNumbersRowForm.put.Goals as goal

pub returns : goal.returns
unfolding encode_stored_row
returns c = search rules
