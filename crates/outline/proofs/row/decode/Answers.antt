-- The row with the four parts that are read is written as the sixteen bytes. So it is the row in these bytes.
use Rattle.outline.proofs.RowLaws.{row_read}
use Rattle.outline.proofs.row.decode.Goals as goal

pub returns : goal.returns
returns c =
    row_read _ _ _ _ _ _ _ _ c.fits-bytes c.told-bytes c.field-front.ensures c.field.ensures c.start.ensures c.outermost.ensures c.field-2.ensures
    c.field-3.ensures
    c.of_bits.ensures
