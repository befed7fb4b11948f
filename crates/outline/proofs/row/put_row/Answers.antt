-- If the row does not fit, nothing changes. If it fits, its four parts are put.
use Rattle.std.proofs.Common.{rules}
use Rattle.put.proofs.PutLaws.{placed_outside}
use Rattle.outline.proofs.RowLaws.{row_long, row_placed}
use Rattle.outline.proofs.row.put_row.Goals as goal

pub returns-then-out-at : goal.returns-then-out-at
returns-then-out-at c = search (placed_outside, rules)

pub returns-then-out-at-lt-ROW_BYTES : goal.returns-then-out-at-lt-ROW_BYTES
returns-then-out-at-lt-ROW_BYTES c = search (row_long, rules)

pub returns : goal.returns
returns c =
    row_placed _ _ _ _ _ _ _ _ _
    c.put_number-4.ensures
    c.put_number-3.ensures
    c.put_number-2.ensures
    c.put_number.ensures
    c.front.ensures
    c.number.ensures
    (search rules)
    (search rules)
