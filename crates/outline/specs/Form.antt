-- Rows in a form.
use Rattle.std.specs.Prelude.{◌≡◌, List, length}
use mathlib.Core.List.{flat_map}
use Rattle.format.specs.declared.row.Row.{Row}
use Rattle.format.specs.Bytes.{Bytes}
use Rattle.format.specs.Outcome.{Outcome, accepted, ◌>>=◌}
use Rattle.format.specs.Fields.{encode_stored_row, row_fields, stored_row_bytes}
use Rattle.format.specs.Outline.{stored}
use Rattle.put.proofs.NumberLaws.{numbers_length}

-- Rows one after another; the form gives the bytes of each.
unfoldable pub rows_in_form : (Row → Bytes) → List Row → Bytes
rows_in_form form rs = flat_map form rs

-- The rows of a stored outline in a form.
unfoldable pub stored_in : (Row → Bytes) → Bytes → Outcome Bytes
stored_in form b = do
  rs ← stored b
  accepted (rows_in_form form rs)

-- The numbers of a stored row always take 80 bytes.
pub numbers_long : (r : Row) → length (encode_stored_row r) ≡ stored_row_bytes
unfolding encode_stored_row
numbers_long r = numbers_length (row_fields r)
