-- The rows in the form of numbers are what is promised.
use Rattle.std.proofs.Common.{rules}
use Rattle.format.specs.Fields.{stored_rows}
use Rattle.outline.specs.Form.{rows_in_form, stored_in}
use Rattle.outline.proofs.stored.rows.Goals as goal

pub returns : goal.returns
unfolding stored_rows stored_in rows_in_form
returns c = search rules
