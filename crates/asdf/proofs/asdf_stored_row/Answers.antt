-- The answer of the writer is returned as one number.
use Rattle.std.proofs.Common.{rules}
use Rattle.format.proofs.NumberedLaws.{numbered_stored_at}
use Rattle.asdf.proofs.WordLaws.{exported_written}
use Rattle.asdf.proofs.asdf_stored_row.Goals as goal

pub returns : goal.returns
returns c = search (exported_written, numbered_stored_at, rules)
