-- The answer of the writer is returned as one number.
use Rattle.std.proofs.Common.{rules}
use Rattle.format.proofs.NumberedLaws.{numbered_record_at}
use Rattle.asdf.proofs.WordLaws.{exported_written}
use Rattle.asdf.proofs.asdf_record.Goals as goal

pub returns : goal.returns
returns c = search (exported_written, numbered_record_at, rules)
