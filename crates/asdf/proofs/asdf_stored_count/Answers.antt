-- The count, or the refusal, is returned.
use Rattle.std.proofs.Common.{rules}
use Rattle.format.proofs.NumberedLaws.{numbered_stored_count}
use Rattle.asdf.proofs.CountLaws.{stored_count_few}
use Rattle.asdf.proofs.WordLaws.{returned_count}
use Rattle.asdf.proofs.asdf_stored_count.Goals as goal

pub returns : goal.returns
returns c = search (returned_count, stored_count_few, numbered_stored_count, rules)
