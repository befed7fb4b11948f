-- The numbers of the inner state, of its refusal and of the block are among the numbers of the record.
use Rattle.std.proofs.Common.{rules}
use Rattle.fields.proofs.FieldLaws.{record_numbers}
use Rattle.fields.proofs.record_fields.Goals as goal

pub returns : goal.returns
returns c = search (record_numbers, rules)
