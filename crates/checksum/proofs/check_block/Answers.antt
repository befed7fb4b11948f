use Rattle.std.proofs.Common.{rules}
use Rattle.checksum.proofs.CheckLaws.{not_stated, data_differs, data_agrees}
use Rattle.checksum.proofs.check_block.Goals as goal

pub returns-then-not-has_checksum : goal.returns-then-not-has_checksum
returns-then-not-has_checksum c = search (not_stated, rules)

pub returns-then-is_checksum : goal.returns-then-is_checksum
returns-then-is_checksum c = search (data_agrees, rules)

pub returns-else-is_checksum : goal.returns-else-is_checksum
returns-else-is_checksum c = search (data_differs, rules)
