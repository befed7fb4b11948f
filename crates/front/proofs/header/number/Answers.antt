-- A number of four digits fits into 16 bits.
use Rattle.std.proofs.Common.{rules}
use Rattle.front.proofs.HeaderLaws.{part_fits}
use Rattle.front.proofs.header.number.Goals as goal

pub overflow_cast-result : goal.overflow_cast-result
overflow_cast-result c = search (part_fits, rules)
