-- `visit::sink::place_of` meets its contract: there is no place, a place for a row, or a place for the numbers.
use Rattle.std.proofs.Common.{rules}
use Rattle.visit.proofs.SinkLaws.{no_row, no_numbers, other_wanted, this_wanted, row_place, numbers_place}
use Rattle.visit.proofs.sink.place_of.Goals as goal

pub returns-then-room-n : goal.returns-then-room-n
returns-then-room-n c = search (no_row, rules)

pub returns-then-room-n-2 : goal.returns-then-room-n-2
returns-then-room-n-2 c = search (no_numbers, rules)

pub returns-then-wanted-n : goal.returns-then-wanted-n
returns-then-wanted-n c = search (other_wanted, rules)

pub returns-else-room-n : goal.returns-else-room-n
returns-else-room-n c = search (row_place, rules)

pub returns-else-room-n-2 : goal.returns-else-room-n-2
returns-else-room-n-2 c = search (numbers_place, rules)

pub returns-else-wanted-n : goal.returns-else-wanted-n
returns-else-wanted-n c = search (this_wanted, rules)
