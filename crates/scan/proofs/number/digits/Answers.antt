use Rattle.std.proofs.Common.{rules}
use Rattle.scan.proofs.NumberLaws.{digits_other, digits_times, digits_plus, digits_step, digits_done}
use Rattle.scan.proofs.number.digits.Goals as goal

pub returns-then-not-is_ascii_digit : goal.returns-then-not-is_ascii_digit
returns-then-not-is_ascii_digit c = search (digits_other, rules)

pub overflow_mul-x : goal.overflow_mul-x
overflow_mul-x c = search (digits_times, rules)

pub overflow_add-x : goal.overflow_add-x
overflow_add-x c = search (digits_plus, rules)

pub loop-b-preserved : goal.loop-b-preserved
loop-b-preserved c = search (digits_step, rules)

pub returns : goal.returns
returns c = search (digits_done, rules)
