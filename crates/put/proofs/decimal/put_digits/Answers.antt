use Rattle.std.proofs.Common.{rules, arith}
use Rattle.put.proofs.DecimalLaws.{digits_step, digits_last, digits_first, digits_done}
use Rattle.put.proofs.decimal.put_digits.Goals as goal

pub loop-place-preserved : goal.loop-place-preserved
loop-place-preserved c = search (digits_step, rules)

pub overflow_cast-out-2 : goal.overflow_cast-out-2
overflow_cast-out-2 c = omega (arith, digits_last _ _ _ _ _ _ c.loop-place.invariant c.loop-place-test.false)

pub overflow_add-out-2 : goal.overflow_add-out-2
overflow_add-out-2 c = omega (arith, digits_last _ _ _ _ _ _ c.loop-place.invariant c.loop-place-test.false)

pub bounds-out-at : goal.bounds-out-at
bounds-out-at c = search (digits_first, rules)

pub returns : goal.returns
returns c = search (digits_done, rules)
