-- Each test is one that a numeral passes. If all are passed, the result is the number of the digits.
use Rattle.std.proofs.Common.{rules, arith}
use Rattle.scan.proofs.NumberLaws.{numeral_empty, numeral_long, numeral_zero, numeral_read}
use Rattle.scan.proofs.number.numeral.Goals as goal
use Rattle.scan.proofs.number.numeral.Goals.{then-is_empty-via-then-is_empty, then-is_empty-via-else-is_empty+then-min-t, then-is_empty-via-else-is_empty+else-min-t+then-not-leads_well}

pub returns-then-is_empty : goal.returns-then-is_empty
returns-then-is_empty c =
    elim c.then-is_empty.branch [
      | then-is_empty-via-then-is_empty w ↦ search (numeral_empty, rules)
      | then-is_empty-via-else-is_empty+then-min-t w ↦ search (numeral_long, rules)
      | then-is_empty-via-else-is_empty+else-min-t+then-not-leads_well w ↦ search (numeral_zero, rules)
    ]

pub returns : goal.returns
returns c =
    numeral_read _ _ _ c.leads_well.ensures _ _ c.if-not-leads_well.false c.digits.ensures c.is_empty.ensures c.if-is_empty.false (omega arith)
