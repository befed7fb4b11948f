-- One law for each return, and one for a line with a number.
use Rattle.index.proofs.DashLaws.{dashes_begin, lines_unended, lines_none, lines_other, lines_done, lines_malformed, lines_step}
use Rattle.index.proofs.dashes.compare.Goals.{then-empty-via-then-empty, then-empty-via-else-empty+then-not-only_zeros}
use Rattle.index.proofs.dashes.compare.Goals as goal

pub loop-line-init : goal.loop-line-init
loop-line-init c = dashes_begin _ c.new-comparison.result c.new-comparison.ensures _

pub returns-then-empty : goal.returns-then-empty
returns-then-empty c =
    let none = lines_none _ _ c.loop-line.comparison _ c.loop-line.invariant _ c.line_at.ensures _ c.in-Some.is _ c.is.ensures c.if-is.true in
    let other = lines_other _ _ c.loop-line.comparison _ c.loop-line.invariant _ c.line_at.ensures _ c.in-Some.is _ c.is.ensures c.if-is.true in
    elim c.then-empty.branch [
      | then-empty-via-then-empty w ↦ none w.if-empty.true
      | then-empty-via-else-empty+then-not-only_zeros w ↦ other _ w.only_zeros.ensures w.if-not-only_zeros.true
    ]

pub returns-then-is : goal.returns-then-is
returns-then-is c =
    lines_done _ _ c.loop-line.comparison _ c.loop-line.invariant _ c.line_at.ensures _ c.in-Some.is _ c.is.ensures c.if-is.true _ c.only_zeros.ensures c.if-not-only_zeros.false c.if-empty.false _ c.is_good.ensures

pub returns-in_err-x : goal.returns-in_err-x
returns-in_err-x c =
    lines_malformed _ _ c.loop-line.comparison _ c.loop-line.invariant _ c.line_at.ensures _ c.in-Some.is _ c.is.ensures c.if-is.false _ c.dash_number.ensures c.in_err-x.was _ c.from_residual.ensures

pub loop-line-preserved : goal.loop-line-preserved
loop-line-preserved c =
    lines_step _ _ c.loop-line.comparison _ c.loop-line.invariant _ c.line_at.ensures _ c.in-Some.is _ c.is.ensures c.if-is.false _ c.dash_number.ensures _ c.in_ok-x.was c.add.new.self c.add.ensures

pub returns : goal.returns
returns c = lines_unended _ _ c.loop-line.comparison _ c.loop-line.invariant _ c.line_at.ensures c.in_default.is
