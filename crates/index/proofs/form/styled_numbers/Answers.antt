-- One law for each return: the start line determines the style.
use Rattle.index.proofs.FormLaws.{start_unended, start_dashes, start_other, start_unbracketed, start_brackets}
use Rattle.index.proofs.form.styled_numbers.Goals as goal

pub returns-in_err-line : goal.returns-in_err-line
returns-in_err-line c = start_unended _ _ _ c.line_at.ensures c.in_err-line.was _ c.from_residual.ensures

pub returns-then-is : goal.returns-then-is
returns-then-is c = start_dashes _ _ _ c.line_at.ensures _ c.in_ok-line.was _ c.is.ensures c.if-is.true

pub returns-then-not-ends_at : goal.returns-then-not-ends_at
returns-then-not-ends_at c = start_other _ _ _ c.line_at.ensures _ c.in_ok-line.was _ c.is.ensures c.if-is.false _ c.ends_at.ensures c.if-not-ends_at.true

pub returns-in_err-list : goal.returns-in_err-list
returns-in_err-list c =
    start_unbracketed _ _ _ c.line_at.ensures _ c.in_ok-line.was _ c.is.ensures c.if-is.false _ c.ends_at.ensures c.if-not-ends_at.false _ c.in_brackets.ensures c.in_err-list.was _ c.from_residual-in_err-list.ensures

pub returns : goal.returns
returns c =
    start_brackets _ _ _ c.line_at.ensures _ c.in_ok-line.was _ c.is.ensures c.if-is.false _ c.ends_at.ensures c.if-not-ends_at.false _ c.in_brackets.ensures _ c.in_ok-list.was
