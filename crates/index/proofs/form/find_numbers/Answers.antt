-- One law for each return: the lines are read one by one.
use Rattle.index.proofs.FormLaws.{index_other, yaml_other, yaml_after}
use Rattle.index.proofs.form.find_numbers.Goals as goal

pub returns-in_err-second : goal.returns-in_err-second
returns-in_err-second c = index_other _ _ c.exact_line.ensures c.in_err-second.was _ c.from_residual.ensures

pub returns-in_err-third : goal.returns-in_err-third
returns-in_err-third c = yaml_other _ _ c.exact_line.ensures _ _ c.in_ok-second.was _ c.exact_line-2.ensures c.in_err-third.was _ c.from_residual-in_err-third.ensures

pub returns : goal.returns
returns c = yaml_after _ _ c.exact_line.ensures _ _ c.in_ok-second.was _ c.exact_line-2.ensures _ _ c.in_ok-third.was _ c.styled_numbers.ensures
