-- One law for each return.
use Rattle.index.proofs.StripLaws.{stripped}
use Rattle.index.proofs.DashLaws.{dash_other, dash_numeral}
use Rattle.index.proofs.dashes.dash_number.Goals as goal

pub returns-in_err-digits : goal.returns-in_err-digits
returns-in_err-digits c = dash_other c.args.t.now _ (stripped _ c.args.t.now _ c.strip_prefix.ensures.cases) c.in_err-digits.was _ c.from_residual.ensures

pub returns : goal.returns
returns c = dash_numeral c.args.t.now _ (stripped _ c.args.t.now _ c.strip_prefix.ensures.cases) _ c.in_ok-digits.was _ c.trim_end.ensures _ c.numeral.ensures
