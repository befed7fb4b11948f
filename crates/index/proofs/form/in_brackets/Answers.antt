-- What is in brackets is there if both brackets are.
use Rattle.index.proofs.StripLaws.{stripped, stripped_last}
use Rattle.index.proofs.FormLaws.{unopened, opened}
use Rattle.index.proofs.form.in_brackets.Goals as goal

pub returns-in_err-strip_prefix : goal.returns-in_err-strip_prefix
returns-in_err-strip_prefix c =
    unopened c.args.t.now _ (stripped _ c.args.t.now _ c.strip_prefix.ensures.cases) c.in_err-strip_prefix.was _ c.from_residual.ensures

pub returns : goal.returns
returns c =
    opened c.args.t.now _ (stripped _ c.args.t.now _ c.strip_prefix.ensures.cases) _ c.in_ok-strip_prefix.was _ (stripped_last 93 c.in_ok-strip_prefix.field-0.now _ c.strip_suffix.ensures.cases)
