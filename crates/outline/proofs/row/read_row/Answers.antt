-- One law for each return: the bytes are not there, or the row is read from them.
use Rattle.std.proofs.Common.{◌∙◌, rules}
use Rattle.outline.proofs.RowLaws.{row_outside, row_cut, row_there}
use Rattle.outline.proofs.row.read_row.Goals as goal

pub returns-in_err-get : goal.returns-in_err-get
returns-in_err-get c = search (row_outside, rules)

pub returns-in_err-bytes : goal.returns-in_err-bytes
returns-in_err-bytes c =
    let cut = row_cut c.args.s.now c.args.at _ c.in_ok-get.ensures.lookup.0.3 c.in_err-bytes.ensures.cases in
    c.from_residual-in_err-bytes.ensures ∙ cut

pub returns : goal.returns
returns c =
    let there = c.in_ok-get.ensures.lookup.0 in
    row_there _ _ _ _ there.0 there.2 there.3 c.in_ok-bytes.ensures.cases _ c.decode.ensures
