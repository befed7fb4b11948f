use Rattle.std.proofs.Common.{◌≡◌, rules}
use Rattle.format.specs.Outcome.{refused}
use Rattle.running.proofs.ReturnLaws.{part_none, part_refused, part_unwritten, part_put}
use Rattle.running.proofs.part.Goals as goal

pub returns-in_err-decode : goal.returns-in_err-decode
returns-in_err-decode c =
    let is : c.from_residual.result ≡ refused c.in_err-decode.field-0.0 = search rules in
    part_none _ _ c.decode.ensures _ _ c.in_err-decode.was _ is

pub returns-in_err-fed : goal.returns-in_err-fed
returns-in_err-fed c =
    let is : c.from_residual-in_err-fed.result ≡ refused c.in_err-fed.field-0.0 = search rules in
    part_refused _ _ c.decode.ensures _ _ c.in_ok-decode.was _ c.part-fed.ensures _ c.in_err-fed.was _ is

pub returns-in_err-write_text : goal.returns-in_err-write_text
returns-in_err-write_text c =
    part_unwritten _ _ c.decode.ensures _ _ c.in_ok-decode.was _ c.part-fed.ensures _ c.in_ok-fed.was _ c.encode.ensures (search rules) _ _ c.write_text.ensures
    _ c.in_err-write_text.was _

pub returns : goal.returns
returns c = part_put _ _ c.decode.ensures _ _ c.in_ok-decode.was _ c.part-fed.ensures _ c.in_ok-fed.was _ c.encode.ensures (search rules) _ _ c.write_text.ensures
