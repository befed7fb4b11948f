use Rattle.std.proofs.Common.{◌≡◌, rules}
use Rattle.format.specs.Outcome.{refused}
use Rattle.running.proofs.ReturnLaws.{digest_none, digest_written}
use Rattle.running.proofs.digest.Goals as goal

pub returns-in_err-decode : goal.returns-in_err-decode
returns-in_err-decode c =
    let is : c.from_residual.result ≡ refused c.in_err-decode.field-0.0 = search rules in
    digest_none _ _ c.decode.ensures _ c.in_err-decode.was _ is _

pub returns : goal.returns
returns c = digest_written _ _ c.decode.ensures _ c.in_ok-decode.was _ c.digest.ensures _ _ _ c.write_text.ensures
