use Rattle.std.proofs.Common.{rules}
use Rattle.md5_parts.proofs.PartLaws.{digest_made}
use Rattle.md5_parts.proofs.state.Md5.digest.Goals as goal

pub returns : goal.returns
returns c = search (digest_made, rules)
