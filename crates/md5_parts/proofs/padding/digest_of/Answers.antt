use Rattle.std.proofs.Common.{rules}
use Rattle.md5_parts.specs.Md5.{digest_of}
use Rattle.md5_parts.proofs.padding.digest_of.Goals as goal

pub returns : goal.returns
unfolding digest_of
returns c = search rules
