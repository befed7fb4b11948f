use Rattle.std.proofs.Common.{rules}
use Rattle.md5_parts.proofs.MixLaws.{sum_is_g}
use Rattle.md5_parts.proofs.rounds.SecondRound.mix.Goals as goal

pub returns : goal.returns
returns c = search (sum_is_g, rules)
