use Rattle.std.proofs.Common.{rules}
use Rattle.md5_parts.proofs.MixLaws.{choose_is_f}
use Rattle.md5_parts.proofs.rounds.FirstRound.mix.Goals as goal

pub returns : goal.returns
returns c = search (choose_is_f, rules)
